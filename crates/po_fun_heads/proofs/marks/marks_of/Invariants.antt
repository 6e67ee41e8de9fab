use Rattle.std.proofs.Common.{◌≤◌, ◌+◌, ◌-◌, length, map, take, drop}
use Rattle.po_fun_heads.specs.Marks.{spot, spots_between, Marking}
use Rattle.po_fun_heads.proofs.marks.marks_of.Given as goal

abbrev pub invariant-loop-token : goal.invariant-loop-token
invariant-loop-token l = record {
  made : Marking (spots_between l.tokens l.from l.to) l.marks l.names (map (spot l.tokens.names) (drop l.at (take l.to l.tokens.list)));
  few : length l.names + l.from ≤ l.at;
}

abbrev pub decreases-loop-token : goal.decreases-loop-token
decreases-loop-token l = l.to - l.at
