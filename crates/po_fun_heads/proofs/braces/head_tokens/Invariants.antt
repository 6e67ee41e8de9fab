use Rattle.std.proofs.Common.{◌≡◌, ◌≤◌, ◌+◌, ◌-◌, map, length}
use Rattle.po_tree.specs.Signs.{sign_of}
use Rattle.po_exp_parts.specs.Places.{signs_between}
use Rattle.po_fun_heads.specs.Braces.{Passes}
use Rattle.po_fun_heads.proofs.braces.head_tokens.Given as goal

abbrev pub invariant-loop-token : goal.invariant-loop-token
invariant-loop-token l = record {
  passes : Passes (signs_between l.tokens.list l.from l.to) (map sign_of l.head) (signs_between l.tokens.list l.at l.to) l.behind;
  after : l.from ≤ l.at;
  counted : l.at ≡ length l.head + l.from;
}

abbrev pub decreases-loop-token : goal.decreases-loop-token
decreases-loop-token l = l.to - l.at
