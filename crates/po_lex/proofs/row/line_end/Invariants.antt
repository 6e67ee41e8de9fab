use Rattle.std.proofs.Common.{◌≡◌, ◌-◌, ◌≤◌, ◌++◌, take, drop, length}
use Rattle.po_lex.specs.Rows.{front, skip}
use Rattle.po_lex.specs.declared.row.Row.TheVariants as r
use Rattle.po_lex.proofs.row.line_end.Given as goal

abbrev pub invariant-loop-end : goal.invariant-loop-end
invariant-loop-end l = record {
  after : l.at ≤ l.end;
  within : l.end ≤ length l.bytes;
  front : take (l.end - l.at) (drop l.at l.bytes) ++ front r.Line l.before (drop l.end l.bytes) ≡ front r.Line (0) (drop l.at l.bytes);
  rest : skip r.Line l.before (drop l.end l.bytes) ≡ skip r.Line (0) (drop l.at l.bytes);
}

abbrev pub decreases-loop-end : goal.decreases-loop-end
decreases-loop-end l = length l.bytes - l.end
