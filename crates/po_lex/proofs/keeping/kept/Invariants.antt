use Rattle.std.proofs.Common.{◌-◌, ◌≤◌, ◌++◌, List, length, drop}
use Rattle.po_base.specs.declared.token.Token.{Token}
use Rattle.po_lex.specs.Keeping.{Keeps, at_start}
use Rattle.po_lex.proofs.keeping.kept.Given as goal

abbrev pub invariant-loop-at : goal.invariant-loop-at
invariant-loop-at l = record {
  within : l.at ≤ length l.read;
  depth : l.context.depth ≤ l.at;
  keeps : (kept : List Token) → Keeps l.context (drop l.at l.read) kept → Keeps at_start l.read (l.list ++ kept);
}

abbrev pub decreases-loop-at : goal.decreases-loop-at
decreases-loop-at l = length l.read - l.at
