use Rattle.std.proofs.Common.{◌≡◌, ◌-◌, ◌≤◌, take, drop, Some}
use Rattle.po_lex.specs.Brackets.{outset, state_of}
use Rattle.po_lex.specs.Pieces.{Divided, goes}
use Rattle.po_lex.proofs.shape.pieces.Given as goal

abbrev pub invariant-loop-at : goal.invariant-loop-at
invariant-loop-at l = record {
  within : l.from ≤ l.at;
  divided : Divided 0 l.pieces l.list l.from (drop l.from l.list);
  goes_to : goes (Some outset) (take (l.at - l.from) (drop l.from l.list)) ≡ Some (state_of l.nesting);
}
