use Rattle.std.proofs.Common.{◌≡◌, ◌≤◌, [], ◌∷◌, ◌++◌, take, length}
use Rattle.po_pred.specs.declared.pred.Pred.{Pred}
use Rattle.po_app.specs.Obligations.{each_from, predicates}
use Rattle.po_app.proofs.book.add_places.Given as goal

abbrev pub invariant-loop : goal.invariant-loop
invariant-loop l = record {
  counted : l.place ≡ l.index;
  asked : l.items ≡ predicates l.node.instr;
  few : length l.items ≤ 2;
  places : l.places ≡ l.fn.places ++ each_from (λ i (q : Pred). (l.at, i) ∷ []) 0 (take l.index l.items);
}
