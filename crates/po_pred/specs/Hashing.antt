-- What a hasher is fed of places and predicates.
use Rattle.std.specs.Prelude.{ℕ, List, ◌++◌}
use Rattle.std.specs.Hash as fed
use Rattle.po_pred.specs.declared.pred.Place.{Place}
use Rattle.po_pred.specs.declared.pred.Pred.{Pred}
use Rattle.po_pred.specs.declared.view.View.{View}
use Rattle.po_pred.specs.Order.{atom_rank, atom_number, operator_rank}
use Rattle.po_pred.specs.View.{view_of}

abbrev pub place_writes : Place → List (List ℕ)
place_writes p = fed.u8 (atom_rank p.atom) ++ fed.u32 (atom_number p.atom) ++ fed.i128 p.lo ++ fed.i128 p.hi

abbrev pub places_writes : View → List (List ℕ)
places_writes v = fed.option place_writes v.first ++ fed.option place_writes v.second ++ fed.option place_writes v.third

abbrev pub numbers_writes : View → List (List ℕ)
numbers_writes v = fed.i64 v.factor ++ fed.i128 v.low ++ fed.i128 v.high

abbrev pub view_writes : View → List (List ℕ)
view_writes v = fed.u8 v.kind ++ fed.u8 (operator_rank v.operator) ++ fed.u8 v.width ++ places_writes v ++ numbers_writes v

-- what its order compares
abbrev pub pred_writes : Pred → List (List ℕ)
pred_writes p = view_writes (view_of p)
