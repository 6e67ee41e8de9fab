-- What a predicate becomes at the entry of its function holds no more often than the predicate does.
use Rattle.std.proofs.Common.{◌≡◌, ℕ, Bool, true, false, cond, refl, sym, ◌∙◌, ap, subst, arith}
use Rattle.std.specs.Prelude.{Option, Some, None, ℤ, pos, ◌+ℤ◌, nat_lt}
use Rattle.std.proofs.lemmas.Bool.{ltb-true}
use Rattle.std.proofs.lemmas.Int.{ints}
use Rattle.po_base.specs.declared.numbers.RegNo.{RegNo}
use Rattle.po_pred.specs.declared.pred.Atom.{Atom}
use Rattle.po_pred.specs.declared.pred.Atom.TheVariants.{Reg, Param}
use Rattle.po_pred.specs.declared.pred.Place.{Place}
use Rattle.po_pred.specs.declared.pred.Pred.{Pred}
use Rattle.po_pred.specs.declared.pred.Pred.TheVariants.{Nonzero, NoOver}
use Rattle.po_app.specs.Predicates.{IsOfType, IsMoved}
use Rattle.po_app.specs.Discharge.{ints as all_ints, range_from}
use Rattle.po_app.specs.Delegation.{argument_place, range_place, entered, entry_place, entry_second, entry_predicate}
use Rattle.po_app.specs.Meaning.{number, Frame, atom_value, Chooses, SecondChooses, Holds}
use Rattle.po_app.proofs.Soundness.Registers.{HoldArguments}
use Rattle.po_app.proofs.Soundness.Places.{IsReady, SecondReady, AreReady, same_number, ready_number, second_number}

-- a number of a register that holds an int is in the register's range
in_range : (r : RegNo) (p : Place) (frame : Frame) (v u : ℤ) → p.atom ≡ Some (Reg r) → IsOfType 32 u → IsMoved p u v → Chooses frame (range_place p) v
in_range r p frame v u is int moved =
    let low : (range_from p.atom p).lo ≡ all_ints.lo +ℤ p.lo = ap (λ atom. (range_from atom p).lo) is in
    let high : (range_from p.atom p).hi ≡ all_ints.hi +ℤ p.hi = ap (λ atom. (range_from atom p).hi) is in
    let above = moved.0 in
    let below = moved.1 in
    let least = int.0 in
    let most = int.1 in
    (pos 0, refl, (omega (arith, ints, low, above, least), omega (arith, ints, high, below, most)))

register_chooses : (params : ℕ) (r : RegNo) (p : Place) (frame : Frame) (v u : ℤ) (known : Bool) → nat_lt r.0 params ≡ known → p.atom ≡ Some (Reg r) → HoldArguments params frame.regs frame.args →
    IsOfType 32 u → atom_value frame (Some (Reg r)) ≡ Some (number u) → IsMoved p u v → Chooses frame (cond known (argument_place r.0 p) (range_place p)) v
register_chooses params r p frame v u true below is args int at moved = (u, sym (args r.0 (ltb-true r.0 params below)) ∙ at, moved)
register_chooses params r p frame v u false below is args int at moved = in_range r p frame v u is int moved

entered_chooses : (params : ℕ) (atom : Option Atom) (p : Place) (frame : Frame) (v u : ℤ) → p.atom ≡ atom → HoldArguments params frame.regs frame.args →
    IsOfType 32 u → atom_value frame atom ≡ Some (number u) → IsMoved p u v → Chooses frame (entered params atom p) v
entered_chooses params None p frame v u is args int at moved = (u, ap (atom_value frame) is ∙ at, moved)
entered_chooses params (Some (Param i)) p frame v u is args int at moved = (u, ap (atom_value frame) is ∙ at, moved)
entered_chooses params (Some (Reg r)) p frame v u is args int at moved = register_chooses params r p frame v u (nat_lt r.0 params) refl is args int at moved

-- a number of a place is one of what the place is at the entry
entry_chooses : (params : ℕ) (p : Place) (frame : Frame) (v : ℤ) → HoldArguments params frame.regs frame.args → IsReady frame p → Chooses frame p v → Chooses frame (entry_place params p) v
entry_chooses params p frame v args k c =
    entered_chooses params p.atom p frame v c.0 refl args (subst (IsOfType 32) (same_number k.0 c.0 (sym k.1 ∙ c.1)) k.2) c.1 c.2

second_chooses : (params : ℕ) (b : Option Place) (frame : Frame) (w : ℤ) → HoldArguments params frame.regs frame.args → SecondReady frame b → SecondChooses frame b w → SecondChooses frame (entry_second params b) w
second_chooses params None frame w args k c = c
second_chooses params (Some p) frame w args k c = entry_chooses params p frame w args k c

-- a predicate holds where that holds which it is at the entry
pub delegated_holds : (params : ℕ) (q : Pred) (frame : Frame) → HoldArguments params frame.regs frame.args → AreReady frame q → Holds frame (entry_predicate params q) → Holds frame q
delegated_holds params (Nonzero x) frame args k h = (ready_number frame x k, λ v c. h.1 v (entry_chooses params x frame v args k c))
delegated_holds params (NoOver op bits a b) frame args k h =
    (ready_number frame a k.0, second_number frame b k.1, λ v w c d. h.2 v w (entry_chooses params a frame v args k.0 c) (second_chooses params b frame w args k.1 d))
delegated_holds params _ frame args k h = absurd k
