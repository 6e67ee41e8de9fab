-- The comparison of predicates is an order, and equal predicates are the same.
use Rattle.std.specs.Prelude.{ℕ, [], ◌∷◌, Option, Some, None, ◌≡◌, ◌↔◌, IsTrue, slice_index_or}
use Rattle.std.proofs.Common.{refl, sym, ap, ◌∙◌, arith}
use Rattle.std.specs.Option.{option_cmp}
use Rattle.std.specs.declared.cmp.Ordering.{Ordering}
use Rattle.std.specs.declared.cmp.Ordering.TheVariants.{Less, Equal, Greater}
use Rattle.std.specs.Ordering.{ordering_reverse, is_eq, eq_by_cmp}
use Rattle.std.specs.Cmp.{IsTotalOrder, then_total, on_total, nat_cmp_total, int_cmp_total, Equal-is, tied_itself}
use Rattle.std.specs.Cmp.Lexicographic.{options_total}
use Rattle.po_lists.proofs.Orders.{both_equal, int_same}
use Rattle.std.proofs.lemmas.Map.Lookups.{exact_unsigned}
use Rattle.po_pred.specs.declared.pred.Atom.{Atom}
use Rattle.po_pred.specs.declared.pred.Atom.TheVariants.{Reg, Param}
use Rattle.po_pred.specs.declared.pred.Place.{Place}
use Rattle.po_pred.specs.declared.pred.Over.{Over}
use Rattle.po_pred.specs.declared.pred.Over.TheVariants.{Add, Sub, Mul, Div, Rem, Shl, Neg}
use Rattle.po_pred.specs.declared.pred.Why.TheVariants.{Unread, End, Extern}
use Rattle.po_pred.specs.declared.pred.Pred.{Pred}
use Rattle.po_pred.specs.declared.pred.Pred.TheVariants.{NotNull, Live, Span, Filled, RegSet, Writable, Nonzero, NoOver, IntIn, Aligned, SameBlock, HeapStart, Terminated, Apart, RoomFor, Never}
use Rattle.po_pred.specs.declared.view.View.{View}
use Rattle.po_pred.specs.View.{view_of, viewed}
use Rattle.po_pred.specs.Order.{atom_rank, atom_number, place_cmp, operator_rank, places_cmp, numbers_cmp, view_cmp, pred_cmp, IsOrder}

-- ---- total

pub place_total : IsTotalOrder place_cmp
place_total =
    then_total (on_total (λ p. atom_rank p.atom) nat_cmp_total)
    (then_total (on_total (λ p. atom_number p.atom) nat_cmp_total)
    (then_total (on_total (λ p. p.lo) int_cmp_total) (on_total (λ p. p.hi) int_cmp_total)))

places_total : IsTotalOrder places_cmp
places_total =
    then_total (on_total (λ v. v.first) (options_total place_total))
    (then_total (on_total (λ v. v.second) (options_total place_total)) (on_total (λ v. v.third) (options_total place_total)))

numbers_total : IsTotalOrder numbers_cmp
numbers_total =
    then_total (on_total (λ v. v.factor) int_cmp_total)
    (then_total (on_total (λ v. v.low) int_cmp_total) (on_total (λ v. v.high) int_cmp_total))

view_total : IsTotalOrder view_cmp
view_total =
    then_total (on_total (λ v. v.kind) nat_cmp_total)
    (then_total (on_total (λ v. operator_rank v.operator) nat_cmp_total)
    (then_total (on_total (λ v. v.width) nat_cmp_total) (then_total places_total numbers_total)))

pub pred_total : IsTotalOrder pred_cmp
pred_total = on_total view_of view_total

-- ---- equal is the same

atom_same : (a b : Option Atom) → atom_rank a ≡ atom_rank b → atom_number a ≡ atom_number b → a ≡ b
atom_same None None rank number = refl
atom_same None (Some (Reg r)) rank number = absurd (omega arith)
atom_same None (Some (Param i)) rank number = absurd (omega arith)
atom_same (Some (Reg r)) None rank number = absurd (omega arith)
atom_same (Some (Reg r)) (Some (Reg s)) rank number = λ i. Some (Reg (record { 0 = number i }))
atom_same (Some (Reg r)) (Some (Param i)) rank number = absurd (omega arith)
atom_same (Some (Param i)) None rank number = absurd (omega arith)
atom_same (Some (Param i)) (Some (Reg r)) rank number = absurd (omega arith)
atom_same (Some (Param i)) (Some (Param j)) rank number = λ k. Some (Param (number k))

pub place_same : (p q : Place) → place_cmp p q ≡ Equal → p ≡ q
place_same p q same =
    let at_rank = both_equal _ _ same in
    let at_number = both_equal _ _ at_rank.1 in
    let at_lo = both_equal _ _ at_number.1 in
    let atom = atom_same p.atom q.atom (exact_unsigned _ _ at_rank.0) (exact_unsigned _ _ at_number.0) in
    let lo = int_same _ _ at_lo.0 in
    let hi = int_same _ _ at_lo.1 in
    λ i. record { atom = atom i; lo = lo i; hi = hi i }

optional_same : (x y : Option Place) → option_cmp place_cmp x y ≡ Equal → x ≡ y
optional_same None None same = refl
optional_same None (Some y) same = cc
optional_same (Some x) None same = cc
optional_same (Some x) (Some y) same = ap Some (place_same x y same)

-- the operator of a number
abbrev operator_at : ℕ → Option Over
operator_at n = slice_index_or (None ∷ Some Add ∷ Some Sub ∷ Some Mul ∷ Some Div ∷ Some Rem ∷ Some Shl ∷ Some Neg ∷ []) n None

operator_back : (op : Option Over) → operator_at (operator_rank op) ≡ op
operator_back None = refl
operator_back (Some Add) = refl
operator_back (Some Sub) = refl
operator_back (Some Mul) = refl
operator_back (Some Div) = refl
operator_back (Some Rem) = refl
operator_back (Some Shl) = refl
operator_back (Some Neg) = refl

operator_same : (o p : Option Over) → operator_rank o ≡ operator_rank p → o ≡ p
operator_same o p rank = sym (operator_back o) ∙ ap operator_at rank ∙ operator_back p

view_same : (v w : View) → view_cmp v w ≡ Equal → v ≡ w
view_same v w same =
    let at_kind = both_equal _ _ same in
    let at_operator = both_equal _ _ at_kind.1 in
    let at_width = both_equal _ _ at_operator.1 in
    let at_places = both_equal (places_cmp v w) (numbers_cmp v w) at_width.1 in
    let at_first = both_equal _ _ at_places.0 in
    let at_second = both_equal _ _ at_first.1 in
    let at_factor = both_equal _ _ at_places.1 in
    let at_low = both_equal _ _ at_factor.1 in
    let kind = exact_unsigned _ _ at_kind.0 in
    let operator = operator_same v.operator w.operator (exact_unsigned _ _ at_operator.0) in
    let width = exact_unsigned _ _ at_width.0 in
    let first = optional_same _ _ at_first.0 in
    let second = optional_same _ _ at_second.0 in
    let third = optional_same _ _ at_second.1 in
    let factor = int_same _ _ at_factor.0 in
    let low = int_same _ _ at_low.0 in
    let high = int_same _ _ at_low.1 in
    λ i. record { kind = kind i; operator = operator i; width = width i; first = first i; second = second i; third = third i; factor = factor i; low = low i; high = high i }

-- a predicate is what its view says
pub viewed_back : (p : Pred) → viewed (view_of p) ≡ p
viewed_back (NotNull p) = refl
viewed_back (Live p) = refl
viewed_back (Span p factor lo hi) = refl
viewed_back (Filled p factor lo hi) = refl
viewed_back (RegSet v) = refl
viewed_back (Writable p) = refl
viewed_back (Nonzero x) = refl
viewed_back (NoOver op bits a b) = refl
viewed_back (IntIn x lo hi) = refl
viewed_back (Aligned p a) = refl
viewed_back (SameBlock p q) = refl
viewed_back (HeapStart p) = refl
viewed_back (Terminated p) = refl
viewed_back (Apart p q n) = refl
viewed_back (RoomFor p q) = refl
viewed_back (Never Unread) = refl
viewed_back (Never End) = refl
viewed_back (Never Extern) = refl

pub views_tell : (p q : Pred) → view_of p ≡ view_of q → p ≡ q
views_tell p q same = sym (viewed_back p) ∙ ap viewed same ∙ viewed_back q

pred_same : (p q : Pred) → pred_cmp p q ≡ Equal → p ≡ q
pred_same p q same = views_tell p q (view_same (view_of p) (view_of q) same)

-- ---- the order

turned_up : (r : Ordering) → ordering_reverse r ≡ Less → r ≡ Greater
turned_up Less greater = cc
turned_up Equal greater = cc
turned_up Greater greater = refl

turned_down : (r : Ordering) → ordering_reverse r ≡ Greater → r ≡ Less
turned_down Less less = refl
turned_down Equal less = cc
turned_down Greater less = cc

pub pred_order : IsOrder pred_cmp
pred_order = record {
  same = λ p q. (pred_same p q, λ e. ap (pred_cmp p) (sym e) ∙ tied_itself pred_total p);
  turned = λ p q. (λ less. turned_up (pred_cmp q p) (sym (pred_total.antisymm p q) ∙ less), λ greater. turned_down (pred_cmp p q) (sym (pred_total.antisymm q p) ∙ greater));
  after = pred_total.trans;
}

equal_test : (r : Ordering) → IsTrue (is_eq r) ↔ (r ≡ Equal)
equal_test r = Equal-is r

pub equal_are_same : (p q : Pred) → IsTrue (eq_by_cmp pred_cmp p q) ↔ (p ≡ q)
equal_are_same p q =
    let test = equal_test (pred_cmp p q) in
    let order = pred_order.same p q in
    (λ h. order.0 (test.0 h), λ e. test.1 (order.1 e))

-- ---- what is read from equal ones is equal

pub alike_places : {X : Type 0} (f : Place → X) (p q : Place) → IsTrue (eq_by_cmp place_cmp p q) → f p ≡ f q
alike_places f p q h = ap f (place_same p q ((equal_test (place_cmp p q)).0 h))

pub alike_predicates : {X : Type 0} (f : Pred → X) (p q : Pred) → IsTrue (eq_by_cmp pred_cmp p q) → f p ≡ f q
alike_predicates f p q h = ap f ((equal_are_same p q).0 h)
