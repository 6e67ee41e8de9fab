-- Where the obligations of an operation hold, its result is an int; each of its obligations is about its operands.
use Rattle.std.proofs.Common.{◌≡◌, ℕ, zero, suc, ◌+◌, ◌∙◌, arith, List, [], ◌∷◌, refl, sym, ap, subst, inl, inr}
use Rattle.std.specs.Prelude.{ℤ, Some, slice_get, true}
use Rattle.std.proofs.lemmas.List.Elements.{All-head, All-tail}
use Rattle.po_base.specs.declared.operators.Op.{Op}
use Rattle.po_base.specs.declared.operators.Op.TheVariants as op
use Rattle.po_base.specs.declared.operand.Opnd.{Opnd}
use Rattle.po_lists.proofs.Members.{Has}
use Rattle.po_pred.specs.declared.pred.Over.{Over}
use Rattle.po_pred.specs.declared.pred.Over.TheVariants.{Add, Sub, Mul, Div, Rem}
use Rattle.po_pred.specs.declared.pred.Pred.{Pred}
use Rattle.po_pred.specs.declared.pred.Pred.TheVariants.{Nonzero, NoOver}
use Rattle.po_app.specs.Predicates.{IsOfType, Fits}
use Rattle.po_app.specs.Obligations.{Asked, place, operator_predicates, primary, each_from}
use Rattle.po_app.specs.Meaning.{number, Frame, operand_value, Holds, AllHold, IsResult}
use Rattle.po_app.proofs.Soundness.Numbers.{quotient_int, remainder_int}
use Rattle.po_app.proofs.Soundness.Places.{IsAbout, chooses}

-- the obligations of predicates, counted from m on
abbrev pub counted : ℕ → ℕ → ℕ → List Pred → List Asked
counted f n m qs = each_from (λ i q. (primary f n i, q) ∷ []) m qs

pub counted_held : (f n m : ℕ) (qs : List Pred) (q : Pred) (frame : Frame) → AllHold frame (counted f n m qs) → Has qs q → Holds frame q
counted_held f n m [] q frame all i = absurd i
counted_held f n m (r ∷ rs) q frame all (inl same) = subst (Holds frame) same (All-head (λ (a : Asked). Holds frame a.1) (primary f n m, r) (counted f n (m + 1) rs) all)
counted_held f n m (r ∷ rs) q frame all (inr i) = counted_held f n (m + 1) rs q frame (All-tail (λ (a : Asked). Holds frame a.1) (primary f n m, r) (counted f n (m + 1) rs) all) i

-- an obligation that is counted has its predicate at its place
pub counted_at : (f n m : ℕ) (qs : List Pred) (a : Asked) → Has (counted f n m qs) a → (i : ℕ) × (a.0 ≡ primary f n (m + i)) × (slice_get qs i ≡ Some a.1)
counted_at f n m [] a h = absurd h
counted_at f n m (r ∷ rs) a (inl same) =
    let none : m ≡ m + 0 = omega arith in
    (0, sym (ap (λ (b : Asked). b.0) same) ∙ ap (primary f n) none, ap (λ (b : Asked). Some b.1) same)
counted_at f n m (r ∷ rs) a (inr h) =
    let k = counted_at f n (m + 1) rs a h in
    let next : (m + 1) + k.0 ≡ m + suc k.0 = omega arith in
    (suc k.0, k.1 ∙ ap (primary f n) next, k.2)

-- the item of a place
pub in_place : (qs : List Pred) (i : ℕ) (q : Pred) → slice_get qs i ≡ Some q → Has qs q
in_place [] i q e = absurd (cc)
in_place (r ∷ rs) zero q e = inl (cc)
in_place (r ∷ rs) (suc i) q e = inr (in_place rs i q e)

one_about : (o : Over) (a b : Opnd) (q : Pred) → Has (NoOver o 32 (place a) (Some (place b)) ∷ []) q → IsAbout a b q
one_about o a b q (inl same) = inr (o, sym same)
one_about o a b q (inr i) = absurd i

two_about : (o : Over) (a b : Opnd) (q : Pred) → Has (Nonzero (place b) ∷ (NoOver o 32 (place a) (Some (place b)) ∷ [])) q → IsAbout a b q
two_about o a b q (inl same) = inl (sym same)
two_about o a b q (inr i) = one_about o a b q i

-- the predicates of an operator of the type int
abbrev pub asks : Op → Opnd → Opnd → List Pred
asks o a b = operator_predicates o (record { bits = 32; signed = true }) (place a) (place b)

pub asks_about : (o : Op) (a b : Opnd) (q : Pred) → Has (asks o a b) q → IsAbout a b q
asks_about op.Add a b q i = one_about Add a b q i
asks_about op.Sub a b q i = one_about Sub a b q i
asks_about op.Mul a b q i = one_about Mul a b q i
asks_about op.Div a b q i = two_about Div a b q i
asks_about op.Rem a b q i = two_about Rem a b q i
asks_about op.And a b q i = absurd i
asks_about op.Or a b q i = absurd i
asks_about op.Xor a b q i = absurd i
asks_about op.Shl a b q i = absurd i
asks_about op.Shr a b q i = absurd i
asks_about op.Eq a b q i = absurd i
asks_about op.Ne a b q i = absurd i
asks_about op.Lt a b q i = absurd i
asks_about op.Le a b q i = absurd i
asks_about op.Gt a b q i = absurd i
asks_about op.Ge a b q i = absurd i

-- what the overflow obligation says of the operands' values
fits : (o : Over) (a b : Opnd) (frame : Frame) (v w : ℤ) → operand_value frame a ≡ Some (number v) → operand_value frame b ≡ Some (number w) →
    Holds frame (NoOver o 32 (place a) (Some (place b))) → Fits o 32 v w
fits o a b frame v w v_is w_is h = h.2 v w (chooses a frame v v_is) (chooses b frame w w_is)

-- the result of an operation of which all obligations hold
pub result_int : (o : Op) (a b : Opnd) (frame : Frame) (v w x : ℤ) → operand_value frame a ≡ Some (number v) → operand_value frame b ≡ Some (number w) → IsOfType 32 v →
    ((q : Pred) → Has (asks o a b) q → Holds frame q) → IsResult o v w x → IsOfType 32 x
result_int op.Add a b frame v w x p q t all is = subst (IsOfType 32) (sym is) (fits Add a b frame v w p q (all _ (inl refl)))
result_int op.Sub a b frame v w x p q t all is = subst (IsOfType 32) (sym is) (fits Sub a b frame v w p q (all _ (inl refl)))
result_int op.Mul a b frame v w x p q t all is = subst (IsOfType 32) (sym is) (fits Mul a b frame v w p q (all _ (inl refl)))
result_int op.Div a b frame v w x p q t all is = subst (IsOfType 32) (sym is.1) (quotient_int v w t (fits Div a b frame v w p q (all _ (inr (inl refl)))))
result_int op.Rem a b frame v w x p q t all is = subst (IsOfType 32) (sym is.1) (remainder_int v w t)
result_int op.And a b frame v w x p q t all is = absurd is
result_int op.Or a b frame v w x p q t all is = absurd is
result_int op.Xor a b frame v w x p q t all is = absurd is
result_int op.Shl a b frame v w x p q t all is = absurd is
result_int op.Shr a b frame v w x p q t all is = absurd is
result_int op.Eq a b frame v w x p q t all is = absurd is
result_int op.Ne a b frame v w x p q t all is = absurd is
result_int op.Lt a b frame v w x p q t all is = absurd is
result_int op.Le a b frame v w x p q t all is = absurd is
result_int op.Gt a b frame v w x p q t all is = absurd is
result_int op.Ge a b frame v w x p q t all is = absurd is
