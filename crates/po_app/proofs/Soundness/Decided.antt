-- Each predicate whose places stand on ints holds in the frame or doesn't.
use Rattle.std.proofs.Common.{◌≡◌, ℕ, List, [], ◌∷◌, ◌++◌, refl, sym, ap, subst, ◌∙◌, ◌⊎◌, inl, inr, arith, true}
use Rattle.std.specs.Prelude.{ℤ, pos, ◌+ℤ◌, ◌-ℤ◌, ◌*ℤ◌, Option, Some, None}
use Rattle.std.specs.Int.RustNames.{int_div, int_rem}
use Rattle.std.proofs.lemmas.Bool.{cases_Bool, both_ways}
use Rattle.std.proofs.lemmas.Int.{ints, by_lt_z}
use Rattle.std.proofs.lemmas.List.Elements.{All-nil, All-cons}
use Rattle.po_arith.specs.declared.range.Range.{Range}
use Rattle.po_base.specs.declared.operators.Op.{Op}
use Rattle.po_base.specs.declared.operators.Op.TheVariants as op
use Rattle.po_base.specs.declared.operand.Opnd.{Opnd}
use Rattle.po_core.specs.Decided.{IsDecided}
use Rattle.po_lists.proofs.Members.{Has}
use Rattle.po_pred.specs.declared.pred.Over.{Over}
use Rattle.po_pred.specs.declared.pred.Place.{Place}
use Rattle.po_pred.specs.declared.pred.Pred.{Pred}
use Rattle.po_pred.specs.declared.pred.Pred.TheVariants.{Nonzero, NoOver}
use Rattle.po_app.specs.Predicates.{IsMoved}
use Rattle.po_app.specs.Ranges.{IsIn, NeverLeaves}
use Rattle.po_app.specs.Discharge.{stays}
use Rattle.po_app.specs.Obligations.{Asked, place}
use Rattle.po_app.specs.Meaning.{number, Frame, operand_value, Chooses, SecondChooses, Holds, AllHold, IsResult}
use Rattle.po_app.proofs.Tells.{stays_tells}
use Rattle.po_app.proofs.Soundness.Places.{IsReady, SecondReady, AreReady, same_number, ready_number, second_number, chooses}
use Rattle.po_app.proofs.Soundness.Results.{asks}
use Rattle.po_app.proofs.Soundness.Served.{is_arithmetic}

-- the numbers of which this is so are those of a range
record AreOfRange (IsSo : ℤ → Type 0) : Type 0 where
  range : Range
  covers : (v : ℤ) → IsSo v → IsIn range v
  within : (v : ℤ) → IsIn range v → IsSo v

chosen_range : (frame : Frame) (p : Place) → IsReady frame p → AreOfRange (Chooses frame p)
chosen_range frame p k = record {
  range = record { lo = k.0 +ℤ p.lo; hi = k.0 +ℤ p.hi };
  covers = λ v c. subst (λ u. IsMoved p u v) (same_number c.0 k.0 (sym c.1 ∙ k.1)) c.2;
  within = λ v moved. (k.0, k.1, moved);
}

second_range : (frame : Frame) (b : Option Place) → SecondReady frame b → AreOfRange (SecondChooses frame b)
second_range frame None k = record { range = record { lo = pos 0; hi = pos 0 }; covers = λ v c. (omega (arith, ints, c), omega (arith, ints, c)); within = λ v h. let low = h.0 in let high = h.1 in omega (arith, ints, low, high) }
second_range frame (Some p) k = chosen_range frame p k

is_in_decided : (range : Range) (v : ℤ) → IsDecided (IsIn range v)
is_in_decided range v =
    by_lt_z v range.lo (λ below. inr (λ h. let low = h.0 in absurd (omega (arith, ints)))) (λ low. by_lt_z range.hi v (λ above. inr (λ h. let high = h.1 in absurd (omega (arith, ints)))) (λ high. inl (low, high)))

never_leaves_decided : (o : Over) (bits : ℕ) (a b : Range) → IsDecided (NeverLeaves o bits a b)
never_leaves_decided o bits a b =
    by_lt_z a.hi a.lo (λ none. inl (λ v w p q. let low = p.0 in let high = p.1 in absurd (omega (arith, ints))))
    (λ a_sorted. by_lt_z b.hi b.lo (λ none. inl (λ v w p q. let low = q.0 in let high = q.1 in absurd (omega (arith, ints))))
    (λ b_sorted.
    let tells = stays_tells o bits a b a_sorted b_sorted in
    elim (cases_Bool (stays o bits a b)) [ inl so ↦ inl (tells.0 so) | inr not_so ↦ inr (λ h. both_ways (stays o bits a b) not_so (tells.1 h)) ]))

nonzero_decided : (x : Place) (frame : Frame) → IsReady frame x → IsDecided (Holds frame (Nonzero x))
nonzero_decided x frame k =
    let a = chosen_range frame x k in
    elim (is_in_decided a.range (pos 0)) [
      | inl there ↦ inr (λ h. h.1 (pos 0) (a.within (pos 0) there) refl)
      | inr other ↦ inl (ready_number frame x k, λ v c zero. other (subst (IsIn a.range) zero (a.covers v c)))
    ]

overflow_decided : (o : Over) (bits : ℕ) (x : Place) (y : Option Place) (frame : Frame) → IsReady frame x → SecondReady frame y → IsDecided (Holds frame (NoOver o bits x y))
overflow_decided o bits x y frame k l =
    let a = chosen_range frame x k in
    let b = second_range frame y l in
    elim (never_leaves_decided o bits a.range b.range) [
      | inl never ↦ inl (ready_number frame x k, second_number frame y l, λ v w c d. never v w (a.covers v c) (b.covers w d))
      | inr other ↦ inr (λ h. other (λ v w p q. h.2 v w (a.within v p) (b.within w q)))
    ]

pub predicate_decided : (q : Pred) (frame : Frame) → AreReady frame q → IsDecided (Holds frame q)
predicate_decided (Nonzero x) frame k = nonzero_decided x frame k
predicate_decided (NoOver o bits a b) frame k = overflow_decided o bits a b frame k.0 k.1
predicate_decided _ frame k = absurd k

-- the first that doesn't hold
pub record Fails (frame : Frame) (list : List Asked) : Type 0 where
  pub before : List Asked
  pub first : Asked
  pub after : List Asked
  pub split : list ≡ before ++ (first ∷ after)
  pub held : AllHold frame before
  pub fails : Holds frame first.1 → ⊥

-- all hold, or there is a first that doesn't
pub checked : (frame : Frame) (list : List Asked) → ((a : Asked) → Has list a → IsDecided (Holds frame a.1)) → AllHold frame list ⊎ Fails frame list
checked frame [] decided = inl (All-nil (λ (a : Asked). Holds frame a.1))
checked frame (a ∷ list) decided =
    elim (decided a (inl refl)) [
      | inl here ↦
          elim (checked frame list (λ b i. decided b (inr i))) [
            | inl all ↦ inl (All-cons (λ (b : Asked). Holds frame b.1) a list here all)
            | inr f ↦
                inr (record {
                  before = a ∷ f.before;
                  first = f.first;
                  after = f.after;
                  split = ap (λ l. a ∷ l) f.split;
                  held = All-cons (λ (b : Asked). Holds frame b.1) a f.before here f.held;
                  fails = f.fails;
                })
          ]
      | inr not_here ↦ inr (record { before = []; first = a; after = list; split = refl; held = All-nil (λ (b : Asked). Holds frame b.1); fails = not_here })
    ]

-- an operation of which all obligations hold has a result
pub result_there : (o : Op) (a b : Opnd) (frame : Frame) (v w : ℤ) → is_arithmetic o ≡ true → operand_value frame b ≡ Some (number w) → ((q : Pred) → Has (asks o a b) q → Holds frame q) → (x : ℤ) × IsResult o v w x
result_there op.Add a b frame v w h is all = (v +ℤ w, refl)
result_there op.Sub a b frame v w h is all = (v -ℤ w, refl)
result_there op.Mul a b frame v w h is all = (v *ℤ w, refl)
result_there op.Div a b frame v w h is all = (int_div v w, ((all (Nonzero (place b)) (inl refl)).1 w (chooses b frame w is), refl))
result_there op.Rem a b frame v w h is all = (int_rem v w, ((all (Nonzero (place b)) (inl refl)).1 w (chooses b frame w is), refl))
result_there op.And a b frame v w h is all = absurd (cc)
result_there op.Or a b frame v w h is all = absurd (cc)
result_there op.Xor a b frame v w h is all = absurd (cc)
result_there op.Shl a b frame v w h is all = absurd (cc)
result_there op.Shr a b frame v w h is all = absurd (cc)
result_there op.Eq a b frame v w h is all = absurd (cc)
result_there op.Ne a b frame v w h is all = absurd (cc)
result_there op.Lt a b frame v w h is all = absurd (cc)
result_there op.Le a b frame v w h is all = absurd (cc)
result_there op.Gt a b frame v w h is all = absurd (cc)
result_there op.Ge a b frame v w h is all = absurd (cc)
