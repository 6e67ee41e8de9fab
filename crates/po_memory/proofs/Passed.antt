-- With the arguments put in a predicate holds in the caller's frame exactly where it holds in the callee's.
use Rattle.std.proofs.Common.{◌≡◌, ℕ, List, refl, sym, ap, subst, ◌∙◌, inl, inr, arith}
use Rattle.std.specs.Prelude.{ℤ, pos, ◌≤ℤ◌, Option, Some, None, slice_get}
use Rattle.std.proofs.lemmas.Int.{ints}
use Rattle.std.proofs.lemmas.Option.{same_Some}
use Rattle.po_lists.proofs.Places.{zip_at}
use Rattle.po_memory.proofs.General.{one_number}
use Rattle.po_base.specs.declared.operand.Opnd.{Opnd}
use Rattle.po_base.specs.declared.operand.Opnd.TheVariants as operand
use Rattle.po_pred.specs.declared.pred.Atom.{Atom}
use Rattle.po_pred.specs.declared.pred.Atom.TheVariants.{Reg, Param}
use Rattle.po_pred.specs.declared.pred.Place.{Place}
use Rattle.po_pred.specs.declared.pred.Pred.{Pred}
use Rattle.po_pred.specs.Subst.{moved_to, moved_to_found, put_place, pointed_to, pointed_to_found, put_pointer, put_in}
use Rattle.po_memory.specs.declared.block.Block.{Block}
use Rattle.po_memory.specs.declared.frame.Frame.{Frame}
use Rattle.po_memory.specs.declared.value.Value.{Value}
use Rattle.po_memory.specs.declared.value.Value.TheVariants.{Number, Null}
use Rattle.po_memory.specs.Values.{moved, IsPointer}
use Rattle.po_memory.specs.Holding.{Holds}
use Rattle.po_memory.specs.Passing.{HasValue, ArePassed, ParameterIs, IsNumber, IsPointerPlace, IsNumberPlace, PlacesAre, SubstKeepsHolds}
use Rattle.po_memory.proofs.Along.{SamePointer, SameNumber, holds_along, own_places, places_turned}

abbrev placed : Option Atom → ℤ → ℤ → Place
placed atom lo hi = record { atom = atom; lo = lo; hi = hi }

-- what the choices of two pointers' places are, both ways
record BothPointers (f : Frame) (p : Place) (g : Frame) (r : Place) : Type 0 where
  there : SamePointer f p g r
  here : SamePointer g r f p

record BothNumbers (f : Frame) (x : Place) (g : Frame) (y : Place) : Type 0 where
  there : SameNumber f x g y
  here : SameNumber g y f x

-- an operand that is a number and a pointer is null
null_operand : (n : ℤ) (caller : Frame) (v : Value) → HasValue caller (operand.Num n) v → IsPointer v → v ≡ Null
null_operand n caller v (inl is) h = absurd (subst IsPointer is h)
null_operand n caller v (inr is) h = is.1

number_operand : (n u : ℤ) (caller : Frame) (v : Value) → HasValue caller (operand.Num n) v → v ≡ Number u → n ≡ u
number_operand n u caller v (inl is) e = let both : Number n ≡ Number u = sym is ∙ e in cc
number_operand n u caller v (inr is) e = let clash : Null ≡ Number u = sym is.1 ∙ e in cc

module _ (caller callee : Frame) (i : ℕ) (v : Value) (at : slice_get callee.args i ≡ Some v) (lo hi : ℤ) where
  pointer_passed : (o : Opnd) → HasValue caller o v → IsPointer v → lo ≤ℤ hi → BothPointers callee (placed (Some (Param i)) lo hi) caller (pointed_to o (placed (Some (Param i)) lo hi))
  pointer_passed (operand.Reg r) value is sorted = record {
    there = record {
      has = λ h. (h.0, value ∙ (sym at ∙ h.1), h.2);
      back = λ w c. (c.0, c.1, at ∙ (sym value ∙ c.2), c.3, c.4, c.5);
    };
    here = record {
      has = λ h. (h.0, at ∙ (sym value ∙ h.1), h.2);
      back = λ w c. (c.0, c.1, value ∙ (sym at ∙ c.2), c.3, c.4, c.5);
    };
  }
  pointer_passed (operand.Num n) value is sorted =
      let none : v ≡ Null = null_operand n caller v value is in
      record {
        there = record {
          has = λ h. (Null, refl, tt);
          back = λ w c. (Null, lo, at ∙ ap Some none, omega (arith, ints), sorted, c.5 ∙ ap (λ (u : Value). moved u c.1) (sym (same_Some Null c.0 c.2)));
        };
        here = record {
          has = λ h. (Null, at ∙ ap Some none, tt);
          back = λ w c. (Null, pos 0, refl, omega (arith, ints), omega (arith, ints), c.5 ∙ ap (λ (u : Value). moved u c.1) (sym (same_Some Null c.0 (sym (at ∙ ap Some none) ∙ c.2))));
        };
      }

  number_passed : (o : Opnd) (u : ℤ) → HasValue caller o v → v ≡ Number u → BothNumbers callee (placed (Some (Param i)) lo hi) caller (moved_to o (placed (Some (Param i)) lo hi))
  number_passed (operand.Reg r) u value is = record {
    there = record {
      has = λ h. (h.0, value ∙ (sym at ∙ h.1));
      back = λ z c. (c.0, at ∙ (sym value ∙ c.1), c.2, c.3);
    };
    here = record {
      has = λ h. (h.0, at ∙ (sym value ∙ h.1));
      back = λ z c. (c.0, value ∙ (sym at ∙ c.1), c.2, c.3);
    };
  }
  number_passed (operand.Num n) u value is =
      let same : n ≡ u = number_operand n u caller v value is in
      let stands : slice_get callee.args i ≡ Some (Number u) = at ∙ ap Some is in
      record {
        there = record {
          has = λ h. (pos 0, refl);
          back = λ z c. let none : pos 0 ≡ c.0 = one_number (pos 0) c.0 c.1 in let low = c.2 in let high = c.3 in (u, stands, omega (arith, ints), omega (arith, ints));
        };
        here = record {
          has = λ h. (u, stands);
          back = λ z c. let one : u ≡ c.0 = one_number u c.0 (sym stands ∙ c.1) in let low = c.2 in let high = c.3 in (pos 0, refl, omega (arith, ints), omega (arith, ints));
        };
      }

module _ (args : List Opnd) (caller callee : Frame) (passed : ArePassed caller args callee) where
  pointers_at : (atom : Option Atom) (lo hi : ℤ) → lo ≤ℤ hi → ParameterIs IsPointer callee atom → BothPointers callee (placed atom lo hi) caller (put_pointer args (placed atom lo hi))
  pointers_at None lo hi sorted h = record { there = record { has = λ k. k; back = λ v c. c }; here = record { has = λ k. k; back = λ v c. c } }
  pointers_at (Some (Reg r)) lo hi sorted h = absurd h
  pointers_at (Some (Param i)) lo hi sorted h =
      let o = zip_at (HasValue caller) args callee.args i h.0 passed h.1 in
      subst (λ x. BothPointers callee (placed (Some (Param i)) lo hi) caller (pointed_to_found x (placed (Some (Param i)) lo hi))) (sym o.1) (pointer_passed caller callee i h.0 h.1 lo hi o.0 o.2 h.2 sorted)

  numbers_at : (atom : Option Atom) (lo hi : ℤ) → ParameterIs IsNumber callee atom → BothNumbers callee (placed atom lo hi) caller (put_place args (placed atom lo hi))
  numbers_at None lo hi h = record { there = record { has = λ k. k; back = λ v c. c }; here = record { has = λ k. k; back = λ v c. c } }
  numbers_at (Some (Reg r)) lo hi h = absurd h
  numbers_at (Some (Param i)) lo hi h =
      let o = zip_at (HasValue caller) args callee.args i h.0 passed h.1 in
      subst (λ x. BothNumbers callee (placed (Some (Param i)) lo hi) caller (moved_to_found x (placed (Some (Param i)) lo hi))) (sym o.1) (number_passed caller callee i h.0 h.1 lo hi o.0 h.2.0 o.2 h.2.1)

  pointers : (p : Place) → IsPointerPlace callee p → BothPointers callee p caller (put_pointer args p)
  pointers p h = pointers_at p.atom p.lo p.hi h.sorted h.passed

  numbers : (x : Place) → IsNumberPlace callee x → BothNumbers callee x caller (put_place args x)
  numbers x h = numbers_at x.atom x.lo x.hi h.passed

  into_caller : (m : List Block) (q : Pred) → PlacesAre (IsPointerPlace callee) (IsNumberPlace callee) q → Holds callee m q → Holds caller m (put_in q args)
  into_caller m q places h =
      holds_along callee caller m (λ p. p) (put_pointer args) (λ x. x) (put_place args) q
      (places_turned (IsPointerPlace callee) (IsNumberPlace callee) (λ p. SamePointer callee p caller (put_pointer args p)) (λ x. SameNumber callee x caller (put_place args x)) (λ p k. (pointers p k).there) (λ x k. (numbers x k).there) q places)
      (subst (Holds callee m) (sym (own_places q)) h)

  into_callee : (m : List Block) (q : Pred) → PlacesAre (IsPointerPlace callee) (IsNumberPlace callee) q → Holds caller m (put_in q args) → Holds callee m q
  into_callee m q places h =
      subst (Holds callee m) (own_places q)
      (holds_along caller callee m (put_pointer args) (λ p. p) (put_place args) (λ x. x) q
      (places_turned (IsPointerPlace callee) (IsNumberPlace callee) (λ p. SamePointer caller (put_pointer args p) callee p) (λ x. SameNumber caller (put_place args x) callee x) (λ p k. (pointers p k).here) (λ x k. (numbers x k).here) q places)
      h)

pub kept : SubstKeepsHolds
kept args caller callee m q passed places = (into_caller args caller callee passed m q places, into_callee args caller callee passed m q places)
