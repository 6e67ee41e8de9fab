-- The least interval that holds two.
use Rattle.std.proofs.Common.{arith, inl, inr}
use Rattle.std.specs.Prelude.{ℤ, ◌≤ℤ◌, Option, Some, None, ◌⊎◌}
use Rattle.std.specs.Int.{int_min, int_max}
use Rattle.std.proofs.lemmas.Int.{ints, clamps, by_lt_z}
use Rattle.po_arith.specs.declared.interval.Interval.{Interval}
use Rattle.po_arith.specs.Hull.{IsAtLeast, IsAtMost, IsWithin, IsInhabited, IsHull, lower, upper, hull}

least_of_two : (end : Option ℤ) (v w : ℤ) → IsAtLeast end v → IsAtLeast end w → IsAtLeast end (int_min v w)
least_of_two None v w v_in w_in = tt
least_of_two (Some lo) v w v_in w_in = omega (arith, ints, clamps)

greatest_of_two : (end : Option ℤ) (v w : ℤ) → IsAtMost end v → IsAtMost end w → IsAtMost end (int_max v w)
greatest_of_two None v w v_in w_in = tt
greatest_of_two (Some hi) v w v_in w_in = omega (arith, ints, clamps)

at_least_up : (end : Option ℤ) (v w : ℤ) → v ≤ℤ w → IsAtLeast end v → IsAtLeast end w
at_least_up None v w up v_in = tt
at_least_up (Some lo) v w up v_in = omega (arith, ints)

at_most_down : (end : Option ℤ) (v w : ℤ) → v ≤ℤ w → IsAtMost end w → IsAtMost end v
at_most_down None v w up w_in = tt
at_most_down (Some hi) v w up w_in = omega (arith, ints)

-- what holds all of an interval that isn't empty has its ends
low_end : (a d : Interval) → IsInhabited a → IsWithin a d → (v : ℤ) → IsAtLeast a.lo v → IsAtLeast d.lo v
low_end a d (w, w_in) inside v v_in =
    at_least_up d.lo (int_min v w) v (omega (arith, ints, clamps))
    (inside (int_min v w) (least_of_two a.lo v w v_in w_in.0, at_most_down a.hi (int_min v w) w (omega (arith, ints, clamps)) w_in.1)).0

high_end : (a d : Interval) → IsInhabited a → IsWithin a d → (v : ℤ) → IsAtMost a.hi v → IsAtMost d.hi v
high_end a d (w, w_in) inside v v_in =
    at_most_down d.hi v (int_max v w) (omega (arith, ints, clamps))
    (inside (int_max v w) (at_least_up a.lo w (int_max v w) (omega (arith, ints, clamps)) w_in.0, greatest_of_two a.hi v w v_in w_in.1)).1

lower_first : (a b : Option ℤ) (v : ℤ) → IsAtLeast a v → IsAtLeast (lower a b) v
lower_first None b v h = tt
lower_first (Some x) None v h = tt
lower_first (Some x) (Some y) v h = omega (arith, ints, clamps)

lower_second : (a b : Option ℤ) (v : ℤ) → IsAtLeast b v → IsAtLeast (lower a b) v
lower_second None b v h = tt
lower_second (Some x) None v h = tt
lower_second (Some x) (Some y) v h = omega (arith, ints, clamps)

upper_first : (a b : Option ℤ) (v : ℤ) → IsAtMost a v → IsAtMost (upper a b) v
upper_first None b v h = tt
upper_first (Some x) None v h = tt
upper_first (Some x) (Some y) v h = omega (arith, ints, clamps)

upper_second : (a b : Option ℤ) (v : ℤ) → IsAtMost b v → IsAtMost (upper a b) v
upper_second None b v h = tt
upper_second (Some x) None v h = tt
upper_second (Some x) (Some y) v h = omega (arith, ints, clamps)

lower_either : (a b : Option ℤ) (v : ℤ) → IsAtLeast (lower a b) v → IsAtLeast a v ⊎ IsAtLeast b v
lower_either None b v h = inl tt
lower_either (Some x) None v h = inr tt
lower_either (Some x) (Some y) v h = by_lt_z v x (λ less. inr (omega (arith, ints, clamps))) (λ up. inl up)

upper_either : (a b : Option ℤ) (v : ℤ) → IsAtMost (upper a b) v → IsAtMost a v ⊎ IsAtMost b v
upper_either None b v h = inl tt
upper_either (Some x) None v h = inr tt
upper_either (Some x) (Some y) v h = by_lt_z x v (λ more. inr (omega (arith, ints, clamps))) (λ down. inl down)

pub hull_is_least : (a b : Interval) → IsInhabited a → IsInhabited b → IsHull a b (hull a b)
hull_is_least a b a_some b_some = record {
  first = λ v h. (lower_first a.lo b.lo v h.0, upper_first a.hi b.hi v h.1);
  second = λ v h. (lower_second a.lo b.lo v h.0, upper_second a.hi b.hi v h.1);
  least = λ d a_in b_in v h. (
    elim (lower_either a.lo b.lo v h.0) [ inl x ↦ low_end a d a_some a_in v x | inr y ↦ low_end b d b_some b_in v y ],
    elim (upper_either a.hi b.hi v h.1) [ inl x ↦ high_end a d a_some a_in v x | inr y ↦ high_end b d b_some b_in v y ],
  );
}
