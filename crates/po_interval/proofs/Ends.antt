-- Intervals within one another, by their ends.
use Rattle.std.proofs.Common.{◌≡◌, true, refl, ap, ◌∙◌, arith}
use Rattle.std.specs.Prelude.{ℤ, pos, ◌≤ℤ◌, ◌+ℤ◌, ◌-ℤ◌, Option, Some, None}
use Rattle.std.specs.Int.{int_min, int_max}
use Rattle.std.proofs.lemmas.Int.{ints, clamps}
use Rattle.std.proofs.lemmas.Bool.{and_parts, and_from}
use Rattle.po_arith.specs.declared.interval.Interval.{Interval}
use Rattle.po_arith.specs.Hull.{IsAtLeast, IsAtMost, IsWithin, IsInhabited, lower, upper}
use Rattle.po_interval.specs.Within.{is_lower, is_upper, interval_within, EndsAreOrdered}
use Rattle.po_arith.proofs.Comparing.{le_tells, le_since}

lower_refl : (a : Option ℤ) → is_lower a a ≡ true
lower_refl None = refl
lower_refl (Some x) = le_since x x (omega (arith, ints))

upper_refl : (a : Option ℤ) → is_upper a a ≡ true
upper_refl None = refl
upper_refl (Some x) = le_since x x (omega (arith, ints))

lower_along : (a b c : Option ℤ) → is_lower a b ≡ true → is_lower b c ≡ true → is_lower a c ≡ true
lower_along None b c one other = refl
lower_along (Some x) None c one other = absurd (cc)
lower_along (Some x) (Some y) None one other = absurd (cc)
lower_along (Some x) (Some y) (Some z) one other = let p = le_tells x y one in let q = le_tells y z other in le_since x z (omega (arith, ints))

upper_along : (a b c : Option ℤ) → is_upper a b ≡ true → is_upper b c ≡ true → is_upper a c ≡ true
upper_along None b c one other = refl
upper_along (Some x) None c one other = absurd (cc)
upper_along (Some x) (Some y) None one other = absurd (cc)
upper_along (Some x) (Some y) (Some z) one other = let p = le_tells y x one in let q = le_tells z y other in le_since z x (omega (arith, ints))

lower_same : (a b : Option ℤ) → is_lower a b ≡ true → is_lower b a ≡ true → a ≡ b
lower_same None None one other = refl
lower_same None (Some y) one other = absurd (cc)
lower_same (Some x) None one other = absurd (cc)
lower_same (Some x) (Some y) one other = let p = le_tells x y one in let q = le_tells y x other in ap Some (omega (arith, ints))

upper_same : (a b : Option ℤ) → is_upper a b ≡ true → is_upper b a ≡ true → a ≡ b
upper_same None None one other = refl
upper_same None (Some y) one other = absurd (cc)
upper_same (Some x) None one other = absurd (cc)
upper_same (Some x) (Some y) one other = let p = le_tells y x one in let q = le_tells x y other in ap Some (omega (arith, ints))

lower_first : (a b : Option ℤ) → is_lower (lower a b) a ≡ true
lower_first None b = refl
lower_first (Some x) None = refl
lower_first (Some x) (Some y) = le_since (int_min x y) x (omega (arith, ints, clamps))

lower_second : (a b : Option ℤ) → is_lower (lower a b) b ≡ true
lower_second None b = refl
lower_second (Some x) None = refl
lower_second (Some x) (Some y) = le_since (int_min x y) y (omega (arith, ints, clamps))

upper_first : (a b : Option ℤ) → is_upper (upper a b) a ≡ true
upper_first None b = refl
upper_first (Some x) None = refl
upper_first (Some x) (Some y) = le_since x (int_max x y) (omega (arith, ints, clamps))

upper_second : (a b : Option ℤ) → is_upper (upper a b) b ≡ true
upper_second None b = refl
upper_second (Some x) None = refl
upper_second (Some x) (Some y) = le_since y (int_max x y) (omega (arith, ints, clamps))

lower_least : (a b c : Option ℤ) → is_lower c a ≡ true → is_lower c b ≡ true → is_lower c (lower a b) ≡ true
lower_least a b None one other = refl
lower_least None b (Some z) one other = absurd (cc)
lower_least (Some x) None (Some z) one other = absurd (cc)
lower_least (Some x) (Some y) (Some z) one other = let p = le_tells z x one in let q = le_tells z y other in le_since z (int_min x y) (omega (arith, ints, clamps))

upper_least : (a b c : Option ℤ) → is_upper c a ≡ true → is_upper c b ≡ true → is_upper c (upper a b) ≡ true
upper_least a b None one other = refl
upper_least None b (Some z) one other = absurd (cc)
upper_least (Some x) None (Some z) one other = absurd (cc)
upper_least (Some x) (Some y) (Some z) one other = let p = le_tells x z one in let q = le_tells y z other in le_since (int_max x y) z (omega (arith, ints, clamps))

abbrev ends : Option ℤ → Option ℤ → Interval
ends lo hi = record { lo = lo; hi = hi }

same_ends : (a b : Interval) → a.lo ≡ b.lo → a.hi ≡ b.hi → a ≡ b
same_ends a b lows highs = ap (λ (lo : Option ℤ). ends lo a.hi) lows ∙ ap (λ (hi : Option ℤ). ends b.lo hi) highs

pub ends_ordered : EndsAreOrdered
ends_ordered = record {
  reflexive = λ a. and_from _ _ (lower_refl a.lo) (upper_refl a.hi);
  transitive = λ a b c one other. let p = and_parts _ _ one in let q = and_parts _ _ other in and_from _ _ (lower_along c.lo b.lo a.lo q.0 p.0) (upper_along c.hi b.hi a.hi q.1 p.1);
  antisymmetric = λ a b one other. let p = and_parts _ _ one in let q = and_parts _ _ other in same_ends a b (lower_same a.lo b.lo q.0 p.0) (upper_same a.hi b.hi q.1 p.1);
  first = λ a b. and_from _ _ (lower_first a.lo b.lo) (upper_first a.hi b.hi);
  second = λ a b. and_from _ _ (lower_second a.lo b.lo) (upper_second a.hi b.hi);
  least = λ a b c one other. let p = and_parts _ _ one in let q = and_parts _ _ other in and_from _ _ (lower_least a.lo b.lo c.lo p.0 q.0) (upper_least a.hi b.hi c.hi p.1 q.1);
}

-- what the ends say of the numbers
low_tells : (a b : Option ℤ) (v : ℤ) → is_lower b a ≡ true → IsAtLeast a v → IsAtLeast b v
low_tells a None v test v_in = tt
low_tells None (Some y) v test v_in = absurd (cc)
low_tells (Some x) (Some y) v test v_in = let p = le_tells y x test in omega (arith, ints)

high_tells : (a b : Option ℤ) (v : ℤ) → is_upper b a ≡ true → IsAtMost a v → IsAtMost b v
high_tells a None v test v_in = tt
high_tells None (Some y) v test v_in = absurd (cc)
high_tells (Some x) (Some y) v test v_in = let p = le_tells x y test in omega (arith, ints)

pub within_tells : (a b : Interval) → interval_within a b ≡ true → IsWithin a b
within_tells a b test v v_in = let p = and_parts _ _ test in (low_tells a.lo b.lo v p.0 v_in.0, high_tells a.hi b.hi v p.1 v_in.1)

lowered : (end : Option ℤ) (v w : ℤ) → w ≤ℤ v → IsAtMost end v → IsAtMost end w
lowered None v w down v_in = tt
lowered (Some x) v w down v_in = omega (arith, ints)

raised : (end : Option ℤ) (v w : ℤ) → v ≤ℤ w → IsAtLeast end v → IsAtLeast end w
raised None v w up v_in = tt
raised (Some x) v w up v_in = omega (arith, ints)

low_since : (a b : Option ℤ) (v : ℤ) → IsAtLeast a v → ((w : ℤ) → IsAtLeast a w → w ≤ℤ v → IsAtLeast b w) → is_lower b a ≡ true
low_since a None v v_in part = refl
low_since None (Some y) v v_in part = absurd (let k = part (int_min v (y -ℤ pos 1)) tt (omega (arith, ints, clamps)) in omega (arith, ints, clamps))
low_since (Some x) (Some y) v v_in part = le_since y x (part x (omega (arith, ints)) v_in)

high_since : (a b : Option ℤ) (v : ℤ) → IsAtMost a v → ((w : ℤ) → IsAtMost a w → v ≤ℤ w → IsAtMost b w) → is_upper b a ≡ true
high_since a None v v_in part = refl
high_since None (Some y) v v_in part = absurd (let k = part (int_max v (y +ℤ pos 1)) tt (omega (arith, ints, clamps)) in omega (arith, ints, clamps))
high_since (Some x) (Some y) v v_in part = le_since x y (part x (omega (arith, ints)) v_in)

pub within_since : (a b : Interval) → IsInhabited a → IsWithin a b → interval_within a b ≡ true
within_since a b (v, v_in) part =
    and_from _ _
    (low_since a.lo b.lo v v_in.0 (λ w w_in down. (part w (w_in, lowered a.hi v w down v_in.1)).0))
    (high_since a.hi b.hi v v_in.1 (λ w w_in up. (part w (raised a.lo v w up v_in.0, w_in)).1))
