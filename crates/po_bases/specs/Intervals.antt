-- Intervals within one another, by their ends, and the hull as their join.
use Rattle.std.specs.Prelude.{◌≡◌, ℤ, ◌≤ℤ◌, Option, Some, None}
use Rattle.std.proofs.Common.{refl, arith}
use Rattle.std.specs.Int.{int_min, int_max}
use Rattle.std.proofs.lemmas.Int.{ints, clamps}
use Rattle.po_arith.specs.declared.interval.Interval.{Interval}
use Rattle.po_arith.specs.Hull.{IsAtLeast, IsAtMost, IsIn, IsInhabited, lower, upper, hull}
use Rattle.po_bases.specs.General.{IsJoin, IsPartialJoin, IfThere, BelowNone, both_join, up_to_none, pairs, along, among, rejoined}

-- the ends of a lie between those of b; a missing end is past all
abbrev pub LowBelow : Option ℤ → Option ℤ → Type 0
LowBelow a b = BelowNone (λ x y. y ≤ℤ x) a b

abbrev pub HighBelow : Option ℤ → Option ℤ → Type 0
HighBelow a b = BelowNone (λ x y. x ≤ℤ y) a b

abbrev pub IsBetween : Interval → Interval → Type 0
IsBetween a b = LowBelow a.lo b.lo × HighBelow a.hi b.hi

lows : IsPartialJoin (λ (x : ℤ). Unit {0}) (λ x y. y ≤ℤ x) (λ x y. Some (int_min x y))
lows = record {
  stays = λ x y px py. tt;
  itself = λ x px. omega (arith, ints);
  through = λ x y z px py pz h k. omega (arith, ints);
  apart = λ x y px py h k. omega (arith, ints);
  left = λ x y px py. omega (arith, ints, clamps);
  right = λ x y px py. omega (arith, ints, clamps);
  least = λ x y z px py pz h k. omega (arith, ints, clamps);
}

highs : IsPartialJoin (λ (x : ℤ). Unit {0}) (λ x y. x ≤ℤ y) (λ x y. Some (int_max x y))
highs = record {
  stays = λ x y px py. tt;
  itself = λ x px. omega (arith, ints);
  through = λ x y z px py pz h k. omega (arith, ints);
  apart = λ x y px py h k. omega (arith, ints);
  left = λ x y px py. omega (arith, ints, clamps);
  right = λ x y px py. omega (arith, ints, clamps);
  least = λ x y z px py pz h k. omega (arith, ints, clamps);
}

lower_same : (a b : Option ℤ) → both_join (λ x y. Some (int_min x y)) a b ≡ lower a b
lower_same None b = refl
lower_same (Some x) None = refl
lower_same (Some x) (Some y) = refl

upper_same : (a b : Option ℤ) → both_join (λ x y. Some (int_max x y)) a b ≡ upper a b
upper_same None b = refl
upper_same (Some x) None = refl
upper_same (Some x) (Some y) = refl

low_in : (a b : Option ℤ) (v : ℤ) → IsAtLeast a v → IsAtLeast (lower a b) v
low_in None b v h = tt
low_in (Some x) None v h = tt
low_in (Some x) (Some y) v h = omega (arith, ints, clamps)

high_in : (a b : Option ℤ) (v : ℤ) → IsAtMost a v → IsAtMost (upper a b) v
high_in None b v h = tt
high_in (Some x) None v h = tt
high_in (Some x) (Some y) v h = omega (arith, ints, clamps)

-- the hull is the least upper bound
pub intervals : IsJoin IsInhabited IsBetween hull
intervals =
    among (along (λ a. (a.lo, a.hi)) (λ p. record { lo = p.0; hi = p.1 }) (λ a. refl) (λ p. refl)
    (pairs (rejoined (up_to_none lows) lower lower_same) (rejoined (up_to_none highs) upper upper_same)))
    IsInhabited (λ a inhabited. (free a.lo, free a.hi))
    (λ a b (v, v_in) inhabited. (v, (low_in a.lo b.lo v v_in.0, high_in a.hi b.hi v v_in.1))) where
      free : (a : Option ℤ) → IfThere (λ (x : ℤ). Unit {0}) a
      free None = tt
      free (Some x) = tt

-- what lies in the one lies in the other
low_up : (a b : Option ℤ) (v : ℤ) → LowBelow a b → IsAtLeast a v → IsAtLeast b v
low_up a None v h k = tt
low_up None (Some y) v h k = absurd h
low_up (Some x) (Some y) v h k = omega (arith, ints)

high_up : (a b : Option ℤ) (v : ℤ) → HighBelow a b → IsAtMost a v → IsAtMost b v
high_up a None v h k = tt
high_up None (Some y) v h k = absurd h
high_up (Some x) (Some y) v h k = omega (arith, ints)

pub in_between : (a b : Interval) (v : ℤ) → IsBetween a b → IsIn a v → IsIn b v
in_between a b v h k = (low_up a.lo b.lo v h.0 k.0, high_up a.hi b.hi v h.1 k.1)
