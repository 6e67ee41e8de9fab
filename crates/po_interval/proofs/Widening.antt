-- Wider ranges have wider parts and conversions.
use Rattle.std.proofs.Common.{◌≡◌, Bool, true, false, cond, arith, refl, sym, ◌∙◌}
use Rattle.std.specs.Prelude.{ℤ, ◌≤ℤ◌, Option, Some, None}
use Rattle.std.proofs.lemmas.Int.{ints, clamps}
use Rattle.std.proofs.lemmas.Bool.{and_parts, and_from}
use Rattle.po_arith.specs.declared.int_type.IntType.{IntType}
use Rattle.po_arith.specs.declared.interval.Interval.{Interval}
use Rattle.po_arith.specs.declared.range.Range.{Range}
use Rattle.po_arith.specs.Types.{IsIntType, least, greatest}
use Rattle.po_arith.proofs.Comparing.{le_tells, le_since}
use Rattle.po_arith.specs.Ranges.{IsPart}
use Rattle.po_interval.specs.Within.{is_lower, is_upper, interval_within}
use Rattle.po_interval.specs.Ranges.{interval, AreWithin, low_cut, high_cut, cut, whole, part, as_interval, settled}
use Rattle.po_interval.specs.Results.{ConvIsMonotone}
use Rattle.po_interval.proofs.Ends.{ends_ordered}
use Rattle.po_arith.proofs.RangesWiden.{some_range_part}

low_cut_part : (low : ℤ) (a c : Option ℤ) → is_lower c a ≡ true → low_cut low c ≤ℤ low_cut low a
low_cut_part low None None test = omega (arith, ints)
low_cut_part low (Some x) None test = omega (arith, ints, clamps)
low_cut_part low None (Some y) test = absurd (cc)
low_cut_part low (Some x) (Some y) test = let less = le_tells y x test in omega (arith, ints, clamps)

high_cut_part : (high : ℤ) (a c : Option ℤ) → is_upper c a ≡ true → high_cut high a ≤ℤ high_cut high c
high_cut_part high None None test = omega (arith, ints)
high_cut_part high (Some x) None test = omega (arith, ints, clamps)
high_cut_part high None (Some y) test = absurd (cc)
high_cut_part high (Some x) (Some y) test = let less = le_tells x y test in omega (arith, ints, clamps)

pub cut_part : (low high : ℤ) (a c : Interval) → interval_within a c ≡ true → IsPart (cut low high a) (cut low high c)
cut_part low high a c test =
    let ends = and_parts (is_lower c.lo a.lo) (is_upper c.hi a.hi) test in
    some_range_part _ _ _ _ (low_cut_part low a.lo c.lo ends.0) (high_cut_part high a.hi c.hi ends.1)

as_within : (o p : Option Range) → IsPart o p → AreWithin (as_interval o) (as_interval p)
as_within None p inside = tt
as_within (Some r) None inside = inside
as_within (Some r) (Some s) inside = and_from _ _ (le_since s.lo r.lo inside.0) (le_since r.hi s.hi inside.1)

pub conv_monotone : ConvIsMonotone
conv_monotone t a c is test = by t.signed
  where
    kept : (b d : Bool) → interval_within a (whole t) ≡ b → interval_within c (whole t) ≡ d → AreWithin (Some (cond b a (whole t))) (Some (cond d c (whole t)))
    kept true true one other = test
    kept true false one other = one
    kept false false one other = ends_ordered.reflexive (whole t)
    kept false true one other = absurd (let wrong = sym one ∙ ends_ordered.transitive a c (whole t) test other in cc)

    by : (b : Bool) → AreWithin (cond b (as_interval (part t a)) (Some (cond (interval_within a (whole t)) a (whole t)))) (cond b (as_interval (part t c)) (Some (cond (interval_within c (whole t)) c (whole t))))
    by true = as_within (part t a) (part t c) (cut_part (least t) (greatest t) a c test)
    by false = kept (interval_within a (whole t)) (interval_within c (whole t)) refl refl

pub settled_monotone : (t : IntType) (o p : Option Range) → IsIntType t → IsPart o p → AreWithin (settled t o) (settled t p)
settled_monotone t None p is inside = tt
settled_monotone t (Some r) None is inside = absurd inside
settled_monotone t (Some r) (Some s) is inside = conv_monotone t (interval r.lo r.hi) (interval s.lo s.hi) is (and_from _ _ (le_since s.lo r.lo inside.0) (le_since r.hi s.hi inside.1))
