-- The interval of results covers every result.
use Rattle.std.proofs.Common.{◌≡◌, ◌^◌, Bool, true, false, cond, arith, sym, refl, ◌∙◌, subst}
use Rattle.std.specs.Prelude.{ℤ, ◌≤ℤ◌, Option, Some, None}
use Rattle.std.proofs.lemmas.Int.{ints, clamps}
use Rattle.std.proofs.lemmas.Bool.{and_parts}
use Rattle.std.proofs.lemmas.Nat.{pow_pos}
use Rattle.po_arith.specs.declared.int_type.IntType.{IntType}
use Rattle.po_arith.specs.declared.interval.Interval.{Interval}
use Rattle.po_arith.specs.declared.range.Range.{Range}
use Rattle.po_arith.specs.Types.{IsIntType, IsOfType, least, greatest}
use Rattle.po_arith.specs.Hull.{IsAtLeast, IsAtMost, IsIn}
use Rattle.po_arith.proofs.Comparing.{le_tells}
use Rattle.po_arith.specs.Ranges.{Spans}
use Rattle.po_interval.specs.Within.{interval_within}
use Rattle.po_interval.specs.Ranges.{interval, Holds, low_cut, high_cut, cut, whole, part, as_interval, settled}
use Rattle.po_interval.specs.Results.{is_between, given, modulo, conv, ConvCovers}
use Rattle.po_interval.proofs.Ends.{within_tells}
use Rattle.po_arith.proofs.Sizes.{least_unsigned, greatest_unsigned}
use Rattle.po_arith.proofs.RangesCover.{some_spans}
use Rattle.po_arith.proofs.Wrapped.{rest_is_low, rest_of_small}

pub some_same : (v w : ℤ) → Some v ≡ Some w → v ≡ w
some_same v w same = cc

pub given_some : (b : Bool) (v w : ℤ) → given b v ≡ Some w → (b ≡ true) × (v ≡ w)
given_some true v w same = (refl, cc)
given_some false v w same = absurd (cc)

low_in : (low v : ℤ) (end : Option ℤ) → IsAtLeast end v → low ≤ℤ v → low_cut low end ≤ℤ v
low_in low v None v_in above = above
low_in low v (Some x) v_in above = omega (arith, ints, clamps)

high_in : (high v : ℤ) (end : Option ℤ) → IsAtMost end v → v ≤ℤ high → v ≤ℤ high_cut high end
high_in high v None v_in below = below
high_in high v (Some x) v_in below = omega (arith, ints, clamps)

pub cut_spans : (low high : ℤ) (a : Interval) (v : ℤ) → low ≤ℤ v → v ≤ℤ high → IsIn a v → Spans (cut low high a) v
cut_spans low high a v above below v_in = some_spans _ _ v (low_in low v a.lo v_in.0 above) (high_in high v a.hi v_in.1 below)

pub as_holds : (r : Option Range) (v : ℤ) → Spans r v → Holds (as_interval r) v
as_holds None v v_in = v_in
as_holds (Some r) v v_in = v_in

pub modulo_of_type : (t : IntType) (v : ℤ) → t.signed ≡ false → IsOfType t (modulo t v)
modulo_of_type t v kind =
    let low = rest_is_low v (2 ^ t.bits) (pow_pos t.bits) in
    let some = pow_pos t.bits in
    let first = least_unsigned t kind in
    let last = greatest_unsigned t kind in
    (omega (arith, ints), omega (arith, ints))

pub modulo_same : (t : IntType) (v : ℤ) → t.signed ≡ false → IsOfType t v → modulo t v ≡ v
modulo_same t v kind of =
    let some = pow_pos t.bits in
    let first = least_unsigned t kind in
    let last = greatest_unsigned t kind in
    let low = of.0 in
    let high = of.1 in
    rest_of_small v (2 ^ t.bits) (omega (arith, ints)) (omega (arith, ints))

pub conv_covers : ConvCovers
conv_covers t a v x is v_in converted = by t.signed refl converted
  where
    fits : (is_between (least t) (greatest t) v ≡ true) × (v ≡ x) → Holds (as_interval (part t a)) x
    fits (test, same) =
        let ends = and_parts _ _ test in
        subst (λ (z : ℤ). Holds (as_interval (part t a)) z) same
        (as_holds (part t a) v (cut_spans (least t) (greatest t) a v (le_tells _ _ ends.0) (le_tells _ _ ends.1) v_in))

    wraps : t.signed ≡ false → modulo t v ≡ x → (b : Bool) → interval_within a (whole t) ≡ b → Holds (Some (cond b a (whole t))) x
    wraps kind same true test = subst (λ (z : ℤ). IsIn a z) (sym (modulo_same t v kind (within_tells a (whole t) test v v_in)) ∙ same) v_in
    wraps kind same false test = subst (λ (z : ℤ). IsIn (whole t) z) same (modulo_of_type t v kind)

    by : (b : Bool) → t.signed ≡ b → cond b (given (is_between (least t) (greatest t) v) v) (Some (modulo t v)) ≡ Some x → Holds (cond b (as_interval (part t a)) (Some (cond (interval_within a (whole t)) a (whole t)))) x
    by true kind same = fits (given_some _ v x same)
    by false kind same = wraps kind (some_same _ _ same) (interval_within a (whole t)) refl

pub settled_covers : (t : IntType) (o : Option Range) (v x : ℤ) → IsIntType t → Spans o v → conv t v ≡ Some x → Holds (settled t o) x
settled_covers t None v x is v_in converted = absurd v_in
settled_covers t (Some r) v x is v_in converted = conv_covers t (interval r.lo r.hi) v x is v_in converted
