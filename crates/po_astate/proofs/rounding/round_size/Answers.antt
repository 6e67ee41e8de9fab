use Rattle.std.proofs.Common.{ℕ, ◌<◌, ◌≤◌, ◌^◌, rules, arith, sym, ap, ◌∙◌, FitsSigned, to_z, lit≤}
use Rattle.std.specs.Prelude.{ℤ, pos, ◌≤ℤ◌, Some, ◌≡◌}
use Rattle.std.proofs.lemmas.Int.{to_z-of_z, to_z_pos}
use mir.Syntax.{w128}
use Rattle.po_arith.specs.declared.interval.Interval.{Interval}
use Rattle.po_interval.specs.Rounding.{low_end}
use Rattle.po_astate.proofs.RoundingLaws.{rounded_at_most, natural_parts}
use Rattle.po_astate.proofs.rounding.round_size.Goals as goal

half : (n : ℕ) → n < 2 ^ 64 → n < 2 ^ 127
half n h = let big : 2 ^ 64 ≤ 2 ^ 127 = lit≤ tt in omega arith

pub overflow_cast-result : goal.overflow_cast-result
overflow_cast-result c =
    let same : to_z w128 c.args.size ≡ pos c.args.size = to_z_pos w128 c.args.size (half c.args.size c.ranges.size.fits) in
    let at_most : c.in-Some.low ≤ℤ pos c.args.size =
    rounded_at_most c.rounding_widens.ensures c.args.th.now c.args.head c.args.size c.in-Some.low
    (ap (λ (v : ℤ). low_end c.args.th.now c.args.head (Some v)) (sym same) ∙ (ap (λ (i : Interval). i.lo) (sym c.round.ensures) ∙ c.in-Some.is)) in
    let not_below : pos 0 ≤ℤ c.in-Some.low = search rules in
    let parts = natural_parts c.in-Some.low c.args.size not_below at_most in
    let fits : FitsSigned w128 c.in-Some.low = search rules in
    simp to_z-of_z (parts.0, omega (arith, parts.1))
