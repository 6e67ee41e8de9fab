use Rattle.std.proofs.Common.{rules, ◌↔◌, arith, inl, inr, FitsSigned, to_z-of_z}
use Rattle.std.specs.Prelude.{pos, ◌+ℤ◌, ◌*ℤ◌, ◌<ℤ◌, IsTrue}
use Rattle.std.specs.Int.{w128}
use Rattle.std.proofs.lemmas.Int.{ints}
use Rattle.po_holds.proofs.Sums.{at_least}
use Rattle.po_holds.proofs.Widths as widths
use Rattle.po_holds.proofs.Chosen.{through}
use Rattle.po_holds.proofs.over.shifts_stay.Goals as goal

pub returns-then-is_negative : goal.returns-then-is_negative
returns-then-is_negative c =
    let fits_0 : FitsSigned w128 c.args.v.now.base = search rules in
    let fits_1 : FitsSigned w128 c.args.v.now.lo = search rules in
    let v_sum : IsTrue c.is_negative.result ↔ ((pos 1 *ℤ c.args.v.now.base +ℤ (pos 1 *ℤ c.args.v.now.lo +ℤ pos 0)) <ℤ pos 0) = simp to_z-of_z at c.is_negative.ensures in
    let below = v_sum.0 c.if-is_negative.true in
    (λ h. absurd (cc), λ h. absurd (widths.not_shifted c.args.bits c.args.v.now c.args.w.now c.requires.v c.requires.w (inl (omega (arith, ints, below))) h))

pub returns-then-is_negative-2 : goal.returns-then-is_negative-2
returns-then-is_negative-2 c =
    let fits_0 : FitsSigned w128 c.args.v.now.base = search rules in
    let fits_1 : FitsSigned w128 c.args.v.now.lo = search rules in
    let fits_3 : FitsSigned w128 c.args.w.now.base = search rules in
    let fits_4 : FitsSigned w128 c.args.w.now.lo = search rules in
    let w_sum : IsTrue c.is_negative-2.result ↔ ((pos 1 *ℤ c.args.w.now.base +ℤ (pos 1 *ℤ c.args.w.now.lo +ℤ pos 0)) <ℤ pos 0) = simp to_z-of_z at c.is_negative-2.ensures in
    let below = w_sum.0 c.if-is_negative-2.true in
    (λ h. absurd (cc), λ h. absurd (widths.not_shifted c.args.bits c.args.v.now c.args.w.now c.requires.v c.requires.w (inr (omega (arith, ints, below))) h))

pub room-requires : goal.room-requires
room-requires c =
    let fits_0 : FitsSigned w128 c.args.v.now.base = search rules in
    let fits_1 : FitsSigned w128 c.args.v.now.lo = search rules in
    let fits_3 : FitsSigned w128 c.args.w.now.base = search rules in
    let fits_4 : FitsSigned w128 c.args.w.now.lo = search rules in
    let w_sum : IsTrue c.is_negative-2.result ↔ ((pos 1 *ℤ c.args.w.now.base +ℤ (pos 1 *ℤ c.args.w.now.lo +ℤ pos 0)) <ℤ pos 0) = simp to_z-of_z at c.is_negative-2.ensures in
    let w_up = at_least c.is_negative-2.result (pos 1 *ℤ c.args.w.now.base +ℤ (pos 1 *ℤ c.args.w.now.lo +ℤ pos 0)) w_sum c.if-is_negative-2.false in
    let some = c.requires.w in
    omega (arith, ints, w_up, some)

pub returns : goal.returns
returns c =
    let fits_0 : FitsSigned w128 c.args.v.now.base = search rules in
    let fits_1 : FitsSigned w128 c.args.v.now.lo = search rules in
    let fits_3 : FitsSigned w128 c.args.w.now.base = search rules in
    let fits_4 : FitsSigned w128 c.args.w.now.lo = search rules in
    let v_sum : IsTrue c.is_negative.result ↔ ((pos 1 *ℤ c.args.v.now.base +ℤ (pos 1 *ℤ c.args.v.now.lo +ℤ pos 0)) <ℤ pos 0) = simp to_z-of_z at c.is_negative.ensures in
    let w_sum : IsTrue c.is_negative-2.result ↔ ((pos 1 *ℤ c.args.w.now.base +ℤ (pos 1 *ℤ c.args.w.now.lo +ℤ pos 0)) <ℤ pos 0) = simp to_z-of_z at c.is_negative-2.ensures in
    let v_up = at_least c.is_negative.result (pos 1 *ℤ c.args.v.now.base +ℤ (pos 1 *ℤ c.args.v.now.lo +ℤ pos 0)) v_sum c.if-is_negative.false in
    let w_up = at_least c.is_negative-2.result (pos 1 *ℤ c.args.w.now.base +ℤ (pos 1 *ℤ c.args.w.now.lo +ℤ pos 0)) w_sum c.if-is_negative-2.false in
    through c.are_below.ensures (widths.shifts_stay c.args.bits c.room.result c.args.v.now c.args.w.now c.requires.v c.requires.w (omega (arith, ints, v_up)) (omega (arith, ints, w_up)) c.room.ensures.left)
