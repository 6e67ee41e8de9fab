use Rattle.std.proofs.Common.{rules, ◌≡◌, ◌↔◌, arith, subst, FitsSigned, to_z-of_z}
use Rattle.std.specs.Prelude.{pos, negsuc, neg_ℤ, ◌+ℤ◌, ◌*ℤ◌, IsTrue}
use Rattle.std.specs.Int.{w128}
use Rattle.std.proofs.lemmas.Int.{ints}
use Rattle.po_memory.specs.Blocks.{IsOfWidth}
use Rattle.po_holds.specs.Choosing.{least, greatest}
use Rattle.po_holds.proofs.Telling.{first_fails, second_tells}
use Rattle.po_holds.proofs.Widths as widths
use Rattle.po_holds.proofs.over.negations_stay.Goals as goal

pub returns-then-not-is_of_width : goal.returns-then-not-is_of_width
returns-then-not-is_of_width c =
    let fits_0 : FitsSigned w128 c.args.v.now.base = search rules in
    let fits_1 : FitsSigned w128 c.args.v.now.lo = search rules in
    let low_sum : IsTrue c.is_of_width.result ↔ IsOfWidth c.args.bits (negsuc 0 *ℤ c.args.v.now.base +ℤ (negsuc 0 *ℤ c.args.v.now.lo +ℤ (pos 0 *ℤ pos 0 +ℤ (pos 0 *ℤ pos 0 +ℤ pos 0)))) = simp to_z-of_z at c.is_of_width.ensures in
    let low_is : negsuc 0 *ℤ c.args.v.now.base +ℤ (negsuc 0 *ℤ c.args.v.now.lo +ℤ (pos 0 *ℤ pos 0 +ℤ (pos 0 *ℤ pos 0 +ℤ pos 0))) ≡ neg_ℤ (least c.args.v.now) = omega (arith, ints) in
    let low = subst (λ z. IsTrue c.is_of_width.result ↔ IsOfWidth c.args.bits z) low_is low_sum in
    first_fails c.is_of_width.result low (widths.negations_stay c.args.bits c.args.v.now c.requires) (search rules)

pub returns : goal.returns
returns c =
    let fits_0 : FitsSigned w128 c.args.v.now.base = search rules in
    let fits_1 : FitsSigned w128 c.args.v.now.lo = search rules in
    let fits_2 : FitsSigned w128 c.args.v.now.hi = search rules in
    let low_sum : IsTrue c.is_of_width.result ↔ IsOfWidth c.args.bits (negsuc 0 *ℤ c.args.v.now.base +ℤ (negsuc 0 *ℤ c.args.v.now.lo +ℤ (pos 0 *ℤ pos 0 +ℤ (pos 0 *ℤ pos 0 +ℤ pos 0)))) = simp to_z-of_z at c.is_of_width.ensures in
    let low_is : negsuc 0 *ℤ c.args.v.now.base +ℤ (negsuc 0 *ℤ c.args.v.now.lo +ℤ (pos 0 *ℤ pos 0 +ℤ (pos 0 *ℤ pos 0 +ℤ pos 0))) ≡ neg_ℤ (least c.args.v.now) = omega (arith, ints) in
    let low = subst (λ z. IsTrue c.is_of_width.result ↔ IsOfWidth c.args.bits z) low_is low_sum in
    let high_sum : IsTrue c.is_of_width-2.result ↔ IsOfWidth c.args.bits (negsuc 0 *ℤ c.args.v.now.base +ℤ (negsuc 0 *ℤ c.args.v.now.hi +ℤ (pos 0 *ℤ pos 0 +ℤ (pos 0 *ℤ pos 0 +ℤ pos 0)))) = simp to_z-of_z at c.is_of_width-2.ensures in
    let high_is : negsuc 0 *ℤ c.args.v.now.base +ℤ (negsuc 0 *ℤ c.args.v.now.hi +ℤ (pos 0 *ℤ pos 0 +ℤ (pos 0 *ℤ pos 0 +ℤ pos 0))) ≡ neg_ℤ (greatest c.args.v.now) = omega (arith, ints) in
    let high = subst (λ z. IsTrue c.is_of_width-2.result ↔ IsOfWidth c.args.bits z) high_is high_sum in
    second_tells c.is_of_width.result c.is_of_width-2.result low high (widths.negations_stay c.args.bits c.args.v.now c.requires) (search rules)
