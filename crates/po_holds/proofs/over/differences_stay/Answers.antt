use Rattle.std.proofs.Common.{rules, ◌≡◌, ◌↔◌, arith, subst, FitsSigned, to_z-of_z}
use Rattle.std.specs.Prelude.{pos, negsuc, ◌+ℤ◌, ◌-ℤ◌, ◌*ℤ◌, IsTrue}
use Rattle.std.specs.Int.{w128}
use Rattle.std.proofs.lemmas.Int.{ints}
use Rattle.po_memory.specs.Blocks.{IsOfWidth}
use Rattle.po_holds.specs.Choosing.{least, greatest}
use Rattle.po_holds.proofs.Telling.{first_fails, second_tells}
use Rattle.po_holds.proofs.Widths as widths
use Rattle.po_holds.proofs.over.differences_stay.Goals as goal

pub returns-then-not-is_of_width : goal.returns-then-not-is_of_width
returns-then-not-is_of_width c =
    let fits_0 : FitsSigned w128 c.args.v.now.base = search rules in
    let fits_1 : FitsSigned w128 c.args.v.now.lo = search rules in
    let fits_3 : FitsSigned w128 c.args.w.now.base = search rules in
    let fits_5 : FitsSigned w128 c.args.w.now.hi = search rules in
    let low_sum : IsTrue c.is_of_width.result ↔ IsOfWidth c.args.bits (pos 1 *ℤ c.args.v.now.base +ℤ (pos 1 *ℤ c.args.v.now.lo +ℤ (negsuc 0 *ℤ c.args.w.now.base +ℤ (negsuc 0 *ℤ c.args.w.now.hi +ℤ pos 0)))) = simp to_z-of_z at c.is_of_width.ensures in
    let low_is : pos 1 *ℤ c.args.v.now.base +ℤ (pos 1 *ℤ c.args.v.now.lo +ℤ (negsuc 0 *ℤ c.args.w.now.base +ℤ (negsuc 0 *ℤ c.args.w.now.hi +ℤ pos 0))) ≡ least c.args.v.now -ℤ greatest c.args.w.now = omega (arith, ints) in
    let low = subst (λ z. IsTrue c.is_of_width.result ↔ IsOfWidth c.args.bits z) low_is low_sum in
    first_fails c.is_of_width.result low (widths.differences_stay c.args.bits c.args.v.now c.args.w.now c.requires.v c.requires.w) (search rules)

pub returns : goal.returns
returns c =
    let fits_0 : FitsSigned w128 c.args.v.now.base = search rules in
    let fits_1 : FitsSigned w128 c.args.v.now.lo = search rules in
    let fits_2 : FitsSigned w128 c.args.v.now.hi = search rules in
    let fits_3 : FitsSigned w128 c.args.w.now.base = search rules in
    let fits_4 : FitsSigned w128 c.args.w.now.lo = search rules in
    let fits_5 : FitsSigned w128 c.args.w.now.hi = search rules in
    let low_sum : IsTrue c.is_of_width.result ↔ IsOfWidth c.args.bits (pos 1 *ℤ c.args.v.now.base +ℤ (pos 1 *ℤ c.args.v.now.lo +ℤ (negsuc 0 *ℤ c.args.w.now.base +ℤ (negsuc 0 *ℤ c.args.w.now.hi +ℤ pos 0)))) = simp to_z-of_z at c.is_of_width.ensures in
    let low_is : pos 1 *ℤ c.args.v.now.base +ℤ (pos 1 *ℤ c.args.v.now.lo +ℤ (negsuc 0 *ℤ c.args.w.now.base +ℤ (negsuc 0 *ℤ c.args.w.now.hi +ℤ pos 0))) ≡ least c.args.v.now -ℤ greatest c.args.w.now = omega (arith, ints) in
    let low = subst (λ z. IsTrue c.is_of_width.result ↔ IsOfWidth c.args.bits z) low_is low_sum in
    let high_sum : IsTrue c.is_of_width-2.result ↔ IsOfWidth c.args.bits (pos 1 *ℤ c.args.v.now.base +ℤ (pos 1 *ℤ c.args.v.now.hi +ℤ (negsuc 0 *ℤ c.args.w.now.base +ℤ (negsuc 0 *ℤ c.args.w.now.lo +ℤ pos 0)))) = simp to_z-of_z at c.is_of_width-2.ensures in
    let high_is : pos 1 *ℤ c.args.v.now.base +ℤ (pos 1 *ℤ c.args.v.now.hi +ℤ (negsuc 0 *ℤ c.args.w.now.base +ℤ (negsuc 0 *ℤ c.args.w.now.lo +ℤ pos 0))) ≡ greatest c.args.v.now -ℤ least c.args.w.now = omega (arith, ints) in
    let high = subst (λ z. IsTrue c.is_of_width-2.result ↔ IsOfWidth c.args.bits z) high_is high_sum in
    second_tells c.is_of_width.result c.is_of_width-2.result low high (widths.differences_stay c.args.bits c.args.v.now c.args.w.now c.requires.v c.requires.w) (search rules)
