use Rattle.std.proofs.Common.{rules, ◌↔◌, sym, subst, FitsSigned, to_z-of_z}
use Rattle.std.specs.Prelude.{pos, ◌+ℤ◌, ◌*ℤ◌, IsTrue}
use Rattle.std.specs.Int.{w128}
use Rattle.po_memory.specs.Blocks.{IsOfWidth}
use Rattle.po_holds.proofs.Widths.{four_parts}
use Rattle.po_holds.proofs.over.product_stays.Goals as goal

pub returns : goal.returns
returns c =
    let fits_0 : FitsSigned w128 c.args.v.now.base = search rules in
    let fits_1 : FitsSigned w128 c.args.w.now.base = search rules in
    let fits_2 : FitsSigned w128 c.args.x.now = search rules in
    let fits_3 : FitsSigned w128 c.args.y.now = search rules in
    let tells : IsTrue c.is_of_width.result ↔ IsOfWidth c.args.bits (c.args.v.now.base *ℤ c.args.w.now.base +ℤ (c.args.v.now.base *ℤ c.args.y.now +ℤ (c.args.x.now *ℤ c.args.w.now.base +ℤ (c.args.x.now *ℤ c.args.y.now +ℤ pos 0)))) = simp to_z-of_z at c.is_of_width.ensures in
    subst (λ z. IsTrue c.is_of_width.result ↔ IsOfWidth c.args.bits z) (sym (four_parts c.args.v.now.base c.args.x.now c.args.w.now.base c.args.y.now)) tells
