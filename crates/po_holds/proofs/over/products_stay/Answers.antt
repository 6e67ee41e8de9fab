use Rattle.std.proofs.Common.{rules}
use Rattle.po_holds.proofs.Telling.{first_fails, second_tells}
use Rattle.po_holds.proofs.Widths as widths
use Rattle.po_holds.proofs.over.products_stay.Goals as goal

pub returns-then-not-products_of_stay : goal.returns-then-not-products_of_stay
returns-then-not-products_of_stay c =
    first_fails c.products_of_stay.result c.products_of_stay.ensures (widths.products_stay c.args.bits c.args.v.now c.args.w.now c.requires.v c.requires.w) (search rules)

pub returns : goal.returns
returns c =
    second_tells c.products_of_stay.result c.products_of_stay-2.result c.products_of_stay.ensures c.products_of_stay-2.ensures (widths.products_stay c.args.bits c.args.v.now c.args.w.now c.requires.v c.requires.w) (search rules)
