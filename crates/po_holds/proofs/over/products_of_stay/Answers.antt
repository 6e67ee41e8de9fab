use Rattle.std.proofs.Common.{rules}
use Rattle.po_holds.proofs.Telling.{first_fails, second_tells}
use Rattle.po_holds.proofs.over.products_of_stay.Goals as goal

pub returns-then-not-product_stays : goal.returns-then-not-product_stays
returns-then-not-product_stays c =
    first_fails c.product_stays.result c.product_stays.ensures (λ x. x, λ x. x) (search rules)

pub returns : goal.returns
returns c =
    second_tells c.product_stays.result c.product_stays-2.result c.product_stays.ensures c.product_stays-2.ensures (λ x. x, λ x. x) (search rules)
