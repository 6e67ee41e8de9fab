use Rattle.std.proofs.Common.{◌∙◌}
use Rattle.po_arith.specs.Ranges.{products}
use Rattle.po_interval.proofs.Machine.{conv_same}
use Rattle.po_interval.proofs.operations.settled_products.Goals as goal

pub returns : goal.returns
returns c = c.settled.ensures ∙ conv_same c.args.t c.products.result (products c.args.r.now c.args.s.now) c.requires c.products.ensures
