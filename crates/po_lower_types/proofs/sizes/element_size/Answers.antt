use Rattle.po_lower_types.proofs.Elements.{no_elements}
use Rattle.po_lower_types.proofs.sizes.element_size.Goals as goal

pub returns-in-None-clause-size : goal.returns-in-None-clause-size
returns-in-None-clause-size c = no_elements c.args.env.now c.args.t.now c.in-None.ensures
