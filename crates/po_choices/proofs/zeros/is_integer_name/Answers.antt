use Rattle.po_choices.proofs.ZeroLeaves.{integer_found}
use Rattle.po_choices.proofs.zeros.is_integer_name.Goals as goal

pub returns : goal.returns
returns c = rw c.is_some.ensures (integer_found c.args.context.now c.args.name.now c.in_ok-found.found c.in_ok-found.ensures)
