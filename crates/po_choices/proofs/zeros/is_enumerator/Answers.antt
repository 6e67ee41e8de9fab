use Rattle.po_choices.proofs.ZeroLeaves.{enumerator_found}
use Rattle.po_choices.proofs.zeros.is_enumerator.Goals as goal

pub returns : goal.returns
returns c = rw c.is_some.ensures (enumerator_found c.args.context.now c.args.name.now c.value_of.result c.value_of.ensures)
