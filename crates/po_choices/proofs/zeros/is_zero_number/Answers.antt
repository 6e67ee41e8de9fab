use Rattle.po_choices.proofs.ZeroLeaves.{no_number, number_tested}
use Rattle.po_choices.proofs.zeros.is_zero_number.Goals as goal

pub returns-in-None : goal.returns-in-None
returns-in-None c = no_number c.args.context.now c.args.text.now c.bytes.result.now c.target.result c.bytes.ensures c.target.ensures c.in-None.ensures.exact

pub returns-in-Some : goal.returns-in-Some
returns-in-Some c = number_tested c.args.context.now c.args.text.now c.bytes.result.now c.target.result c.bytes.ensures c.target.ensures c.in-Some.field-0-0 c.in-Some.value c.in-Some.ensures.exact
