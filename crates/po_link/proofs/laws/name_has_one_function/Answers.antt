use Rattle.po_link.proofs.OneFunction.{one_function_each}
use Rattle.po_link.proofs.laws.name_has_one_function.Goals as goal

pub returns : goal.returns
returns c = one_function_each
