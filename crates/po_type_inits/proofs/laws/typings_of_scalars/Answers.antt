use Rattle.po_type_inits.proofs.ScalarValues as scalars
use Rattle.po_type_inits.proofs.laws.typings_of_scalars.Goals as goal

pub returns : goal.returns
returns c = scalars.typings_of_scalars c.typings_are_of_parts.ensures
