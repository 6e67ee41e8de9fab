use Rattle.po_types.proofs.Promoting.{symmetric}
use Rattle.po_types.proofs.laws.common_type_is_symmetric.Goals as goal

pub returns : goal.returns
returns c = symmetric
