use Rattle.po_types.proofs.OneLayout.{one_layout}
use Rattle.po_types.proofs.laws.layout_is_one.Goals as goal

pub returns : goal.returns
returns c = one_layout
