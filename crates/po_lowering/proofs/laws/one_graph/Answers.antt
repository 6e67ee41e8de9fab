use Rattle.po_lowering.proofs.UniqueFunctions.{one_graph}
use Rattle.po_lowering.proofs.laws.one_graph.Goals as goal

pub returns : goal.returns
returns c = one_graph
