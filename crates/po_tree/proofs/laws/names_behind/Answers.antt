use Rattle.po_tree.proofs.Threaded.{piece_so}
use Rattle.po_tree.proofs.laws.names_behind.Goals as goal

pub returns : goal.returns
returns c = λ types behind d h name. piece_so h.formed name
