use Rattle.std.proofs.Common.{refl}
use Rattle.po_tree.proofs.InitSteps.{with_braces}
use Rattle.po_tree.proofs.dropping_initialisers.way_back.Goals as goal

pub returns-in-Some : goal.returns-in-Some
returns-in-Some c = rw c.in-Some.is (with_braces _ _ _ _ _ c.put_back.ensures refl)
