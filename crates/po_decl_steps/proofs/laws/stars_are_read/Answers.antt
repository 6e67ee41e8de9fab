use Rattle.po_decl_steps.proofs.AtDeclarators.{stars_alike}
use Rattle.po_decl_steps.proofs.laws.stars_are_read.Goals as goal

pub returns : goal.returns
returns c = λ below l outers types stars signs left w. stars_alike below l outers w
