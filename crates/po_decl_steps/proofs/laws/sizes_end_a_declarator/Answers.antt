use Rattle.po_decl_steps.proofs.AtDeclarators.{sizes_alike}
use Rattle.po_decl_steps.proofs.laws.sizes_end_a_declarator.Goals as goal

pub returns : goal.returns
returns c = λ below l outers types stars name sizes signs left none w. sizes_alike below l outers sizes none w
