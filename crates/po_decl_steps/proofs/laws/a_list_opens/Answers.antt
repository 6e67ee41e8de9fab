use Rattle.po_decl_steps.proofs.AtDeclarators.{list_alike}
use Rattle.po_decl_steps.proofs.laws.a_list_opens.Goals as goal

pub returns : goal.returns
returns c = λ below l outers types stars name signs none. list_alike below l outers none
