use Rattle.po_decl_steps.proofs.AtDeclarators.{empty_alike}
use Rattle.po_decl_steps.proofs.laws.an_empty_list_ends_a_declarator.Goals as goal

pub returns : goal.returns
returns c = λ below l outers types stars name signs left q. empty_alike below l outers q
