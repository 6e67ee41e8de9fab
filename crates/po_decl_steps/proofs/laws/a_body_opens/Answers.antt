use Rattle.po_decl_steps.proofs.AmongSpecifiers.{body_alike}
use Rattle.po_decl_steps.proofs.laws.a_body_opens.Goals as goal

pub returns : goal.returns
returns c = λ below outers types l tag signs left r w. body_alike below outers l r w
