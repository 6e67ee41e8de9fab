use Rattle.po_decl_steps.proofs.AmongSpecifiers.{specifier_alike}
use Rattle.po_decl_steps.proofs.laws.a_specifier_is_read.Goals as goal

pub returns : goal.returns
returns c = λ below outers types behind l free now spec signs left w. specifier_alike below outers l now w
