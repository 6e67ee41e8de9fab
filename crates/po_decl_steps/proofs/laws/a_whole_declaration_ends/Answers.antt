use Rattle.po_decl_steps.proofs.AmongSpecifiers.{ended_whole}
use Rattle.po_decl_steps.proofs.laws.a_whole_declaration_ends.Goals as goal

pub returns : goal.returns
returns c = λ below outers types l typedef parts signs left q e some r. ended_whole below outers l typedef parts q e some r
