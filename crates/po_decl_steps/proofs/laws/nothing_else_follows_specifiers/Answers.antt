use Rattle.po_decl_steps.proofs.AmongSpecifiers.{none_reads}
use Rattle.po_decl_steps.proofs.laws.nothing_else_follows_specifiers.Goals as goal

pub returns : goal.returns
returns c = λ below outers types l signs rest y here wrong shut p. none_reads below outers l rest y here wrong shut p
