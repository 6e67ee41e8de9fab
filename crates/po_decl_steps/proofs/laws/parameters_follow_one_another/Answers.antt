use Rattle.po_decl_steps.proofs.BehindDeclarators.{next_alike, closing_alike, dots_alike}
use Rattle.po_decl_steps.proofs.laws.parameters_follow_one_another.Goals as goal

pub returns-clause-further : goal.returns-clause-further
returns-clause-further c = λ below outers types stars name params signs left q none. next_alike below outers stars name q none

pub returns-clause-closed : goal.returns-clause-closed
returns-clause-closed c = λ below outers types stars name params signs left q. closing_alike below outers stars name q

pub returns-clause-more : goal.returns-clause-more
returns-clause-more c = λ below outers types stars name params signs inside left q r. dots_alike below outers stars name q r
