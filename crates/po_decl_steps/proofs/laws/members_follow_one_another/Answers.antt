use Rattle.po_decl_steps.proofs.BehindDeclarators.{semicolon_alike, member_alike, closed_alike}
use Rattle.po_decl_steps.proofs.laws.members_follow_one_another.Goals as goal

pub returns-clause-whole : goal.returns-clause-whole
returns-clause-whole c = λ below outers types specs now tag members declarators signs left q. semicolon_alike below outers specs tag members q

pub returns-clause-further : goal.returns-clause-further
returns-clause-further c = λ below outers types tag members signs none. member_alike below outers tag none

pub returns-clause-closed : goal.returns-clause-closed
returns-clause-closed c = λ below outers types tag members signs left q. closed_alike below outers tag q
