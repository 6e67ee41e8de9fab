use Rattle.po_decl_steps.proofs.BehindDeclarators.{further_alike, comma_alike}
use Rattle.po_decl_steps.proofs.laws.a_comma_wants_a_declarator.Goals as goal

pub returns-clause-parts : goal.returns-clause-parts
returns-clause-parts c = λ below outers types specs free typedef now parts signs left q. further_alike below outers free now q

pub returns-clause-members : goal.returns-clause-members
returns-clause-members c = λ below outers types specs free now tag members declarators signs left q. comma_alike below outers specs free now tag members q
