use Rattle.po_decl_steps.proofs.Declarations.{no_part_end}
use Rattle.po_decl_steps.proofs.Members.{no_declarator_end}
use Rattle.po_decl_steps.proofs.Parameters.{no_param_end}
use Rattle.po_decl_steps.proofs.BehindDeclarators.{dots_wrong}
use Rattle.po_decl_steps.proofs.laws.nothing_else_follows_declarators.Goals as goal

pub returns-clause-parts : goal.returns-clause-parts
returns-clause-parts c = λ specs now typedef parts types signs rest y a b p. no_part_end a b p.1

pub returns-clause-members : goal.returns-clause-members
returns-clause-members c = λ below outers types specs now tag members declarators signs rest y a b p. no_declarator_end a b p

pub returns-clause-params : goal.returns-clause-params
returns-clause-params c = λ below outers types stars name params signs rest y a b p. no_param_end a b p

pub returns-clause-more : goal.returns-clause-more
returns-clause-more c = λ below outers types stars name params signs inside rest y q wrong p. dots_wrong below outers stars name rest y q wrong p
