use Rattle.po_decl_steps.proofs.AmongSpecifiers.{member_wants, param_wants, part_wants}
use Rattle.po_decl_steps.proofs.laws.specifiers_are_complete.Goals as goal

pub returns-clause-members : goal.returns-clause-members
returns-clause-members c = λ below outers types specs free now tag members declarators signs e some. member_wants below outers now tag members declarators e some

pub returns-clause-params : goal.returns-clause-params
returns-clause-params c = λ below outers types specs free now stars name params signs e some. param_wants below outers now stars name params e some

pub returns-clause-parts : goal.returns-clause-parts
returns-clause-parts c = λ below outers types specs free now typedef flag parts signs e some none h. part_wants below outers now typedef e some none h
