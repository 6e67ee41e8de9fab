use Rattle.po_decl_laws.proofs.Fronts.{ends_no_specifier, ends_no_opens, declarator_ends, parameter_ends}
use Rattle.po_decl_laws.proofs.laws.specifiers_end.Goals as goal

pub returns-clause-no_specifier : goal.returns-clause-no_specifier
returns-clause-no_specifier c = λ outer free types seen signs e. ends_no_specifier outer free e

pub returns-clause-no_body : goal.returns-clause-no_body
returns-clause-no_body c = λ types seen signs left tag e w. ends_no_opens e w

pub returns-clause-declarators : goal.returns-clause-declarators
returns-clause-declarators c = λ types inner seen name d left w. declarator_ends w left

pub returns-clause-parameters : goal.returns-clause-parameters
returns-clause-parameters c = λ types inner seen d left w e. parameter_ends w left e
