use Rattle.po_fun_laws.proofs.OneDefinition as definition
use Rattle.po_fun_laws.proofs.laws.no_declaration_is_a_definition.Goals as goal

pub returns : goal.returns
returns c = definition.no_declaration_is_a_definition
