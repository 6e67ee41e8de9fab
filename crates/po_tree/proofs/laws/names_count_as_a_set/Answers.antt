use Rattle.po_tree.proofs.SameNames.{expression_same, declaration_same, definition_same}
use Rattle.po_tree.proofs.laws.names_count_as_a_set.Goals as goal

pub returns-clause-expressions : goal.returns-clause-expressions
returns-clause-expressions c = λ types types' s x is. expression_same types types' s x is

pub returns-clause-declarations : goal.returns-clause-declarations
returns-clause-declarations c = λ types types' s d behind is. declaration_same types types' s d behind is

pub returns-clause-definitions : goal.returns-clause-definitions
returns-clause-definitions c = λ types types' s g is. definition_same types types' s g is
