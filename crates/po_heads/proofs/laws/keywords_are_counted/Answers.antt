use Rattle.po_heads.proofs.Statements.{statement_agrees, definition_agrees}
use Rattle.po_heads.proofs.laws.keywords_are_counted.Goals as goal

pub returns-clause-statements : goal.returns-clause-statements
returns-clause-statements c = λ x. (statement_agrees x).kept

pub returns-clause-definitions : goal.returns-clause-definitions
returns-clause-definitions c = λ g. (definition_agrees g).kept
