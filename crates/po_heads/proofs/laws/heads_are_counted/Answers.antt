use Rattle.po_heads.proofs.Expressions.{expression_agrees}
use Rattle.po_heads.proofs.Statements.{declaration_agrees, statement_agrees, definition_agrees}
use Rattle.po_heads.proofs.laws.heads_are_counted.Goals as goal

pub returns-clause-expressions : goal.returns-clause-expressions
returns-clause-expressions c = λ x. (expression_agrees x).counted

pub returns-clause-declarations : goal.returns-clause-declarations
returns-clause-declarations c = λ d. (declaration_agrees d).counted

pub returns-clause-statements : goal.returns-clause-statements
returns-clause-statements c = λ x. (statement_agrees x).counted

pub returns-clause-definitions : goal.returns-clause-definitions
returns-clause-definitions c = λ g. (definition_agrees g).counted
