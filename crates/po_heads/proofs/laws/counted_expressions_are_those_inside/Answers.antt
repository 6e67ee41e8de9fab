use Rattle.po_heads.proofs.Counting.{just_inside}
use Rattle.po_heads.proofs.Counted.{expression_counted}
use Rattle.po_heads.proofs.CountedStatements.{declaration_counted, statement_counted, definition_counted}
use Rattle.po_heads.proofs.laws.counted_expressions_are_those_inside.Goals as goal

pub returns-clause-expressions : goal.returns-clause-expressions
returns-clause-expressions c = λ x y. just_inside (expression_counted x) y

pub returns-clause-declarations : goal.returns-clause-declarations
returns-clause-declarations c = λ d y. just_inside (declaration_counted d) y

pub returns-clause-statements : goal.returns-clause-statements
returns-clause-statements c = λ x y. just_inside (statement_counted x) y

pub returns-clause-definitions : goal.returns-clause-definitions
returns-clause-definitions c = λ g y. just_inside (definition_counted g) y
