use Rattle.po_lex.proofs.Unique.{no_failure, not_both}
use Rattle.po_lex.proofs.laws.tokens_or_failure.Goals as goal

pub returns-clause-tokens : goal.returns-clause-tokens
returns-clause-tokens c = λ name bytes xs line directive h f. no_failure bytes line directive h.parts h.divides f

pub returns-clause-many : goal.returns-clause-many
returns-clause-many c = λ bytes line directive h f. no_failure bytes line directive h.parts h.divides f

pub returns-clause-few : goal.returns-clause-few
returns-clause-few c = not_both
