use Rattle.po_lex.proofs.Balance.{balanced_back, none_left_open}
use Rattle.po_lex.proofs.laws.balanced_brackets.Goals as goal

pub returns-clause-back : goal.returns-clause-back
returns-clause-back c = balanced_back

pub returns-clause-balanced : goal.returns-clause-balanced
returns-clause-balanced c = none_left_open
