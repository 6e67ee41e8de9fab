use Rattle.po_lex.proofs.Placed.{placed}
use Rattle.po_lex.proofs.laws.tokens_are_placed.Goals as goal

pub returns : goal.returns
returns c = placed
