use Rattle.po_lex.proofs.Balance.{piece_balanced}
use Rattle.po_lex.proofs.laws.pieces_are_balanced.Goals as goal

pub returns : goal.returns
returns c = piece_balanced
