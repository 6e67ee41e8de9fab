use Rattle.po_lex.proofs.Divisions.{one_piece_list}
use Rattle.po_lex.proofs.laws.one_piece_list.Goals as goal

pub returns : goal.returns
returns c = one_piece_list
