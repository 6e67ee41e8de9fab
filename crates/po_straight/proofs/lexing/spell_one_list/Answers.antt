use Rattle.po_straight.proofs.Following.{one_spelling}
use Rattle.po_straight.proofs.lexing.spell_one_list.Goals as goal

pub returns : goal.returns
returns c = one_spelling
