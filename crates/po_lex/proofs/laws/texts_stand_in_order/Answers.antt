use Rattle.po_lex.proofs.Unique.{texts_in_order}
use Rattle.po_lex.proofs.laws.texts_stand_in_order.Goals as goal

pub returns : goal.returns
returns c = texts_in_order
