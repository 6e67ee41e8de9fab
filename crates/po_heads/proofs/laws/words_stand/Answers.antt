use Rattle.po_heads.proofs.Naming.{word_stands}
use Rattle.po_heads.proofs.laws.words_stand.Goals as goal

pub returns : goal.returns
returns c = λ d name is. word_stands d name is
