use Rattle.po_decl_steps.proofs.AtDeclarators.{word_alike}
use Rattle.po_decl_steps.proofs.laws.words_are_read.Goals as goal

pub returns : goal.returns
returns c = λ below l outers types stars text signs left q w. word_alike below l outers q w
