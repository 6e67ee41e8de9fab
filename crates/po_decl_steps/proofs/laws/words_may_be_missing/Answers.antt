use Rattle.po_decl_steps.proofs.AtDeclarators.{missing_alike}
use Rattle.po_decl_steps.proofs.laws.words_may_be_missing.Goals as goal

pub returns : goal.returns
returns c = λ below l outers types stars signs none h. missing_alike below l outers none h
