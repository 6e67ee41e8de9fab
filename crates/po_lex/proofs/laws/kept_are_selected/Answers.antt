use Rattle.po_lex.proofs.Selected.{selected}
use Rattle.po_lex.proofs.laws.kept_are_selected.Goals as goal

pub returns : goal.returns
returns c = selected
