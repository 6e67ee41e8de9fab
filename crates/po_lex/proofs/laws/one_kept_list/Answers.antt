use Rattle.po_lex.proofs.Unique.{one_kept}
use Rattle.po_lex.proofs.laws.one_kept_list.Goals as goal

pub returns : goal.returns
returns c = one_kept
