use Rattle.po_lex.proofs.Unique.{one_list}
use Rattle.po_lex.proofs.laws.one_token_list.Goals as goal

pub returns : goal.returns
returns c = one_list
