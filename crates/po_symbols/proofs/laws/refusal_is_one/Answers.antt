use Rattle.po_symbols.proofs.Refused.{one_refusal}
use Rattle.po_symbols.proofs.laws.refusal_is_one.Goals as goal

pub returns : goal.returns
returns c = one_refusal
