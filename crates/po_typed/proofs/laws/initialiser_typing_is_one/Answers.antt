use Rattle.po_typed.proofs.OneInitialiser.{one_initialised}
use Rattle.po_typed.proofs.laws.initialiser_typing_is_one.Goals as goal

pub returns : goal.returns
returns c = λ ctx place t u v x ps qs f g. let s = one_initialised c.format_is_one.ensures ctx place f g in (s.type, s.pairs)
