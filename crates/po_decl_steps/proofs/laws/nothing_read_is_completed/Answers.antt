use Rattle.po_decl_steps.proofs.AmongSpecifiers.{begin_alike}
use Rattle.po_decl_steps.proofs.laws.nothing_read_is_completed.Goals as goal

pub returns : goal.returns
returns c = λ types signs. begin_alike types signs
