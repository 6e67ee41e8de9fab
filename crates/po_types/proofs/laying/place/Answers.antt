use Rattle.std.proofs.Common.{arith}
use Rattle.po_types.proofs.laying.place.Goals as goal

pub returns-in-None : goal.returns-in-None
returns-in-None c = λ o n. let h = c.in-None.ensures o n in omega (arith, h)
