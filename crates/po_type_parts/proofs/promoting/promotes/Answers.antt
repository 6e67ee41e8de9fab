use Rattle.po_type_parts.specs.Converting as converting
use Rattle.po_type_parts.proofs.promoting.promotes.Goals as goal

pub returns-in-Int : goal.returns-in-Int
returns-in-Int c = rw (c.in-Int.is, c.promoted.ensures) (converting.promotes c.in-Int.number)
