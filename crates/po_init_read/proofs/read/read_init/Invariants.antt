use Rattle.po_init_read.specs.Completing.{Leads, remaining}
use Rattle.po_init_read.proofs.read.read_init.Given as goal

abbrev pub invariant-loop-next : goal.invariant-loop-next
invariant-loop-next l = Leads l.names.typedefs l.tokens.list l.from l.to l.state

abbrev pub decreases-loop-next : goal.decreases-loop-next
decreases-loop-next l = remaining l.tokens.list l.state
