use Rattle.po_tree.specs.DroppingInitialisers.{measure}
use Rattle.po_tree.proofs.+dropping_initialisers.Given as goal

abbrev pub decreases-dropping_initialisers::drop_initialisers-loop-next : goal.decreases-dropping_initialisers::drop_initialisers-loop-next
decreases-dropping_initialisers::drop_initialisers-loop-next l = measure l.here l.way
