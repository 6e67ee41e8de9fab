use Rattle.po_symbols.specs.Pairs.{two_of}
use Rattle.po_symbols.proofs.Found.{Searched}
use Rattle.po_symbols.proofs.causes.least_of_bodies.Given as goal

abbrev pub invariant-loop-name : goal.invariant-loop-name
invariant-loop-name l = Searched two_of l.said.entries l.name-iterator
