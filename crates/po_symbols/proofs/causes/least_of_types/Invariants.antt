use Rattle.po_symbols.specs.Pairs.{clash_of}
use Rattle.po_symbols.proofs.Found.{Searched}
use Rattle.po_symbols.proofs.causes.least_of_types.Given as goal

abbrev pub invariant-loop-name : goal.invariant-loop-name
invariant-loop-name l = Searched clash_of l.said.entries l.name-iterator
