use Rattle.std.proofs.Common.{◌≡◌, take, sum_by}
use Rattle.po_symbols.specs.Linking.{unit_functions}
use Rattle.po_symbols.proofs.sizes.total_functions.Given as goal

abbrev pub invariant-loop-unit : goal.invariant-loop-unit
invariant-loop-unit l = l.sum ≡ sum_by unit_functions (take l.unit-index l.units)
