use Rattle.std.proofs.Common.{◌≡◌, take, sum_by}
use Rattle.po_symbols.specs.Linking.{weight_of}
use Rattle.po_symbols.proofs.sizes.weight_of_all.Given as goal

abbrev pub invariant-loop-function : goal.invariant-loop-function
invariant-loop-function l = l.sum ≡ sum_by weight_of (take l.function-index l.functions)
