use Rattle.std.proofs.Common.{◌≡◌, map, take}
use Rattle.po_ir.specs.Reaching.{effects_in, frees_here, does}
use Rattle.po_ir.proofs.effects.freeing.Given as goal

abbrev pub invariant-loop-function : goal.invariant-loop-function
invariant-loop-function l = l.here ≡ map (does (frees_here (effects_in l.library))) (take l.function-index l.functions)
