use Rattle.std.proofs.Common.{◌≡◌, map, take}
use Rattle.po_ir.specs.Reaching.{effects_in, writes_here, does}
use Rattle.po_ir.proofs.effects.writing.Given as goal

abbrev pub invariant-loop-function : goal.invariant-loop-function
invariant-loop-function l = l.here ≡ map (does (writes_here (effects_in l.library))) (take l.function-index l.functions)
