use Rattle.std.specs.Prelude.{◌≡◌, map, take}
use Rattle.meaning_tests.specs.Freeing.{start_asked}
use Rattle.meaning_tests.proofs.freeing.FreeingLibrary.required.Given as goal

abbrev pub invariant-loop-operand : goal.invariant-loop-operand
invariant-loop-operand l = l.list ≡ map start_asked (take l.operand-index l.args)
