use Rattle.std.proofs.Common.{refl, arith}
use Rattle.std.specs.Prelude.{pos}
use Rattle.std.proofs.lemmas.Int.{ints}
use Rattle.state_tests.proofs.states.rel_of.Goals as goal

pub returns-in-Near : goal.returns-in-Near
returns-in-Near c = ((pos 0, (omega (arith, ints), omega (arith, ints))), refl)

pub returns-in-Far : goal.returns-in-Far
returns-in-Far c = ((pos 5, (omega (arith, ints), tt)), refl)

pub returns-in-Hull : goal.returns-in-Hull
returns-in-Hull c = ((pos 0, (omega (arith, ints), tt)), refl)

pub returns-in-Low : goal.returns-in-Low
returns-in-Low c = ((pos 3, (tt, omega (arith, ints))), refl)
