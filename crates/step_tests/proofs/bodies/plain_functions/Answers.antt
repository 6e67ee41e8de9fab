use Rattle.std.proofs.Common.{sym, subst, All}
use Rattle.std.proofs.lemmas.List.Elements.{All-nil}
use Rattle.step_tests.specs.Bare.{IsBareFunction}
use Rattle.step_tests.proofs.bodies.plain_functions.Goals as goal

pub returns : goal.returns
returns c = c.in_ok-add_function-6.ensures (c.in_ok-add_function-5.ensures (c.in_ok-add_function-4.ensures (c.in_ok-add_function-3.ensures (c.in_ok-add_function-2.ensures (c.in_ok-add_function.ensures (subst (All (IsBareFunction 16)) (sym c.new-functions.ensures) (All-nil (IsBareFunction 16))))))))
