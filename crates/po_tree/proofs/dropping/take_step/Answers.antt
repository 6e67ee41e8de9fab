use Rattle.std.proofs.Common.{refl}
use Rattle.po_tree.proofs.Steps.{goes_along}
use Rattle.po_tree.proofs.dropping.take_step.Goals as goal

pub returns-in-Some : goal.returns-in-Some
returns-in-Some c = goes_along c.args.left _ _ refl refl c.in-Some.is refl c.let_wait.ensures

pub returns-in-Some-here : goal.returns-in-Some-here
returns-in-Some-here c = goes_along c.args.left _ _ c.in-Some-here.is refl c.in-None.is refl c.go_on.ensures

pub returns-in-Some-way : goal.returns-in-Some-way
returns-in-Some-way c = goes_along c.args.left _ _ c.in-None-here.is c.in-Some-way.is c.in-None.is refl c.go_back.ensures

pub returns-in-Some-waiting : goal.returns-in-Some-waiting
returns-in-Some-waiting c = goes_along c.args.left _ _ c.in-None-here.is c.in-None-way.is c.in-None.is c.in-Some-waiting.is c.go_into.ensures
