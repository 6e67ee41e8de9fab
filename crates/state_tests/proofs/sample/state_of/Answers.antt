use Rattle.std.proofs.Common.{refl}
use Rattle.state_tests.proofs.sample.state_of.Goals as goal

pub returns : goal.returns
returns c = λ value slot heap. rw (c.in_ok-regs.ensures, c.in_ok-slots.ensures) (((value, tt), refl), (((slot, tt), refl), heap))
