use Rattle.std.proofs.Common.{arith}
use Rattle.state_tests.proofs.sample.one_block.Goals as goal

pub returns : goal.returns
returns c = rw c.in_ok-heap.ensures ((tt, tt), ((omega arith, tt), tt))
