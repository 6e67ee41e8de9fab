use Rattle.std.specs.Prelude.{pos}
use Rattle.state_tests.proofs.sample.related.Goals as goal

pub returns : goal.returns
returns c = λ rel. record { range = (pos 0, (tt, tt)); members = tt; rel = rel; bases = tt }
