use Rattle.po_interval.proofs.Ends.{within_tells, within_since, ends_ordered}
use Rattle.po_interval.proofs.laws.intervals_are_ordered.Goals as goal

pub returns-clause-exact : goal.returns-clause-exact
returns-clause-exact c = λ a b. (within_tells a b, within_since a b)

pub returns-clause-ordered : goal.returns-clause-ordered
returns-clause-ordered c = ends_ordered
