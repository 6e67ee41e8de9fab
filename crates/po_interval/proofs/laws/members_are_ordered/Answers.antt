use Rattle.po_interval.proofs.Joins.{tells, since, same_members}
use Rattle.po_interval.proofs.laws.members_are_ordered.Goals as goal

pub returns-clause-exact : goal.returns-clause-exact
returns-clause-exact c = λ a b. (tells a b, since a b)

pub returns-clause-antisymmetric : goal.returns-clause-antisymmetric
returns-clause-antisymmetric c = same_members
