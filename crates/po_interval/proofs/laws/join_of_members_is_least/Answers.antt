use Rattle.po_interval.proofs.Joins.{join_proper, first_within, second_within, join_least, join_commutes, join_associates, join_idempotent, join_listed, join_of_type}
use Rattle.po_interval.proofs.laws.join_of_members_is_least.Goals as goal

pub returns-clause-least : goal.returns-clause-least
returns-clause-least c = record { proper = join_proper; first = first_within; second = second_within; least = join_least }

pub returns-clause-of_sets : goal.returns-clause-of_sets
returns-clause-of_sets c = record { commutes = join_commutes; associates = join_associates; idempotent = join_idempotent }

pub returns-clause-of_both : goal.returns-clause-of_both
returns-clause-of_both c = record { listed = join_listed; of_type = join_of_type }
