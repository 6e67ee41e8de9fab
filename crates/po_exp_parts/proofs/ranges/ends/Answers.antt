use Rattle.po_exp_parts.proofs.RangePlaces.{ends_by, ends_nowhere, where_told}
use Rattle.po_exp_parts.proofs.ranges.ends.Goals as goal

pub returns-in-Some-clause-first : goal.returns-in-Some-clause-first
returns-in-Some-clause-first c = ends_by c.in-Some.ensures.first c.is_end.ensures

pub returns-in-Some-clause-within : goal.returns-in-Some-clause-within
returns-in-Some-clause-within c = where_told c.is_end.result (λ _. c.in-Some.ensures.within)

pub returns-in-None-clause-first : goal.returns-in-None-clause-first
returns-in-None-clause-first c = ends_nowhere c.in-None.ensures.first
