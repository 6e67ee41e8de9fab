use Rattle.po_exp_parts.proofs.RangePlaces.{stands_by, stands_behind, stands_nowhere, where_told}
use Rattle.po_exp_parts.proofs.ranges.stands.Goals as goal

pub returns-in-Some-clause-first : goal.returns-in-Some-clause-first
returns-in-Some-clause-first c = stands_by c.in-Some.ensures.first c.is_punct.ensures

pub returns-in-Some-clause-behind : goal.returns-in-Some-clause-behind
returns-in-Some-clause-behind c = where_told c.is_punct.result (stands_behind c.in-Some.ensures.first c.is_punct.ensures)

pub returns-in-Some-clause-within : goal.returns-in-Some-clause-within
returns-in-Some-clause-within c = where_told c.is_punct.result (λ _. c.in-Some.ensures.within)

pub returns-in-None-clause-first : goal.returns-in-None-clause-first
returns-in-None-clause-first c = stands_nowhere _ c.in-None.ensures.first
