use Rattle.po_exp_parts.proofs.RangePlaces.{match_map, on_some-always, no_word, other_word, word_first}
use Rattle.po_exp_parts.proofs.ranges.word_at.Goals as goal

pub returns-in-Some-clause-first : goal.returns-in-Some-clause-first
returns-in-Some-clause-first c =
    match_map c.word_of.result (λ none. other_word c.in-Some.ensures.first none) (λ text q. word_first text.now c.in-Some.ensures.first q) c.word_of.ensures

pub returns-in-Some-clause-within : goal.returns-in-Some-clause-within
returns-in-Some-clause-within c = on_some-always c.word_of.result c.in-Some.ensures.within

pub returns-in-None-clause-first : goal.returns-in-None-clause-first
returns-in-None-clause-first c = no_word c.in-None.ensures.first
