use Rattle.std.proofs.Common.{refl}
use Rattle.po_straight.proofs.Fronts.{word_stands, mark_stands}
use Rattle.po_straight.proofs.Nowhere.{no_word_stands, no_mark_stands}
use Rattle.po_straight.proofs.lexing.sign_at.Goals as goal

pub returns-in-Some-clause-found : goal.returns-in-Some-clause-found
returns-in-Some-clause-found c =
    word_stands _ _ _ _ c.word_end-end.ensures.after c.word_end-end.ensures.within c.word_end-end.ensures.ended (rw c.in-Some.is at c.in_ok-sign.ensures.found)

pub returns-in-None-clause-none : goal.returns-in-None-clause-none
returns-in-None-clause-none c =
    no_word_stands _ _ _ c.requires c.word_end-end.ensures.after c.word_end-end.ensures.within (c.if-is_word_byte.ensures.0 refl)
    c.word_end-end.ensures.word c.word_end-end.ensures.ended (rw c.in-None.is at c.in_ok-sign.ensures.none)

pub returns-in-None-mark-clause-none : goal.returns-in-None-mark-clause-none
returns-in-None-mark-clause-none c =
    no_mark_stands _ _ c.requires (λ w. absurd (cc (c.if-is_word_byte.ensures.1 w))) c.in-None-mark.ensures

pub returns-in-Some-mark-clause-found : goal.returns-in-Some-mark-clause-found
returns-in-Some-mark-clause-found c = mark_stands _ _ _ c.requires c.in-Some-mark.ensures.0 c.in-Some-mark.ensures.1
