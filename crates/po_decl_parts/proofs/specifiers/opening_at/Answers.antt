use Rattle.std.proofs.Common.{refl}
use Rattle.std.proofs.lemmas.Bool.{iff_false}
use Rattle.po_decl_parts.proofs.FirstWords.{opens_word, opens_struct, opens_by}
use Rattle.po_decl_parts.proofs.specifiers.opening_at.Goals as goal

pub returns-in_default-clause-none : goal.returns-in_default-clause-none
returns-in_default-clause-none c = λ tag left w. c.in_default.ensures.first (opens_word w)

pub returns-then-not-is_word-clause-none : goal.returns-then-not-is_word-clause-none
returns-then-not-is_word-clause-none c = λ tag left w. iff_false c.if-not-is_word.ensures refl (opens_struct c.in-Some.ensures.first w).0

pub returns-in_default-2-clause-none : goal.returns-in_default-2-clause-none
returns-in_default-2-clause-none c = λ tag left w.
    let none = rw c.in_default-2.is at c.in_ok-tag.ensures.none in
    none tag left (opens_struct c.in-Some.ensures.first w).1

pub returns-clause-found : goal.returns-clause-found
returns-clause-found c = opens_by c.in-Some.ensures.first (c.if-not-is_word.ensures.0 refl) (rw c.in-Some-2.is at c.in_ok-tag.ensures.found)
