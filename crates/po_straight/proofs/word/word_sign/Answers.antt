use Rattle.std.proofs.Common.{refl}
use Rattle.std.specs.Prelude.{codes}
use Rattle.po_straight.proofs.Written.{none_keyword, none_number, identifier, other_text}
use Rattle.po_straight.proofs.word.word_sign.Goals as goal

pub returns-then-is_keyword-clause-none : goal.returns-then-is_keyword-clause-none
returns-then-is_keyword-clause-none c =
    none_keyword _ c.requires.letters (c.if-is_nondigit.ensures.0 refl) (c.if-is_keyword.ensures.0 refl)
    (other_text _ (codes "int") _ c.if-eq.ensures c.as_slice.ensures) (other_text _ (codes "void") _ c.if-eq-2.ensures c.as_slice-2.ensures)
    (other_text _ (codes "return") _ c.if-eq-3.ensures c.as_slice-3.ensures)

pub returns-then-is_nondigit-clause-found : goal.returns-then-is_nondigit-clause-found
returns-then-is_nondigit-clause-found c =
    rw c.in_ok-new.ensures ((identifier _ c.requires.some (c.if-is_nondigit.ensures.0 refl) c.requires.letters, λ h. absurd (cc (c.if-is_keyword.ensures.1 h))), refl)

pub returns-in-None-clause-none : goal.returns-in-None-clause-none
returns-in-None-clause-none c =
    none_number _ c.requires.letters (λ h. absurd {A = ⊥} (cc (c.if-is_nondigit.ensures.1 h))) c.in-None.ensures.none
