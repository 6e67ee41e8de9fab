use Rattle.std.proofs.Common.{refl}
use Rattle.std.proofs.lemmas.Bool.{iff_false}
use Rattle.po_decl_parts.proofs.Listed.{enumerator_name, plain_by, valued_by, no_value}
use Rattle.po_decl_parts.proofs.enumerators.enumerator_at.Goals as goal

pub returns-in_default-clause-none : goal.returns-in_default-clause-none
returns-in_default-clause-none c = λ types s item left w. c.in_default.ensures.first _ (enumerator_name w)

pub returns-then-not-stands-clause-found : goal.returns-then-not-stands-clause-found
returns-then-not-stands-clause-found c = λ types s. rw c.in_ok-share.ensures (plain_by c.in-Some.ensures.first (iff_false c.if-not-stands.ensures.first refl))

pub returns-in_default-2-clause-none : goal.returns-in_default-2-clause-none
returns-in_default-2-clause-none c = λ types s.
    no_value _ c.in-Some.ensures.first.1 c.if-not-stands.ensures.behind (rw c.in_default-2.is at (c.in_ok-value.ensures.none types s))

pub returns-clause-found : goal.returns-clause-found
returns-clause-found c = λ types s.
    rw c.in_ok-share-2.ensures (valued_by _ c.in-Some.ensures.first c.if-not-stands.ensures.behind (rw c.in-Some-2.is at (c.in_ok-value.ensures.found types s)))
