use Rattle.std.proofs.Common.{refl}
use Rattle.std.proofs.lemmas.Bool.{iff_false}
use Rattle.po_decl_parts.proofs.Endings.{no_constant}
use Rattle.po_decl_parts.proofs.Naming.{stands_same, turned}
use Rattle.po_decl_parts.proofs.constants.constant_at.Goals as goal

pub returns-in_default-clause-none : goal.returns-in_default-clause-none
returns-in_default-clause-none c = λ types s x left w.
    let none = rw c.in_default.is at c.in_ok-x.ensures.none in
    none x left (stands_same s w.stands)

pub returns-then-not-ends-clause-none : goal.returns-then-not-ends-clause-none
returns-then-not-ends-clause-none c = λ types s x left w.
    no_constant s (rw c.in-Some.is at c.in_ok-x.ensures.found) (iff_false c.if-not-ends.ensures.first refl) x left w

pub returns-clause-found : goal.returns-clause-found
returns-clause-found c = λ types s.
    let best = rw c.in-Some.is at c.in_ok-x.ensures.found in
    record { stands = stands_same (turned _ _ s) best.stands; ended = c.if-not-ends.ensures.first.0 refl }
