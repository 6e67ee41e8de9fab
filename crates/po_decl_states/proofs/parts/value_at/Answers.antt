use Rattle.std.proofs.Common.{refl}
use Rattle.std.proofs.lemmas.Bool.{iff_false}
use Rattle.po_decl_parts.proofs.Naming.{turned}
use Rattle.po_decl_states.specs.Values.{no_value, one_value}
use Rattle.po_decl_states.proofs.SameInits.{ended_same}
use Rattle.po_decl_states.proofs.parts.value_at.Goals as goal

pub returns-then-not-stands-clause-found : goal.returns-then-not-stands-clause-found
returns-then-not-stands-clause-found c = λ types s. no_value (iff_false c.if-not-stands.ensures.first refl)

pub returns-in_default-clause-none : goal.returns-in_default-clause-none
returns-in_default-clause-none c = λ types s.
    let none = rw c.in_default.is at c.in_ok-value.ensures.none in
    (_, c.if-not-stands.ensures.behind, λ x us w. none x us (ended_same types _ s w))

pub returns-clause-found : goal.returns-clause-found
returns-clause-found c = λ types s.
    one_value _ _ _ c.if-not-stands.ensures.behind (ended_same _ types (turned types _ s) (rw c.in-Some.is at c.in_ok-value.ensures.found))
