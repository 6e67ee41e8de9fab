use Rattle.std.proofs.Common.{refl}
use Rattle.std.proofs.lemmas.Bool.{iff_false}
use Rattle.po_fun_parts.proofs.Starting.{block_starts, empty_starts, no_other_start}
use Rattle.po_fun_parts.proofs.starts.start_at.Goals as goal

pub returns-then-stands-clause-found : goal.returns-then-stands-clause-found
returns-then-stands-clause-found c = λ types s. block_starts _ c.if-stands.ensures.behind

pub returns-then-stands-2-clause-found : goal.returns-then-stands-2-clause-found
returns-then-stands-2-clause-found c = λ types s. empty_starts _ c.if-stands-2.ensures.behind

pub returns-in_default-2-clause-none : goal.returns-in_default-2-clause-none
returns-in_default-2-clause-none c = λ types s begun left w.
    no_other_start (iff_false c.if-stands.ensures.first refl) (iff_false c.if-stands-2.ensures.first refl) c.in_default.ensures.first
    (rw c.in_default-2.is at (c.in_ok-begun.ensures.none types s)) begun left w

pub returns-in_default-clause-found : goal.returns-in_default-clause-found
returns-in_default-clause-found c = λ types s. rw c.in-Some-2.is at (c.in_ok-begun.ensures.found types s)
