use Rattle.std.proofs.Common.{refl}
use Rattle.std.proofs.lemmas.Bool.{iff_false}
use Rattle.po_fun_parts.specs.Stops.{alone, behind_value}
use Rattle.po_fun_parts.proofs.Ending.{no_optional}
use Rattle.po_fun_parts.proofs.expressions.optional_before.Goals as goal

pub returns-then-stops-clause-found : goal.returns-then-stops-clause-found
returns-then-stops-clause-found c = λ types s. alone _ c.if-stops.ensures.behind

pub returns-in_default-clause-none : goal.returns-in_default-clause-none
returns-in_default-clause-none c = λ types s x left w.
    no_optional (iff_false c.if-stops.ensures.first refl) (rw c.in_default.is at (c.in_ok-x.ensures.none types s)) x left w

pub returns-clause-found : goal.returns-clause-found
returns-clause-found c = λ types s. behind_value _ _ (rw c.in-Some.is at (c.in_ok-x.ensures.found types s))
