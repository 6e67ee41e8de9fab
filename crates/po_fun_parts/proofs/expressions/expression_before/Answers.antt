use Rattle.std.proofs.Common.{refl}
use Rattle.std.proofs.lemmas.Bool.{iff_false}
use Rattle.po_fun_parts.proofs.Ending.{before_same, no_value, value_found}
use Rattle.po_fun_parts.proofs.expressions.expression_before.Goals as goal

pub returns-in_default-clause-none : goal.returns-in_default-clause-none
returns-in_default-clause-none c = λ types s x left w.
    let none = rw c.in_default.is at c.in_ok-x.ensures.none in
    none x _ (before_same s w)

pub returns-then-not-stops-clause-none : goal.returns-then-not-stops-clause-none
returns-then-not-stops-clause-none c = λ types s x left w.
    no_value c.args.stop s (rw c.in-Some.is at c.in_ok-x.ensures.found) (iff_false c.if-not-stops.ensures.first refl) x left w

pub returns-clause-found : goal.returns-clause-found
returns-clause-found c = λ types s. value_found s (rw c.in-Some.is at c.in_ok-x.ensures.found) c.if-not-stops.ensures.behind
