use Rattle.std.proofs.Common.{refl, arith}
use Rattle.po_fun_parts.proofs.Parentheses.{steps_behind_test}
use Rattle.po_fun_parts.proofs.heads.steps_at.Goals as goal

pub returns-in_default-clause-none : goal.returns-in_default-clause-none
returns-in_default-clause-none c = λ types s test step left w.
    let none = rw c.in_default.is at (c.in_ok-test.ensures.none types s) in
    none test w.between w.tested

pub returns-in_default-2-clause-none : goal.returns-in_default-2-clause-none
returns-in_default-2-clause-none c = λ types s test step left w.
    let none = rw c.in_default-2.is at (c.in_ok-step.ensures.none types s) in
    none step left (steps_behind_test (rw c.in-Some.is at (c.in_ok-test.ensures.found types s)) w).1

pub returns-clause-found : goal.returns-clause-found
returns-clause-found c = λ types s.
    record {
      between = _;
      tested = rw c.in-Some.is at (c.in_ok-test.ensures.found types s);
      stepped = rw c.in-Some-2.is at (c.in_ok-step.ensures.found types s);
    }

pub returns-clause-within : goal.returns-clause-within
returns-clause-within c =
    let first = rw c.in-Some.is at c.in_ok-test.ensures.within in
    let second = rw c.in-Some-2.is at c.in_ok-step.ensures.within in
    (omega (arith, first.0, second.0), second.1, second.2)
