use Rattle.std.proofs.Common.{◌∙◌, sym}
use Rattle.po_fun_read.proofs.Joined.{no_body, more_left, function_stands}
use Rattle.po_fun_read.proofs.read.read_parts.Goals as goal

pub returns-in_default-found-clause-none : goal.returns-in_default-found-clause-none
returns-in_default-found-clause-none c =
    let e = rw c.in-Some.is at c.in_ok-head.ensures.found in
    no_body e (rw c.in_default-found.is at (c.in_ok-found.ensures.none e.inside e.same))

pub returns-in-Some-token_before-clause-none : goal.returns-in-Some-token_before-clause-none
returns-in-Some-token_before-clause-none c =
    let e = rw c.in-Some.is at c.in_ok-head.ensures.found in
    more_left e (rw c.in-Some-found.is at (c.in_ok-found.ensures.found e.inside e.same)) (λ q. let bad = sym c.in-Some-token_before.ensures.first ∙ q in absurd cc)

pub returns-in-None-clause-found : goal.returns-in-None-clause-found
returns-in-None-clause-found c =
    let e = rw c.in-Some.is at c.in_ok-head.ensures.found in
    function_stands e (rw c.in-Some-found.is at (c.in_ok-found.ensures.found e.inside e.same)) c.in-None.ensures.first
