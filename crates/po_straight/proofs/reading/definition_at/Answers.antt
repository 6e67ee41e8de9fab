use Rattle.std.proofs.Common.{arith, drop}
use Rattle.po_straight.proofs.Beginnings.{heading_long, no_heading, no_body, starts_with}
use Rattle.po_straight.proofs.Sequences.{known_differ}
use Rattle.po_straight.proofs.reading.definition_at.Goals as goal

pub returns-in_default-clause-none : goal.returns-in_default-clause-none
returns-in_default-clause-none c = λ d left h. absurd (no_heading _ _ (rw c.in_default.is at c.in_ok-heading.ensures.none) d left h)

pub overflow_cast-len : goal.overflow_cast-len
overflow_cast-len c =
    let h = heading_long c.in-Some.heading.name c.in-Some.heading.parameters c.args.lexemes.now c.args.at c.in-Some.heading.end
    (rw c.in-Some.is at c.in_ok-heading.ensures.found) (rw c.in-Some.is at c.in_ok-heading.ensures.within) in
    omega (arith, h.1, c.len.ensures, c.requires.short)

pub body_at-requires-clause-few : goal.body_at-requires-clause-few
body_at-requires-clause-few c =
    let h = heading_long c.in-Some.heading.name c.in-Some.heading.parameters c.args.lexemes.now c.args.at c.in-Some.heading.end
    (rw c.in-Some.is at c.in_ok-heading.ensures.found) (rw c.in-Some.is at c.in_ok-heading.ensures.within) in
    rw c.new-scope.ensures (omega (arith, h.1, c.requires.short))

pub body_at-requires-clause-differ : goal.body_at-requires-clause-differ
body_at-requires-clause-differ c =
    let added = rw (c.if-not-branch.false, c.in_ok-share.ensures, c.len.ensures) at c.in_ok-insert.ensures in
    rw (c.new-scope.ensures, added.0) (record {
      parameters = rw c.in-Some.is at c.in_ok-heading.ensures.differ;
      functions = known_differ c.args.functions.now _ c.requires.differ added.1;
    })

pub returns-in_default-2-clause-none : goal.returns-in_default-2-clause-none
returns-in_default-2-clause-none c = λ d left g.
    let found = rw c.in-Some.is at c.in_ok-heading.ensures.found in
    let h = heading_long c.in-Some.heading.name c.in-Some.heading.parameters c.args.lexemes.now c.args.at c.in-Some.heading.end
    found (rw c.in-Some.is at c.in_ok-heading.ensures.within) in
    let added = rw (c.if-not-branch.false, c.in_ok-share.ensures, c.len.ensures) at c.in_ok-insert.ensures in
    absurd (no_body c.args.functions.now c.in-Some.heading.name c.in-Some.heading.parameters c.args.lexemes.now c.args.at c.in-Some.heading.end found (omega (arith, h.0))
    (rw (c.in_default-2.is, c.new-scope.ensures, added.0) at c.in_ok-body.ensures.none) d left g)

pub returns-clause-found : goal.returns-clause-found
returns-clause-found c =
    let found = rw c.in-Some.is at c.in_ok-heading.ensures.found in
    let h = heading_long c.in-Some.heading.name c.in-Some.heading.parameters c.args.lexemes.now c.args.at c.in-Some.heading.end
    found (rw c.in-Some.is at c.in_ok-heading.ensures.within) in
    let added = rw (c.if-not-branch.false, c.in_ok-share.ensures, c.len.ensures) at c.in_ok-insert.ensures in
    rw c.into_names.ensures.names
    (starts_with c.args.functions.now (record { name = c.in-Some.heading.name; parameters = c.in-Some.heading.parameters; line = c.in-Some-2.body.line; value = c.in-Some-2.body.value })
    c.args.lexemes.now c.args.at c.in-Some.heading.end (drop c.in-Some-2.body.end c.args.lexemes.now) (omega (arith, h.0)) found
    (rw c.in-Some.is at c.in_ok-heading.ensures.differ) (rw (c.in-Some-2.is, c.new-scope.ensures, added.0) at c.in_ok-body.ensures.found))

pub returns-clause-within : goal.returns-clause-within
returns-clause-within c =
    let h = heading_long c.in-Some.heading.name c.in-Some.heading.parameters c.args.lexemes.now c.args.at c.in-Some.heading.end
    (rw c.in-Some.is at c.in_ok-heading.ensures.found) (rw c.in-Some.is at c.in_ok-heading.ensures.within) in
    let b = rw c.in-Some-2.is at c.in_ok-body.ensures.within in
    (omega (arith, h.0, b.0), b.1)
