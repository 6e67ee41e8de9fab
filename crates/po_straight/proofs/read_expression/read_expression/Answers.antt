use Rattle.po_straight.proofs.Rules.{whole, none_whole, none_expression}
use Rattle.po_straight.proofs.Few.{few}
use Rattle.po_straight.proofs.read_expression.read_expression.Goals as goal

pub returns-in_default-clause-none : goal.returns-in_default-clause-none
returns-in_default-clause-none c = none_expression (rw c.in_default.is at c.in_ok-found.ensures)

pub returns-then-found-lexemes-clause-none : goal.returns-then-found-lexemes-clause-none
returns-then-found-lexemes-clause-none c =
    let f = rw c.in-Some.is at c.in_ok-found.ensures in
    none_whole c.in-Some.found.end c.args.lexemes.now c.requires f.0 f.4 c.if-found-lexemes.true

pub returns-clause-found : goal.returns-clause-found
returns-clause-found c =
    let f = rw c.in-Some.is at c.in_ok-found.ensures in
    whole c.in-Some.found.end c.args.lexemes.now f.0 c.if-found-lexemes.false (rw (← f.1) f.2)

pub returns-clause-few : goal.returns-clause-few
returns-clause-few c =
    let f = rw c.in-Some.is at c.in_ok-found.ensures in
    few (whole c.in-Some.found.end c.args.lexemes.now f.0 c.if-found-lexemes.false (rw (← f.1) f.2))
