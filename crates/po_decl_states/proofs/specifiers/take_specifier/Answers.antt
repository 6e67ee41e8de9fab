use Rattle.std.proofs.Common.{refl}
use Rattle.std.proofs.lemmas.Bool.{iff_false}
use Rattle.po_decl_states.proofs.specifiers.take_specifier.Goals as goal

pub returns-then-ends_specifiers-clause-goes : goal.returns-then-ends_specifiers-clause-goes
returns-then-ends_specifiers-clause-goes c = c.end_specifiers.ensures.goes _ (λ types s. (c.if-ends_specifiers.ensures types s).0 refl)

pub returns-in-Some-clause-goes : goal.returns-in-Some-clause-goes
returns-in-Some-clause-goes c =
    let found = rw c.in-Some.is at c.in_ok-tag.ensures.found in
    c.open_body.ensures.goes c.args.tokens.now.list c.args.at c.args.to _ found.0 found.1

pub returns-clause-goes : goal.returns-clause-goes
returns-clause-goes c =
    c.read_specifier.ensures.goes (rw c.in_default.is at c.in_ok-tag.ensures.none) (λ types s. iff_false (c.if-ends_specifiers.ensures types s) refl)

pub returns-in-Some-clause-on : goal.returns-in-Some-clause-on
returns-in-Some-clause-on c =
    let w = rw c.in-Some.is at c.in_ok-tag.ensures.within in
    c.open_body.ensures.on c.args.tokens.now.list c.args.at c.args.to w.0 w.2
