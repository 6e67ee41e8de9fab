use Rattle.std.proofs.Common.{sym}
use Rattle.po_decl_states.proofs.AtSpecifiers.{no_specifier_goes}
use Rattle.po_decl_states.proofs.specifiers.read_specifier.Goals as goal

pub returns-in-Some-clause-goes : goal.returns-in-Some-clause-goes
returns-in-Some-clause-goes c = λ shut here.
    let kept = c.in_ok-found.ensures.kept in
    c.put_specifier.ensures.goes c.args.tokens.now.list c.args.at c.args.to _ _ (sym kept.0) (sym kept.1)
    (λ types s. rw c.is_outer-outer.ensures at (rw c.in-Some.is at (c.in_ok-found.ensures.found types s)))

pub returns-in-None-clause-goes : goal.returns-in-None-clause-goes
returns-in-None-clause-goes c = λ shut here.
    let kept = c.in_ok-found.ensures.kept in
    no_specifier_goes c.args.tokens.now.list c.args.to c.args.at c.args.lists _ _ c.args.below c.args.level kept.0 kept.1 shut here
    (λ types s. rw c.is_outer-outer.ensures at (rw c.in-None.is at (c.in_ok-found.ensures.none types s)))

pub returns-in-Some-clause-on : goal.returns-in-Some-clause-on
returns-in-Some-clause-on c =
    let w = rw c.in-Some.is at c.in_ok-found.ensures.within in
    c.put_specifier.ensures.on c.args.tokens.now.list c.args.at c.args.to w.0 w.2
