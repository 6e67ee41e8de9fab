use Rattle.std.proofs.Common.{arith}
use Rattle.po_decl_states.proofs.BehindParts.{value_goes, wrong_value_goes}
use Rattle.po_decl_states.proofs.Stepping.{gets_on}
use Rattle.po_decl_states.proofs.parts.read_part.Goals as goal

pub returns-in_default-clause-goes : goal.returns-in_default-clause-goes
returns-in_default-clause-goes c =
    wrong_value_goes c.args.tokens.now.list c.args.to c.args.at c.args.lists c.args.names.now c.args.specs _ c.args.typedef c.args.parts c.args.item (λ types s. rw c.in_default.is at (c.in_ok-value.ensures.none types s))

pub returns-clause-goes : goal.returns-clause-goes
returns-clause-goes c =
    value_goes c.one_initialiser_before_an_end.ensures c.args.tokens.now.list c.args.to c.args.at c.in-Some.end c.args.lists c.args.names.now c.args.specs _ c.args.typedef c.args.parts _ c.args.item c.in-Some.value _ c.in_ok-push.ensures.ok
    (λ types s. rw c.in-Some.is at (c.in_ok-value.ensures.found types s)) (c.go_past_part.ensures.goes c.args.names.now)

pub returns-clause-on : goal.returns-clause-on
returns-clause-on c =
    let after = rw c.in-Some.is at c.in_ok-value.ensures.within in
    gets_on c.args.tokens.now.list c.args.to c.args.at c.in-Some.end c.args.lists _ _ _ after (omega (arith, after)) c.go_past_part.ensures.on
