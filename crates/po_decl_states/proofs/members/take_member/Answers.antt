use Rattle.std.proofs.Common.{refl, arith}
use Rattle.std.proofs.lemmas.Bool.{iff_false}
use Rattle.po_decl_states.proofs.BehindMembers.{further_declarator_goes, no_declarator_goes, member_goes}
use Rattle.po_decl_states.proofs.Stepping.{gets_on_ok}
use Rattle.po_decl_states.proofs.members.take_member.Goals as goal

pub returns-then-stands-clause-goes : goal.returns-then-stands-clause-goes
returns-then-stands-clause-goes c = λ names.
    further_declarator_goes c.args.tokens.now.list c.args.to c.args.at c.args.lists names c.args.below c.args.specs c.args.free c.args.seen c.args.tag c.args.members c.args.declarators _ c.args.item c.in_ok-push.ensures.ok c.if-stands.ensures.behind

pub returns-then-not-stands-clause-goes : goal.returns-then-not-stands-clause-goes
returns-then-not-stands-clause-goes c = λ names.
    no_declarator_goes c.args.tokens.now.list c.args.to c.args.at c.args.lists names c.args.below c.args.specs c.args.free c.args.seen c.args.tag c.args.members c.args.declarators c.args.item
    (iff_false c.if-stands.ensures.first refl) (iff_false c.if-not-stands.ensures.first refl)

pub returns-clause-goes : goal.returns-clause-goes
returns-clause-goes c = λ names.
    member_goes c.args.tokens.now.list c.args.to c.args.at c.args.lists names c.args.below c.args.specs c.args.free c.args.seen c.args.tag c.args.members _ c.args.declarators _ c.args.item c.go_past_member.result
    c.in_ok-push.ensures.ok c.in_ok-push-2.ensures.ok c.if-not-stands.ensures.behind (c.go_past_member.ensures.goes names)

pub returns-clause-on : goal.returns-clause-on
returns-clause-on c =
    let within = c.if-not-stands.ensures.within in
    gets_on_ok c.args.tokens.now.list c.args.to c.args.at _ c.args.lists _ _ c.go_past_member.result (omega arith) (omega (arith, within.1)) c.go_past_member.ensures.on
