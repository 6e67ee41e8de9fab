use Rattle.std.proofs.Common.{refl, arith}
use Rattle.std.proofs.lemmas.Bool.{iff_false}
use Rattle.po_decl_states.proofs.BehindMembers.{further_member_goes, brace_goes}
use Rattle.po_decl_states.proofs.Stepping.{gets_on_ok}
use Rattle.po_decl_states.proofs.members.go_past_member.Goals as goal

pub returns-then-stands-clause-goes : goal.returns-then-stands-clause-goes
returns-then-stands-clause-goes c = λ names.
    brace_goes c.args.tokens.now.list c.args.to c.args.at c.args.lists names c.args.below c.args.tag c.args.members c.close_body.result c.if-stands.ensures.behind
    (c.close_body.ensures.goes c.args.tokens.now.list c.args.to names)

pub returns-then-stands-clause-on : goal.returns-then-stands-clause-on
returns-then-stands-clause-on c =
    gets_on_ok c.args.tokens.now.list c.args.to c.args.at _ c.args.lists _ _ c.close_body.result (omega arith) (omega arith) (c.close_body.ensures.on c.args.tokens.now.list c.args.to)

pub returns-clause-goes : goal.returns-clause-goes
returns-clause-goes c = λ names.
    rw (c.new.ensures, c.new-2.ensures) (further_member_goes c.args.tokens.now.list c.args.to c.args.at c.args.lists names c.args.below c.args.tag c.args.members (iff_false c.if-stands.ensures.first refl))
