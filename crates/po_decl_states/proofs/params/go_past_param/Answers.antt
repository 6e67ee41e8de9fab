use Rattle.std.proofs.Common.{refl, arith}
use Rattle.std.proofs.lemmas.Bool.{iff_false}
use Rattle.po_decl_states.proofs.BehindParams.{end_goes, no_param_goes, past_comma_goes}
use Rattle.po_decl_states.proofs.Stepping.{gets_on_ok}
use Rattle.po_decl_states.proofs.params.go_past_param.Goals as goal

pub returns-then-stands-clause-goes : goal.returns-then-stands-clause-goes
returns-then-stands-clause-goes c =
    end_goes c.args.tokens.now.list c.args.to c.args.at c.args.lists _ _ c.args.below c.args.stars c.args.word c.args.params c.close_list.result c.if-stands.ensures.behind
    (c.close_list.ensures.goes c.args.tokens.now.list c.args.to)

pub returns-then-stands-clause-on : goal.returns-then-stands-clause-on
returns-then-stands-clause-on c =
    let within = c.if-stands.ensures.within in
    gets_on_ok c.args.tokens.now.list c.args.to c.args.at _ c.args.lists _ _ c.close_list.result (omega arith) (omega (arith, within.1)) (c.close_list.ensures.on c.args.tokens.now.list c.args.to)

pub returns-then-not-stands-clause-goes : goal.returns-then-not-stands-clause-goes
returns-then-not-stands-clause-goes c =
    no_param_goes c.args.tokens.now.list c.args.to c.args.at c.args.lists _ c.args.below c.args.stars c.args.word c.args.params (iff_false c.if-not-stands.ensures.first refl) (iff_false c.if-stands.ensures.first refl)

pub returns-clause-goes : goal.returns-clause-goes
returns-clause-goes c =
    past_comma_goes c.args.tokens.now.list c.args.to c.args.at c.args.lists _ _ c.args.below c.args.stars c.args.word c.args.params c.go_past_comma.result c.if-not-stands.ensures.behind c.go_past_comma.ensures.goes

pub returns-clause-on : goal.returns-clause-on
returns-clause-on c =
    let within = c.if-not-stands.ensures.within in
    gets_on_ok c.args.tokens.now.list c.args.to c.args.at _ c.args.lists _ _ c.go_past_comma.result (omega arith) (omega (arith, within.1)) c.go_past_comma.ensures.on
