use Rattle.std.proofs.Common.{refl, arith}
use Rattle.std.proofs.lemmas.Bool.{iff_false}
use Rattle.po_decl_states.proofs.BehindParams.{further_param_goes, wrong_dots_goes, dots_goes}
use Rattle.po_decl_states.proofs.Stepping.{gets_on_ok}
use Rattle.po_decl_states.proofs.params.go_past_comma.Goals as goal

pub returns-then-not-stands-clause-goes : goal.returns-then-not-stands-clause-goes
returns-then-not-stands-clause-goes c =
    rw c.new.ensures (further_param_goes c.args.tokens.now.list c.args.to c.args.at c.args.lists _ c.args.below c.args.stars c.args.word c.args.params (iff_false c.if-not-stands.ensures.first refl))

pub returns-then-not-stands-2-clause-goes : goal.returns-then-not-stands-2-clause-goes
returns-then-not-stands-2-clause-goes c =
    wrong_dots_goes c.args.tokens.now.list c.args.to c.args.at c.args.lists _ c.args.below c.args.stars c.args.word c.args.params c.if-not-stands.ensures.behind (iff_false c.if-not-stands-2.ensures.first refl)

pub returns-clause-goes : goal.returns-clause-goes
returns-clause-goes c =
    dots_goes c.args.tokens.now.list c.args.to c.args.at c.args.lists _ _ c.args.below c.args.stars c.args.word c.args.params c.close_list.result c.if-not-stands.ensures.behind c.if-not-stands-2.ensures.behind
    (c.close_list.ensures.goes c.args.tokens.now.list c.args.to)

pub returns-clause-on : goal.returns-clause-on
returns-clause-on c =
    gets_on_ok c.args.tokens.now.list c.args.to c.args.at _ c.args.lists _ _ c.close_list.result (omega arith) (omega arith) (c.close_list.ensures.on c.args.tokens.now.list c.args.to)
