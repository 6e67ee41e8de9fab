use Rattle.po_decl_states.proofs.BehindParams.{param_goes}
use Rattle.po_decl_states.proofs.params.take_param.Goals as goal

pub returns-clause-goes : goal.returns-clause-goes
returns-clause-goes c =
    let kept = c.in_ok-hide_word.ensures.kept in
    param_goes c.args.tokens.now.list c.args.to c.args.at c.args.lists _ _ _ c.args.below c.args.specs c.args.free c.args.seen c.args.stars c.args.word c.args.params _ c.args.item c.go_past_param.result
    c.in_ok-push.ensures.ok kept.0 kept.1 c.in_ok-hide_word.ensures.same c.go_past_param.ensures.goes
