use Rattle.std.proofs.Common.{arith}
use Rattle.po_decl_states.proofs.BehindParams.{no_list_goes, no_outside_goes, list_closes}
use Rattle.po_decl_states.proofs.params.close_list.Goals as goal

pub returns-then-lists-eq0-clause-goes : goal.returns-then-lists-eq0-clause-goes
returns-then-lists-eq0-clause-goes c = λ tokens to. no_list_goes tokens to c.args.at c.args.lists _ c.args.below c.args.stars c.args.word c.args.params c.args.more c.if-lists-eq0.true

pub returns-in_default-clause-goes : goal.returns-in_default-clause-goes
returns-in_default-clause-goes c = λ tokens to. no_outside_goes tokens to c.args.at c.args.lists _ c.args.below c.args.stars c.args.word c.args.params c.args.more c.in_default.ensures.0

pub returns-clause-goes : goal.returns-clause-goes
returns-clause-goes c = λ tokens to.
    list_closes tokens to c.args.at c.args.lists _ _ _ c.args.below _ c.in-Some.level c.args.stars c.args.word c.args.params c.args.more c.in-Some.ensures (omega arith) c.in_ok-close_scope.ensures
