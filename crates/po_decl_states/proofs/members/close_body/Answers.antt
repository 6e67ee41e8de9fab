use Rattle.po_decl_states.proofs.BehindMembers.{no_level_goes, body_closes}
use Rattle.po_decl_states.proofs.members.close_body.Goals as goal

pub returns-in_default-clause-goes : goal.returns-in_default-clause-goes
returns-in_default-clause-goes c = λ tokens to names. no_level_goes tokens to c.args.at c.args.lists names c.args.below c.args.tag c.args.members c.in_default.ensures.0

pub returns-clause-goes : goal.returns-clause-goes
returns-clause-goes c = λ tokens to names.
    body_closes tokens to c.args.at c.args.lists names c.args.below _ c.in-Some.level c.args.tag c.args.members _ c.in-Some.ensures c.in_ok-push.ensures.ok
