use Rattle.po_decl_states.proofs.AtSpecifiers.{body_goes}
use Rattle.po_decl_states.proofs.specifiers.open_body.Goals as goal

pub returns-clause-goes : goal.returns-clause-goes
returns-clause-goes c = λ tokens at to names r opens.
    rw (c.new.ensures, c.new-2.ensures, c.new-3.ensures) (body_goes tokens to at c.args.end c.args.lists names c.args.below _ c.args.level c.args.tag c.in_ok-push.ensures.ok r opens)
