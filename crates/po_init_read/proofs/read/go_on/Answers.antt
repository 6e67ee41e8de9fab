use Rattle.std.proofs.Common.{sym, subst, Some}
use Rattle.std.specs.Prelude.{IfOk}
use Rattle.po_init_read.specs.Completing.{Goes}
use Rattle.po_init_read.proofs.read.go_on.Goals as goal

pub returns-in_ok-push-in-Some : goal.returns-in_ok-push-in-Some
returns-in_ok-push-in-Some c = λ types.
    subst (λ b. IfOk c.go_on_inside.result (λ step. Goes types c.args.tokens.now.list c.args.to (record { braces = b; last = Some c.args.x; at = c.args.at }) step))
    (sym c.in-Some.ensures) (c.go_on_inside.ensures types c.in-Some.items c.args.x c.in_ok-push-in-Some.ensures.ok)
