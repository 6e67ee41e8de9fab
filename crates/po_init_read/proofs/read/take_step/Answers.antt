use Rattle.std.proofs.Common.{sym, subst}
use Rattle.std.specs.Prelude.{IfOk}
use Rattle.po_init_read.specs.Completing.{Goes}
use Rattle.po_init_read.proofs.read.take_step.Goals as goal

pub returns-in-Some : goal.returns-in-Some
returns-in-Some c =
    subst (λ l. IfOk c.go_on.result (λ step. Goes c.args.names.now.typedefs c.args.tokens.now.list c.args.to (record { braces = c.args.state.braces; last = l; at = c.args.state.at }) step))
    (sym c.in-Some.is) (c.go_on.ensures c.args.names.now.typedefs)
