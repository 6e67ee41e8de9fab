use Rattle.std.proofs.Common.{sym, ◌∙◌}
use Rattle.ledger_tests.proofs.known.is_same_pred.Goals as goal

pub returns : goal.returns
returns g c = let law = (g.met.R.Rulebook.lawful c.args.book.now).equal_are_same c.args.p c.args.q in (λ h. law.0 (sym c.eq.ensures ∙ h), λ h. c.eq.ensures ∙ law.1 h)
