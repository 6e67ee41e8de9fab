use Rattle.std.proofs.Common.{refl}
use Rattle.std.proofs.lemmas.Bool.{false≢true, both_ways}
use Rattle.po_ledger.proofs.Starts.{quiet_then, quiet_not_held, quiet_not_takeable}
use Rattle.ledger_tests.proofs.ledger.ListLedger.quiet.Goals as goal

pub returns-then-some_held : goal.returns-then-some_held
returns-then-some_held g c = (λ h. absurd (false≢true h), λ q. absurd (quiet_not_held _ q (c.some_held.ensures.0 c.if-some_held.true)))

pub returns-in-Some : goal.returns-in-Some
returns-in-Some g c = (λ h. absurd (false≢true h), λ q. absurd (quiet_not_takeable g.J.Naming.book _ c.in-Some.field-0 q c.in-Some.ensures.some))

pub returns-in-None : goal.returns-in-None
returns-in-None g c = (λ h. quiet_then g.J.Naming.book _ (λ x. both_ways _ c.if-some_held.false (c.some_held.ensures.1 x)) c.in-None.ensures.none, λ q. refl)
