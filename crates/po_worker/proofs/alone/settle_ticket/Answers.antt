use Rattle.std.proofs.Common.{◌∙◌, sym, subst}
use Rattle.po_ledger.specs.Hands.{AreVerdicts, IsSettledUpTo}
use Rattle.po_worker.proofs.Draining.{fits_kept, hand_kept, only_kept, still_only}
use Rattle.po_lists.proofs.Results.{on_ok-map}
use Rattle.po_worker.proofs.alone.settle_ticket.Goals as goal

pub returns-in_err-verdicts-clause-holds : goal.returns-in_err-verdicts-clause-holds
returns-in_err-verdicts-clause-holds g c = only_kept g.J.Naming.book _ _ _ c.verdicts_of.ensures.same c.requires.holds

pub settle_hand-requires-clause-fits : goal.settle_hand-requires-clause-fits
settle_hand-requires-clause-fits g c = fits_kept g.J.Naming.book _ _ _ c.verdicts_of.ensures.same c.requires.holds.fits

pub settle_hand-requires-clause-open : goal.settle_hand-requires-clause-open
settle_hand-requires-clause-open g c = subst (λ z. IsSettledUpTo z 0) (sym c.verdicts_of.ensures.same.hand) c.requires.open

pub settle_hand-requires-clause-verdicts : goal.settle_hand-requires-clause-verdicts
settle_hand-requires-clause-verdicts g c = c.as_slice.ensures.value ∙ subst (λ z. AreVerdicts g.J.Naming.book z c.in_ok-verdicts.verdicts.items) (sym c.verdicts_of.ensures.same.hand) c.in_ok-verdicts.ensures.verdicts

pub returns-clause-ok : goal.returns-clause-ok
returns-clause-ok g c = on_ok-map c.settle_hand.result (hand_kept g.J.Naming.book c.args.t.now c.verdicts_of.new.t c.settle_hand.new.t c.args.ledger.now c.settle_hand.new.ledger c.verdicts_of.ensures.same) c.settle_hand.ensures.ok

pub returns-clause-holds : goal.returns-clause-holds
returns-clause-holds g c = still_only g.J.Naming.book c.args.ledger.now.state c.settle_hand.new.ledger.state c.verdicts_of.new.t c.settle_hand.new.t (only_kept g.J.Naming.book _ _ _ c.verdicts_of.ensures.same c.requires.holds) c.settle_hand.ensures.hands c.settle_hand.ensures.fits c.settle_hand.ensures.ticket
