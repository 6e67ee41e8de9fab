use Rattle.po_ledger.proofs.fitting.is_hand_of.Goals as goal

pub returns-then-are_items : goal.returns-then-are_items
returns-then-are_items g c = (
  λ h. record { by_worker = c.if-hand-worker.true; same_items = rw c.as_slice.ensures at (c.are_items.ensures.0 c.if-are_items.true); same_settled = c.agree_on.ensures.0 h },
  λ h. c.agree_on.ensures.1 h.same_settled,
)
