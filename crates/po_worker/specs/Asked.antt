-- What a worker that asks for work is told.
use Rattle.std.specs.Prelude.{ℕ}
use Rattle.po_core.specs.Book.{Book}
use Rattle.po_ledger.specs.Hands.{IsSettledUpTo}
use Rattle.po_ledger.specs.declared.next.Next.{Next}
use Rattle.po_ledger.specs.declared.next.Next.TheVariants.{Ticket, Wait, Done}
use Rattle.po_worker.specs.Work.{IsToldDone}

-- what a worker that asks for work knows by the answer: nothing of a new ticket's hand is settled, and where all is done a
-- journal says so
abbrev pub Tells : {R J P N T : Type 0} → Book P N T → ℕ → Next R J P N T → Type 0
Tells b worker (Ticket t) = IsSettledUpTo t.hand 0
Tells b worker Wait = Unit {0}
Tells b worker Done = IsToldDone b worker
