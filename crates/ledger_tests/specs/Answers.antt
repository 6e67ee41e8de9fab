-- What a ledger of plain lists answers a worker that asks for work.
use Rattle.std.specs.Prelude.{ℕ, ◌≡◌, true, false}
use Rattle.po_core.specs.Book.{Book}
use Rattle.po_core.specs.declared.event.Event.TheVariants.{Ask}
use Rattle.po_ledger.specs.Calls.{Does, HandsOut}
use Rattle.po_ledger.specs.Shelves.{HandsTables}
use Rattle.po_ledger.specs.View.{LedgerView}
use Rattle.ledger_tests.specs.declared.ledger.ListNext.{ListNext}
use Rattle.ledger_tests.specs.declared.ledger.ListNext.TheVariants.{Ticket, Wait, Done}

-- A ticket, by the event that the worker takes its file; that the worker has to wait, or that all is done, by the event
-- that it asks, which is legal just where that is so.
abbrev pub Answers : {R J P N T : Type 0} → Book P N T → ℕ → LedgerView P N T → LedgerView P N T → ListNext R J P N T → Type 0
Answers b worker old new (Ticket t) = HandsOut b worker old new t
Answers b worker old new Wait = Does b (Ask worker false) old new
Answers b worker old new Done = Does b (Ask worker true) old new

-- a ticket's tables are handed out with it, and else all stay
abbrev pub AnswersTables : {R J P N T : Type 0} → LedgerView P N T → LedgerView P N T → ListNext R J P N T → Type 0
AnswersTables old new (Ticket t) = HandsTables old new t
AnswersTables old new Wait = new.tables ≡ old.tables
AnswersTables old new Done = new.tables ≡ old.tables
