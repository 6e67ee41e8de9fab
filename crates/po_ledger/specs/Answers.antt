-- What a ledger answers a worker that asks for work, and one who asks for the report.
use Rattle.std.specs.Prelude.{ℕ, ◌≡◌, true, false, Option, Some, None, Result, Ok, Err}
use Rattle.std.specs.declared.cmp.Ordering.{Ordering}
use Rattle.po_base.specs.declared.numbers.FileNo.{FileNo}
use Rattle.po_core.specs.Book.{Book}
use Rattle.po_core.specs.Core.{CanTake, CoreState, IsQuiet}
use Rattle.po_core.specs.Least.{IsLeastReport}
use Rattle.po_core.specs.declared.event.Event.TheVariants.{Ask}
use Rattle.po_core.specs.declared.report.Report.{Report}
use Rattle.po_ledger.specs.Calls.{Does, HandsOut, IsBusy}
use Rattle.po_ledger.specs.Shelves.{HandsTables}
use Rattle.po_ledger.specs.View.{LedgerView, TicketView}
use Rattle.po_ledger.specs.declared.next.Next.{Next}
use Rattle.po_ledger.specs.declared.next.Next.TheVariants.{Ticket, Wait, Done}
use Rattle.po_ledger.specs.declared.next.ReportFail.{ReportFail}
use Rattle.po_ledger.specs.declared.next.ReportFail.TheVariants.{NotQuiet, Memory}

-- A ticket, by the event that the worker takes its file; that the worker has to wait, or that all is done, by the event
-- that it asks, which is legal just where that is so.
abbrev pub Answers : {R J P N T : Type 0} → Book P N T → ℕ → LedgerView P N T → LedgerView P N T → Next R J P N T → Type 0
Answers b worker old new (Ticket t) = HandsOut b worker old new t
Answers b worker old new Wait = Does b (Ask worker false) old new
Answers b worker old new Done = Does b (Ask worker true) old new

-- a ticket of the first file that can be taken, with the tables that were kept for it; or nothing has changed, as no file can be
abbrev pub TakesFirst : {P N T : Type 0} → Book P N T → ℕ → LedgerView P N T → LedgerView P N T → Option (TicketView P T) → Type 0
TakesFirst b worker old new (Some t) = HandsOut b worker old new t × HandsTables old new t
TakesFirst b worker old new None = (new ≡ old) × ((file : FileNo) → ¬ CanTake b old.state file)

-- The least report, just where all is done; how much is left, where it isn't; or want of memory, which says nothing.
-- `by` compares predicates.
abbrev pub Reports : {P N T : Type 0} → Book P N T → (P → P → Ordering) → CoreState P N → Result (Report P N) ReportFail → Type 0
Reports b by s (Ok report) = IsQuiet s × IsLeastReport by b report
Reports b by s (Err (NotQuiet held untaken)) = IsBusy s held untaken
Reports b by s (Err Memory) = Unit {0}
