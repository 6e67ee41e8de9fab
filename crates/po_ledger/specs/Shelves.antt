-- What is done to the tables that a ledger keeps for files.
use Rattle.std.specs.Prelude.{◌≡◌, [], Some, slice_get, slice_set}
use Rattle.po_ledger.specs.View.{LedgerView, TicketView}
use Rattle.po_ledger.specs.declared.next.Next.{Next}
use Rattle.po_ledger.specs.declared.next.Next.TheVariants.{Ticket, Wait, Done}

-- The ticket has the tables that were kept for its file, and none are kept for it.
pub record HandsTables {P N T : Type 0} (old new : LedgerView P N T) (t : TicketView P T) : Type 0 where
  pub handed : slice_get old.tables t.file.0 ≡ Some t.tables
  pub left : new.tables ≡ slice_set old.tables t.file.0 []

-- a ticket's tables are handed out with it, and else all stay
abbrev pub AnswersTables : {R J P N T : Type 0} → LedgerView P N T → LedgerView P N T → Next R J P N T → Type 0
AnswersTables old new (Ticket t) = HandsTables old new t
AnswersTables old new Wait = new.tables ≡ old.tables
AnswersTables old new Done = new.tables ≡ old.tables
