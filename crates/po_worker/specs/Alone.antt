-- How one worker drains a ledger that nobody else holds a file of.
use Rattle.std.specs.Prelude.{◌≡◌, ◌<◌, ◌≤◌}
use Rattle.po_base.specs.declared.numbers.FileNo.{FileNo}
use Rattle.po_core.specs.Book.{Book}
use Rattle.po_core.specs.Core.{CoreState, IsHeld}
use Rattle.po_core.specs.Theorem.{settle_count, most_obligations}
use Rattle.po_ledger.specs.View.{LedgerView, TicketView, Fits}

-- nobody holds a file
abbrev pub NoneHeld : {P N : Type 0} → CoreState P N → Type 0
NoneHeld s = (file : FileNo) → ¬ IsHeld s file

-- The ticket fits, and no file is held but its own.
pub record HoldsOnly {P N T : Type 0} (s : CoreState P N) (t : TicketView P T) : Type 0 where
  pub fits : Fits s t
  pub only : (file : FileNo) → IsHeld s file → file ≡ t.file

-- Some obligation was settled, and no more than there can be.
pub record Advances {P N T : Type 0} (b : Book P N T) (old new : LedgerView P N T) : Type 0 where
  pub settles : settle_count old.journal < settle_count new.journal
  pub bounded : settle_count new.journal ≤ most_obligations b
