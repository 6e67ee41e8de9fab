-- What waits in a ledger's queues.
use Rattle.std.specs.Prelude.{◌≡◌, ◌↔◌, List, Option, Some, true, slice_get}
use Rattle.po_base.specs.declared.numbers.FileNo.{FileNo}
use Rattle.po_core.specs.Book.{Book}
use Rattle.po_core.specs.declared.event.Hand.{Hand}
use Rattle.po_ledger.specs.Parts.{HandAt}
use Rattle.po_marks.specs.Waiting.{AreWaiting, Marking}
use Rattle.po_marks.specs.declared.queue.Queue.{Queue}

-- Each file's untaken obligations wait in its queue, and just the queues of files that are held say so.
pub record IsQueued {P N T : Type 0} (b : Book P N T) (m : Marking P N) (hands : List (Option (Hand P))) : Type 0 where
  pub waiting : AreWaiting b m
  pub holds : (file : FileNo) (q : Queue P) → slice_get m.queues file.0 ≡ Some q → (q.is_held ≡ true) ↔ HandAt hands file
