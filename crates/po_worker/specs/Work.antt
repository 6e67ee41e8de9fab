-- What workers leave of what is held, and what is known of a journal when a worker or all of them have ended.
use Rattle.std.specs.Prelude.{ℕ, List, [], ◌∷◌, ◌++◌, true}
use Rattle.po_base.specs.declared.numbers.FileNo.{FileNo}
use Rattle.po_core.specs.Book.{Book}
use Rattle.po_core.specs.Core.{CoreState, IsHeld, IsQuiet, Replays}
use Rattle.po_core.specs.declared.event.Event.{Event}
use Rattle.po_core.specs.declared.event.Event.TheVariants.{Ask}

-- what is held in t was held in s
abbrev pub HoldsNoMore : {P N : Type 0} → CoreState P N → CoreState P N → Type 0
HoldsNoMore s t = (file : FileNo) → IsHeld t file → IsHeld s file

-- The journal is legal from the start, and all is done at its end.
pub record EndsQuiet {P N T : Type 0} (b : Book P N T) (es : List (Event P N)) : Type 0 where
  pub end : CoreState P N
  pub replays : Replays b es end
  pub quiet : IsQuiet end

-- A journal that is legal from the start tells the worker, as its last event, that all is done.
pub record IsToldDone {P N T : Type 0} (b : Book P N T) (worker : ℕ) : Type 0 where
  pub before : List (Event P N)
  pub end : CoreState P N
  pub replays : Replays b (before ++ Ask worker true ∷ []) end
  pub quiet : IsQuiet end
