-- The first obligation of a list that doesn't hold.
use Rattle.std.specs.Prelude.{ℕ, ◌<◌, ◌≡◌, List, Some, slice_get}
use Rattle.po_memory.specs.declared.block.Block.{Block}
use Rattle.po_memory.specs.declared.frame.Frame.{Frame}
use Rattle.po_memory.specs.Holding.{Holds}
use Rattle.po_meaning.specs.Checks.{Asked}

-- all those before the place k hold
abbrev pub HoldUpTo : Frame → List Block → List Asked → ℕ → Type 0
HoldUpTo frame m list k = (j : ℕ) (a : Asked) → j < k → slice_get list j ≡ Some a → Holds frame m a.1

abbrev pub AllOf : Frame → List Block → List Asked → Type 0
AllOf frame m list = (j : ℕ) (a : Asked) → slice_get list j ≡ Some a → Holds frame m a.1

-- the one at this place doesn't hold, and all before it do
pub record IsFirstFailing (frame : Frame) (m : List Block) (list : List Asked) (place : ℕ) : Type 0 where
  pub asked : Asked
  pub there : slice_get list place ≡ Some asked
  pub before : HoldUpTo frame m list place
  pub fails : Holds frame m asked.1 → ⊥
