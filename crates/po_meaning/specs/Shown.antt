-- How a state of the code shows a state of a run.
use Rattle.std.specs.Prelude.{◌≡◌, reverse}
use Rattle.po_meaning.specs.declared.state.State.{State as Stored}
use Rattle.po_meaning.specs.States.{State, frames}

-- the last frame of the list runs, and each other one waits for the one behind it
pub record Shows (stored : Stored) (s : State) : Type 0 where
  pub frames_shown : stored.frames ≡ reverse (frames s)
  pub memory_shown : stored.memory.blocks ≡ s.memory
