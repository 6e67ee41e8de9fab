-- A sink in memory.
use Rattle.std.specs.Prelude.{ℕ, List}

-- what a sink in memory holds and will do
pub record Basin : Type 0 where
  -- the bytes that it took
  pub written : List ℕ
  -- for how many more it has room
  pub room : ℕ
  -- how many it takes in one call
  pub most : ℕ
  -- the numbers of the calls that fail
  pub fail : List ℕ
  -- how many calls were made, and how many of them failed
  pub calls : ℕ
  pub faults : ℕ
