-- What a read gives, and what a file is read as.
use Rattle.std.specs.Prelude.{ℕ, ◌-◌, ◌<◌, ◌≤◌, ◌≡◌, ◌⊎◌, ◌↔◌, List, ◌++◌, take, drop, length, Option, Result, Ok, Err, IfOk, IfSome}
use Rattle.po_io.specs.declared.reading.ReadFail.{ReadFail}
use Rattle.po_io.specs.declared.reading.ReadFail.TheVariants.{Failed, TooLong, Memory}

-- a read at a place of a file of these bytes puts n of them at the front of a buffer: those from the place on; the
-- rest of the buffer stays, and n is 0 exactly where the buffer is empty or nothing is left
pub record Gives (bytes : List ℕ) (at : ℕ) (old new : List ℕ) (n : ℕ) : Type 0 where
  pub left : n ≤ length bytes - at
  pub placed : new ≡ take n (drop at bytes) ++ drop n old
  pub ends : (n ≡ 0) ↔ ((length old ≡ 0) ⊎ (length bytes ≤ at))

-- where a file's bytes are told, a read that succeeds gives its bytes
abbrev pub GivesWhereTold : {E : Type 0} → Option (List ℕ) → ℕ → List ℕ → List ℕ → Result ℕ E → Type 0
GivesWhereTold told at old new result = IfOk result (λ n. IfSome told (λ bytes. Gives bytes at old new n))

-- what a file of these bytes is read as under a limit of bytes: too long exactly where it has more, else all of it
abbrev pub IsReadOf : List ℕ → ℕ → Result (List ℕ) ReadFail → Type 0
IsReadOf bytes limit (Ok read) = (read ≡ bytes) × (length bytes ≤ limit)
IsReadOf bytes limit (Err TooLong) = limit < length bytes
IsReadOf bytes limit (Err Failed) = Unit {0}
IsReadOf bytes limit (Err Memory) = Unit {0}
