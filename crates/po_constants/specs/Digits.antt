-- Values that 64 bits hold.
use Rattle.std.specs.Prelude.{ℕ, ◌^◌, ◌≤◌, ◌≡◌, Option, Some, None}

-- the value, and None of one that is too great
abbrev pub IsIn64 : Option ℕ → ℕ → Type 0
IsIn64 None n = 2 ^ 64 ≤ n
IsIn64 (Some v) n = v ≡ n
