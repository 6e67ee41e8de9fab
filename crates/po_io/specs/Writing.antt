-- What a sink holds after writes, where it tells it.
use Rattle.std.specs.Prelude.{ℕ, ◌≤◌, ◌≡◌, List, ◌++◌, take, length, Option, Some, None}

-- a sink holds what it held before, and then exactly these bytes
abbrev pub Adds : Option (List ℕ) → Option (List ℕ) → List ℕ → Type 0
Adds None after bytes = Unit {0}
Adds (Some before) after bytes = after ≡ Some (before ++ bytes)

-- a sink holds what it held before, and then a prefix of these bytes
abbrev pub AddsPrefix : Option (List ℕ) → Option (List ℕ) → List ℕ → Type 0
AddsPrefix before after bytes = (n : ℕ) × (n ≤ length bytes) × Adds before after (take n bytes)
