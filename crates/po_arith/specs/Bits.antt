-- The bits of whole numbers in two's complement (6.2.6.2p2), which go on to the left without end.
use Rattle.std.specs.Prelude.{ℕ, ◌-◌, ◌≡◌, ◌≤◌, ◌+◌, ◌%◌, ◌^◌, true, min, max, ℤ, pos, negsuc, ◌≤ℤ◌, ◌<ℤ◌}
use Rattle.std.specs.Int.{bit_at, leading_zeros, cast_unsigned, w128}
use Rattle.po_arith.specs.declared.int_type.IntType.{IntType}
use Rattle.po_arith.specs.Types.{IsOfType}

-- bit i of v: that of n for n, and the other one for -(n + 1)
abbrev pub bit : ℤ → ℕ → ℕ
bit (pos n) i = bit_at n i
bit (negsuc n) i = 1 - bit_at n i

-- bit by bit (6.5.10p4, 6.5.12p4, 6.5.11p4)
abbrev pub IsAnd : ℤ → ℤ → ℤ → Type 0
IsAnd a b c = (i : ℕ) → bit c i ≡ min (bit a i) (bit b i)

abbrev pub IsOr : ℤ → ℤ → ℤ → Type 0
IsOr a b c = (i : ℕ) → bit c i ≡ max (bit a i) (bit b i)

abbrev pub IsXor : ℤ → ℤ → ℤ → Type 0
IsXor a b c = (i : ℕ) → bit c i ≡ (bit a i + bit b i) % 2

-- numbers with the same bits are the same
abbrev pub BitsAreTelling : Type 0
BitsAreTelling = (v w : ℤ) → ((i : ℕ) → bit v i ≡ bit w i) → v ≡ w

-- how many bits hold a number that isn't negative, and the greatest number that they hold
abbrev pub bits_of : ℤ → ℕ
bits_of v = 128 - leading_zeros w128 (cast_unsigned w128 v)

abbrev pub filled : ℤ → ℤ
filled v = pos (2 ^ bits_of v - 1)

-- as many bits as a number needs hold it, and so do no fewer
abbrev pub BitsAreLeast : Type 0
BitsAreLeast = (v : ℤ) → pos 0 ≤ℤ v → v <ℤ pos (2 ^ 64) → (v <ℤ pos (2 ^ bits_of v)) × ((k : ℕ) → v <ℤ pos (2 ^ k) → bits_of v ≤ k)

-- what is done bit by bit to numbers of a signed type gives a number of the type
abbrev pub BitwiseKeepsTypes : Type 0
BitwiseKeepsTypes = (each : ℕ → ℕ → ℕ) (t : IntType) (v w x : ℤ) → t.signed ≡ true → IsOfType t v → IsOfType t w → ((i : ℕ) → bit x i ≡ each (bit v i) (bit w i)) → IsOfType t x
