-- The registers that were seen while they are listed.
use Rattle.std.specs.Prelude.{ℕ, ◌≡◌, ◌++◌, List, Bool}
use Rattle.std.specs.List.{list_any}
use Rattle.std.specs.Ordering.{nat_cmp}
use Rattle.std.specs.BTreeMap.{is_at}
use Rattle.po_base.specs.declared.numbers.RegNo.{RegNo}
use Rattle.po_gen.specs.Reads.{firsts}

-- the register has this number
abbrev pub is_same : ℕ → RegNo → Bool
is_same n r = is_at (nat_cmp n) r.0

-- the set holds the numbers of these registers, and the list is that of their firsts
pub record AreFirsts (registers : List RegNo) (seen : List ℕ) (list : List RegNo) : Type 0 where
  pub told : (n : ℕ) → list_any (is_at (nat_cmp n)) seen ≡ list_any (is_same n) registers
  pub listed : list ≡ firsts registers

-- with further registers
abbrev pub Goes : List RegNo → List ℕ → List RegNo → List ℕ → List RegNo → Type 0
Goes more seen list now then = (before : List RegNo) → AreFirsts before seen list → AreFirsts (before ++ more) now then
