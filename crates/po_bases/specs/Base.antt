-- Bases in their order: by kind, and then by number.
use Rattle.std.specs.Prelude.{◌≡◌, ℕ, Bool, true, false}
use Rattle.std.proofs.Common.{refl, ap, arith}
use Rattle.std.specs.declared.cmp.Ordering.{Ordering}
use Rattle.std.specs.declared.cmp.Ordering.TheVariants.{Equal}
use Rattle.std.specs.Ordering.{nat_cmp, on, then_cmp}
use Rattle.std.specs.Cmp.{IsTotalOrder, then_total, on_total, nat_cmp_total}
use Rattle.po_lists.proofs.Orders.{both_equal}
use Rattle.std.proofs.lemmas.Map.Lookups.{exact_unsigned}
use Rattle.po_bases.specs.declared.base.Base.{Base}
use Rattle.po_bases.specs.declared.base.Base.TheVariants.{Param, Slot, Global, Literal, Heap, Null}

abbrev pub kind : Base → ℕ
kind (Param i) = 0
kind (Slot s) = 1
kind (Global g) = 2
kind (Literal l) = 3
kind (Heap n) = 4
kind Null = 5

abbrev pub number : Base → ℕ
number (Param i) = i
number (Slot s) = s.0
number (Global g) = g.0
number (Literal l) = l.0
number (Heap n) = n.0
number Null = 0

abbrev pub is_null : Base → Bool
is_null (Param i) = false
is_null (Slot s) = false
is_null (Global g) = false
is_null (Literal l) = false
is_null (Heap n) = false
is_null Null = true

abbrev pub base_cmp : Base → Base → Ordering
base_cmp = then_cmp (on kind nat_cmp) (on number nat_cmp)

pub base_total : IsTotalOrder base_cmp
base_total = then_total (on_total kind nat_cmp_total) (on_total number nat_cmp_total)

-- ---- bases that compare equal are the same

same_parts : (a b : Base) → kind a ≡ kind b → number a ≡ number b → a ≡ b
same_parts (Param i) (Param j) kinds numbers = ap Param numbers
same_parts (Slot s) (Slot t) kinds numbers = λ i. Slot (record { 0 = numbers i })
same_parts (Global s) (Global t) kinds numbers = λ i. Global (record { 0 = numbers i })
same_parts (Literal s) (Literal t) kinds numbers = λ i. Literal (record { 0 = numbers i })
same_parts (Heap s) (Heap t) kinds numbers = λ i. Heap (record { 0 = numbers i })
same_parts Null Null kinds numbers = refl
same_parts _ _ kinds numbers = absurd (omega arith)

pub base_same : (a b : Base) → base_cmp a b ≡ Equal → a ≡ b
base_same a b same =
    let parts = both_equal (nat_cmp (kind a) (kind b)) (nat_cmp (number a) (number b)) same in
    same_parts a b (exact_unsigned (kind a) (kind b) parts.0) (exact_unsigned (number a) (number b) parts.1)
