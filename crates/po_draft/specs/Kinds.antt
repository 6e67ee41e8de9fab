-- How the temporaries of a graph that is being made are kept by their types.
use Rattle.std.specs.Prelude.{ℕ, ◌+◌, ◌≡◌, ◌≢◌, ◌<◌, ◌≤◌, ◌⊎◌, List, [], ◌∷◌, ◌++◌, length, Some, slice_get, Contains}
use Rattle.po_ir.specs.declared.instr.Ty.{Ty}
use Rattle.po_ir.specs.declared.graph.Reg.{Reg as Register}
use Rattle.po_lowering.specs.Temporaries.{temporary}
use Rattle.po_draft.specs.declared.registers.Kind.{Kind}

-- the numbers are those of all temporaries of the type, the least first, and the first ones are those that are taken
pub record IsKept (regs : List Register) (taken : List ℕ) (kind : Kind) : Type 0 where
  pub within : kind.used ≤ length kind.numbers
  pub rises : (i j q r : ℕ) → i < j → slice_get kind.numbers i ≡ Some q → slice_get kind.numbers j ≡ Some r → q < r
  pub there : (i r : ℕ) → slice_get kind.numbers i ≡ Some r → slice_get regs r ≡ Some (temporary kind.ty)
  pub all : (r : ℕ) → slice_get regs r ≡ Some (temporary kind.ty) → (i : ℕ) × (slice_get kind.numbers i ≡ Some r)
  pub used_taken : (i r : ℕ) → slice_get kind.numbers i ≡ Some r → i < kind.used → Contains taken r
  pub taken_used : (i r : ℕ) → slice_get kind.numbers i ≡ Some r → Contains taken r → i < kind.used

abbrev pub IsKindAt : List Kind → ℕ → Ty → Type 0
IsKindAt kinds k ty = (kind : Kind) × (slice_get kinds k ≡ Some kind) × (kind.ty ≡ ty)

-- each temporary is kept with those of its type, at one place
pub record AreKept (regs : List Register) (taken : List ℕ) (kinds : List Kind) : Type 0 where
  pub each : (k : ℕ) (kind : Kind) → slice_get kinds k ≡ Some kind → IsKept regs taken kind
  pub apart : (j k : ℕ) (x y : Kind) → slice_get kinds j ≡ Some x → slice_get kinds k ≡ Some y → x.ty ≡ y.ty → j ≡ k
  pub all : (r : ℕ) (ty : Ty) → slice_get regs r ≡ Some (temporary ty) → (k : ℕ) × IsKindAt kinds k ty
  pub taken_there : (r : ℕ) → Contains taken r → r < length regs

-- no temporaries of the type are kept
abbrev pub IsMissing : List Kind → Ty → Type 0
IsMissing kinds ty = (k : ℕ) (kind : Kind) → slice_get kinds k ≡ Some kind → kind.ty ≢ ty

-- none of the type's temporaries is free: none are kept, or all those that are kept at a place are taken
abbrev pub HasNone : List Kind → Ty → Type 0
HasNone kinds ty = IsMissing kinds ty ⊎ ((k : ℕ) × (at : IsKindAt kinds k ty) × (length at.0.numbers ≤ at.0.used))

-- one of the type's temporaries is free
abbrev pub HasFree : List Kind → ℕ → Ty → Type 0
HasFree kinds k ty = (kind : Kind) × (slice_get kinds k ≡ Some kind) × (kind.ty ≡ ty) × (kind.used < length kind.numbers)

abbrev pub HasFreeAt : List Kind → ℕ → Type 0
HasFreeAt kinds k = (kind : Kind) × (slice_get kinds k ≡ Some kind) × (kind.used < length kind.numbers)

-- the first temporary at a place that is free is taken
pub record IsUsed (k r : ℕ) (taken : List ℕ) (kinds : List Kind) (taken' : List ℕ) (kinds' : List Kind) : Type 0 where
  pub kind : Kind
  pub stands : slice_get kinds k ≡ Some kind
  pub next : slice_get kind.numbers kind.used ≡ Some r
  pub takes : taken' ≡ taken ++ r ∷ []
  pub same_length : length kinds' ≡ length kinds
  pub here : slice_get kinds' k ≡ Some (record kind { used = kind.used + 1 })
  pub others : (j : ℕ) → j ≢ k → slice_get kinds' j ≡ slice_get kinds j

-- what is kept is kept with one more temporary, of this type and number
abbrev pub KeepsNoted : Ty → ℕ → List Kind → List Kind → Type 0
KeepsNoted ty number kinds kinds' = (regs : List Register) (taken : List ℕ) → AreKept regs taken kinds →
    number ≡ length regs → AreKept (regs ++ temporary ty ∷ []) taken kinds'

abbrev pub KeepsAdded : List Register → List Register → List Kind → List Kind → Type 0
KeepsAdded regs regs' kinds kinds' = (taken : List ℕ) → AreKept regs taken kinds → AreKept regs' taken kinds'

-- what was kept is kept
abbrev pub KeepsTaken : List ℕ → List Kind → List ℕ → List Kind → Type 0
KeepsTaken taken kinds taken' kinds' = (regs : List Register) → AreKept regs taken kinds → AreKept regs taken' kinds'

-- none of the temporaries at a place is taken
pub record IsFreedAt (k : ℕ) (kinds kinds' : List Kind) : Type 0 where
  pub same_length : length kinds' ≡ length kinds
  pub here : (kind : Kind) → slice_get kinds k ≡ Some kind → slice_get kinds' k ≡ Some (record kind { used = 0 })
  pub others : (j : ℕ) → j ≢ k → slice_get kinds' j ≡ slice_get kinds j

-- the same, with nothing taken
abbrev pub AreUnused : List Kind → List Kind → Type 0
AreUnused kinds kinds' = (regs : List Register) (taken : List ℕ) → AreKept regs taken kinds → AreKept regs [] kinds'
