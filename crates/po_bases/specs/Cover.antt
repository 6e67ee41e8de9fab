-- What bases allow: a value that is one of them moved by an offset; and what moves values as bases are moved.
use Rattle.std.specs.Prelude.{◌≡◌, ℕ, ◌+◌, ◌*◌, true, false, ℤ, pos, ◌+ℤ◌, ◌*ℤ◌, ◌++◌, Option, Some, None}
use Rattle.std.proofs.Common.{arith}
use Rattle.po_arith.specs.Hull.{IsIn}
use Rattle.po_bases.specs.Maps.{find}
use Rattle.po_bases.specs.Base.{base_cmp, is_null}
use Rattle.po_bases.specs.Bases.{sum}
use Rattle.po_bases.specs.declared.base.Base.{Base}
use Rattle.po_bases.specs.declared.entry.Entry.{Entry}
use Rattle.po_bases.specs.declared.bases.Bases.{Bases}
use Rattle.po_bases.specs.declared.bases.Bases.TheVariants.{Known, Unknown}

-- the grain divides the offset
abbrev pub IsMultiple : ℕ → ℤ → Type 0
IsMultiple g v = (m : ℤ) × (v ≡ m *ℤ pos g)

-- `value b v` is the value of the base b moved by v, where it has one. Bases allow p where it is one of them moved by an offset
-- that lies between the ends and is a multiple of the grain; unknown bases allow every value.
abbrev pub EntryAllows : {V : Type 0} → (Base → ℤ → Option V) → Base → Option Entry → V → Type 0
EntryAllows value b None p = ⊥
EntryAllows value b (Some e) p = (v : ℤ) × (IsIn e.off v × (IsMultiple e.grain v × (value b v ≡ Some p)))

abbrev pub Allows : {V : Type 0} → (Base → ℤ → Option V) → Bases → V → Type 0
Allows value (Known es) p = (b : Base) × EntryAllows value b (find (λ e. e.base) base_cmp es b) p
Allows value Unknown p = Unit {0}

-- A move of values keeps to the bases where a base that isn't null, moved by v and then by w, is moved by their sum.
abbrev pub IsMove : {V : Type 0} → (Base → ℤ → Option V) → (V → ℤ → V) → Type 0
IsMove {V} value move = (b : Base) (v w : ℤ) (p : V) → is_null b ≡ false → value b v ≡ Some p → value b (v +ℤ w) ≡ Some (move p w)

-- p isn't null
abbrev pub IsNotNull : {V : Type 0} → (Base → ℤ → Option V) → V → Type 0
IsNotNull value p = (b : Base) (v : ℤ) → is_null b ≡ true → value b v ≡ Some p → ⊥

abbrev pub IsAllowed : {V : Type 0} → (Base → ℤ → Option V) → Option Bases → V → Type 0
IsAllowed value None p = ⊥
IsAllowed value (Some b) p = Allows value b p
