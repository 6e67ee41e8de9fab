-- How the members of a struct lie (C99 6.7.2.1p12 to p15).
use Rattle.std.specs.Prelude.{ℕ, ◌+◌, ◌*◌, ◌≤◌, max, ◌≡◌, List, [], ◌∷◌, Some, None}
use Rattle.po_arith.specs.declared.target.Target.{Target}
use Rattle.po_types.specs.declared.layout.Extent.{Extent}
use Rattle.po_types.specs.declared.layout.Layout.{Layout}
use Rattle.po_types.specs.Types.{as_object}

-- m is the least multiple of the alignment that is at least n
pub record IsNext (align n m : ℕ) : Type 0 where
  pub times : ℕ
  pub multiple : m ≡ times * align
  pub behind : n ≤ m
  pub least : (k : ℕ) → n ≤ k * align → m ≤ k * align

-- Lie at members offsets end: behind `at` bytes each member lies at the next multiple of its alignment, and the last one ends there
pub data Lie : ℕ → List Extent → List ℕ → ℕ → Type 0 where
  no_more : (end : ℕ) → Lie end [] [] end
  member : (at offset end : ℕ) (x : Extent) (xs : List Extent) (offsets : List ℕ) → IsNext x.align at offset →
      Lie (offset + x.size) xs offsets end → Lie at (x ∷ xs) (offset ∷ offsets) end

abbrev pub greatest_align : List Extent → ℕ
greatest_align [] = 1
greatest_align (x ∷ xs) = max x.align (greatest_align xs)

-- the struct has the greatest alignment of its members, and its size is rounded up to it
pub record IsLayout (members : List Extent) (layout : Layout) : Type 0 where
  pub end : ℕ
  pub lie : Lie 0 members layout.offsets end
  pub greatest : layout.align ≡ greatest_align members
  pub size : IsNext layout.align end layout.size

-- a layout that an object may have
pub record HasLayout (target : Target) (members : List Extent) (layout : Layout) : Type 0 where
  pub laid : IsLayout members layout
  pub object : as_object target layout.size ≡ Some layout.size

-- the struct would have no bytes, or more than an object may have
pub record HasNoLayout (target : Target) (members : List Extent) : Type 0 where
  pub none : (layout : Layout) → IsLayout members layout → as_object target layout.size ≡ None
