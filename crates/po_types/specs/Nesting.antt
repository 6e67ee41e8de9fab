-- How deep a type nests and which structs it names. A struct without a tag can't be named inside itself, so a spelling ends.
use Rattle.std.specs.Prelude.{ℕ, suc, ◌*◌, ◌+◌, ◌≤◌, ◌≡◌, max, List, [], ◌∷◌, map, All, get_or, None}
use Rattle.po_types.specs.declared.ctype.CType.{CType, fold-CType}
use Rattle.po_types.specs.declared.ctype.CType.TheOpen.{CType-F}
use Rattle.po_types.specs.declared.env.Env.{Env}

-- the greatest of some numbers, 0 where there are none
abbrev pub greatest : List ℕ → ℕ
greatest [] = 0
greatest (n ∷ ns) = max n (greatest ns)

-- One layer: parts stand one level deeper. The members of a struct are no parts of its type.
abbrev pub levels : CType-F ℕ → ℕ
levels CType-F.Void = 0
levels (CType-F.Int t) = 0
levels (CType-F.Ptr to) = suc to
levels (CType-F.Array element n) = suc element
levels (CType-F.Struct n) = 0
levels (CType-F.Fun to params more) = suc (max to (greatest params))

unfoldable pub depth : CType → ℕ
depth = fold-CType ℕ levels

-- One layer: the least number above those of all structs that are named.
abbrev pub names_below : CType-F ℕ → ℕ
names_below CType-F.Void = 0
names_below (CType-F.Int t) = 0
names_below (CType-F.Ptr to) = to
names_below (CType-F.Array element n) = element
names_below (CType-F.Struct n) = suc n
names_below (CType-F.Fun to params more) = max to (greatest params)

unfoldable pub structs_below : CType → ℕ
structs_below = fold-CType ℕ names_below

-- the members of a struct without a tag name only structs with lesser numbers: those that were declared before its body ended (6.7.2.1p7, 6.7.2.3)
abbrev pub IsWellFounded : Env → Type 0
IsWellFounded env = (n : ℕ) → get_or env.names n None ≡ None → All (λ m. structs_below m.1 ≤ n) (get_or env.members n [])

-- more than the depth of each member's type
abbrev pub deepest : Env → ℕ
deepest env = suc (greatest (map (λ ms. greatest (map (λ m. depth m.1) ms)) env.members))

-- what gets less from a type to its parts, and from a struct without a tag to its members
abbrev pub weight : Env → CType → ℕ
weight env t = structs_below t * deepest env + depth t
