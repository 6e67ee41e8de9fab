-- Which scopes are open while a declaration is read (C99 6.2.1).
use Rattle.std.specs.Prelude.{ℕ, ◌≡◌, List, [], ◌∷◌, length}
use Rattle.po_tree.specs.InForce.{InForce, Standing}
use Rattle.po_tree.specs.NameSets.{AreSame}

-- InScopes tags base outers standing: inside the scopes `base` one more is open for each list of parameters, and `outers` are the typedef names
-- that stood where each of them began; the tags haven't changed since
abbrev pub InScopes : List (List ℕ) → List Standing → List (List (List ℕ)) → List Standing → Type 0
InScopes tags base [] standing = standing ≡ base
InScopes tags base (types ∷ outers) [] = ⊥
InScopes tags base (types ∷ outers) (s ∷ standing) = AreSame types s.typedefs × (s.tags ≡ tags) × InScopes tags base outers standing

-- the scopes of these names, of which `lists` are those of lists of parameters
pub record Scoped (tags : List (List ℕ)) (base : List Standing) (outers : List (List (List ℕ))) (lists : ℕ) (names : InForce) : Type 0 where
  pub kept : names.tags ≡ tags
  pub scopes : InScopes tags base outers names.outer
  pub counted : length outers ≡ lists

-- the same, where `types` are the typedef names in force
pub record Reads (tags : List (List ℕ)) (base : List Standing) (outers : List (List (List ℕ))) (types : List (List ℕ)) (lists : ℕ) (names : InForce) : Type 0 where
  pub same : AreSame types names.typedefs
  pub scoped : Scoped tags base outers lists names
