-- The names in force at a place of a file (C99 6.2.1), with those that stood where each scope that is open there began.
use Rattle.std.specs.Prelude.{ℕ, ◌≡◌, ◌↔◌, List, [], ◌∷◌, reverse, Contains, refl}
use Rattle.std.specs.Coded.{Coded, code_by, coded×, coded_ℕ, coded_list}
use Rattle.std.specs.List.Sorted.{IsStrictlySortedBy}
use Rattle.std.specs.Ordering.{nat_cmp}
use Rattle.std.specs.Cmp.Lexicographic.{slice_cmp}
use Rattle.std.specs.BTreeMap.{is_at}
use Rattle.std.specs.BTreeSet.{insert_key}
use Rattle.std.specs.Set.{remove_key}
use Rattle.po_tree.specs.declared.names.Change.{Change}
use Rattle.po_tree.specs.declared.names.Change.TheVariants as change

-- typedef names, and tags
pub record Standing : Type 0 where
  pub typedefs : List (List ℕ)
  pub tags : List (List ℕ)

-- the typedef names that nothing hides, the tags, and what stood where each open scope began, the innermost first
pub record InForce : Type 0 where
  pub typedefs : List (List ℕ)
  pub tags : List (List ℕ)
  pub outer : List Standing

abbrev pub coded_names : Coded (List (List ℕ))
coded_names = coded_list (coded_list coded_ℕ)

abbrev pub standing_code : Coded Standing
standing_code = code_by (List (List ℕ) × List (List ℕ)) (coded× coded_names coded_names) (λ s. (s.typedefs, s.tags)) (λ p. record { typedefs = p.0; tags = p.1 }) (λ _. refl)

abbrev pub in_force_code : Coded InForce
in_force_code = code_by (List (List ℕ) × (List (List ℕ) × List Standing)) (coded× coded_names (coded× coded_names (coded_list standing_code)))
    (λ s. (s.typedefs, (s.tags, s.outer))) (λ p. record { typedefs = p.0; tags = p.1.0; outer = p.1.1 }) (λ _. refl)

-- the same names, in whatever order and however often
abbrev pub AreSame : List (List ℕ) → List (List ℕ) → Type 0
AreSame xs ys = (name : List ℕ) → Contains xs name ↔ Contains ys name

abbrev pub with_name : List ℕ → List (List ℕ) → List (List ℕ)
with_name name names = insert_key (slice_cmp nat_cmp) names name

abbrev pub less_name : List ℕ → List (List ℕ) → List (List ℕ)
less_name name names = remove_key (is_at (slice_cmp nat_cmp name)) names

-- what stood where each open scope began, from the changes since, the last of them first
abbrev pub undone : List Change → List (List ℕ) → List (List ℕ) → List Standing
undone [] typedefs tags = []
undone (change.Opened ∷ before) typedefs tags = record { typedefs = typedefs; tags = tags } ∷ undone before typedefs tags
undone (change.Hidden name ∷ before) typedefs tags = undone before (with_name name typedefs) tags
undone (change.Declared name ∷ before) typedefs tags = undone before (less_name name typedefs) tags
undone (change.Tagged name ∷ before) typedefs tags = undone before typedefs (less_name name tags)

abbrev pub outer_of : List Change → List (List ℕ) → List (List ℕ) → List Standing
outer_of changes typedefs tags = undone (reverse changes) typedefs tags

abbrev pub IsAscending : List (List ℕ) → Type 0
IsAscending names = IsStrictlySortedBy (slice_cmp nat_cmp) names

-- a scope opens: the names are the same, and stand outside it too
abbrev pub OpensScope : InForce → InForce → Type 0
OpensScope before behind =
    behind ≡ record { typedefs = before.typedefs; tags = before.tags; outer = record { typedefs = before.typedefs; tags = before.tags } ∷ before.outer }

-- the innermost scope closes: the names are those that stood where it began
abbrev pub Closes : InForce → InForce → Type 0
Closes before behind = before.outer ≡ record { typedefs = behind.typedefs; tags = behind.tags } ∷ behind.outer
