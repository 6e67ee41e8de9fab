-- Sets of names that grow: what is in them behind a step.
use Rattle.std.specs.Prelude.{ℕ, suc, ◌<◌, ◌+◌, ◌≡◌, ◌⊎◌, ◌↔◌, List, [], ◌∷◌, ◌++◌, map, flat_map, Contains, codes, Some}
use Rattle.po_tree.specs.declared.expression.Specifier.{Specifier, fold-Specifier}
use Rattle.po_tree.specs.declared.expression.Exp.TheOpen.{Specifier-F, Member-F}
use Rattle.po_tree.specs.declared.expression.Specifier.TheVariants as sp
use Rattle.po_tree.specs.declared.expression.Member.{Member, out-Member}
use Rattle.po_tree.specs.declared.names.Declared.{Declared}
use Rattle.po_tree.specs.NameSets.{Adds}
use Rattle.po_tree.specs.Scope.{Enumerates, Tags, Somewhere}

abbrev pub IsTypedefWord : Specifier → Type 0
IsTypedefWord spec = spec ≡ sp.Word (codes "typedef")

-- the specifiers of members
abbrev pub in_members : List Member → List Specifier
in_members ms = flat_map (λ m. (out-Member m).specs) ms

abbrev pub total : List ℕ → ℕ
total [] = 0
total (n ∷ ns) = n + total ns

-- One layer of the number below, from the numbers of the parts.

abbrev pub counts_specifier : Specifier-F ℕ ℕ ℕ ℕ ℕ ℕ ℕ → ℕ
counts_specifier (Specifier-F.Struct tag (Some ms)) = suc (total ms)
counts_specifier _ = 1

abbrev pub counts_member : Member-F ℕ ℕ ℕ ℕ ℕ ℕ ℕ → ℕ
counts_member m = total m.specs

-- how many specifiers there are in one: itself, and those of its bodies
unfoldable pub count_in : Specifier → ℕ
count_in = fold-Specifier _ _ _ _ _ _ _ (λ _. 0) counts_specifier (λ _. 0) (λ _. 0) counts_member (λ _. 0) (λ _. 0)

abbrev pub count_all : List Specifier → ℕ
count_all specs = total (map count_in specs)

-- the names that are such are added, but for those still to come, and nothing else
pub record Leaves (P Left : List ℕ → Type 0) (before behind : List (List ℕ)) : Type 0 where
  pub each : (x : List ℕ) → (Contains behind x ⊎ Left x) ↔ (Contains before x ⊎ P x)

-- what all specifiers declare is added, but for what those that are left declare
pub record Gathers (all left : List Specifier) (before behind : Declared) : Type 0 where
  pub enumerators : Leaves (λ x. Somewhere (Enumerates x) all) (λ x. Somewhere (Enumerates x) left) before.enumerators behind.enumerators
  pub tags : Leaves (λ x. Somewhere (Tags x) all) (λ x. Somewhere (Tags x) left) before.tags behind.tags

-- what a specifier declares is added, but for what fewer specifiers declare, which wait behind the others
pub record Opens (spec : Specifier) (waits wait : List Specifier) (before behind : Declared) : Type 0 where
  pub inside : List Specifier
  pub waiting : wait ≡ waits ++ inside
  pub fewer : count_all inside < count_in spec
  pub gathers : Gathers (spec ∷ []) inside before behind

-- what a specifier declares is added
pub record AddsSpec (spec : Specifier) (before behind : Declared) : Type 0 where
  pub enumerators : Adds (λ x. Enumerates x spec) before.enumerators behind.enumerators
  pub tags : Adds (λ x. Tags x spec) before.tags behind.tags

pub record AddsSpecs (specs : List Specifier) (before behind : Declared) : Type 0 where
  pub enumerators : Adds (λ x. Somewhere (Enumerates x) specs) before.enumerators behind.enumerators
  pub tags : Adds (λ x. Somewhere (Tags x) specs) before.tags behind.tags
