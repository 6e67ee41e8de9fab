-- What stands outside the scopes that are open, behind a change.
use Rattle.std.proofs.Common.{◌≡◌, ℕ, List, [], ◌∷◌, ◌++◌, ap, ◌∙◌, refl, subst}
use Rattle.std.specs.Prelude.{Contains, reverse}
use Rattle.std.proofs.lemmas.List.{reverse-append}
use Rattle.po_tree.specs.declared.names.Change.{Change}
use Rattle.po_tree.specs.declared.names.Change.TheVariants as change
use Rattle.po_tree.specs.InForce.{InForce, with_name, less_name, undone, outer_of, IsAscending}
use Rattle.po_tree.specs.Scope.{HidesTypes, AddsTypes, AddsTags}
use Rattle.po_tree.proofs.Sets.{adds_one}
use Rattle.po_tree.proofs.Ascending.{less_with, with_less, hides_one}

pub pushed : (changes : List Change) (c : Change) (typedefs tags : List (List ℕ)) → outer_of (changes ++ c ∷ []) typedefs tags ≡ undone (c ∷ reverse changes) typedefs tags
pushed changes c typedefs tags = ap (λ v. undone v typedefs tags) (reverse-append changes (c ∷ []))

pub hidden : (changes : List Change) (name : List ℕ) (typedefs tags : List (List ℕ)) → IsAscending typedefs → Contains typedefs name →
    outer_of (changes ++ change.Hidden name ∷ []) (less_name name typedefs) tags ≡ outer_of changes typedefs tags
hidden changes name typedefs tags s c = pushed changes (change.Hidden name) (less_name name typedefs) tags ∙ ap (λ v. outer_of changes v tags) (with_less name typedefs s c)

pub declared : (changes : List Change) (name : List ℕ) (typedefs tags : List (List ℕ)) → (Contains typedefs name → ⊥) →
    outer_of (changes ++ change.Declared name ∷ []) (with_name name typedefs) tags ≡ outer_of changes typedefs tags
declared changes name typedefs tags none = pushed changes (change.Declared name) (with_name name typedefs) tags ∙ ap (λ v. outer_of changes v tags) (less_with name typedefs none)

pub tagged : (changes : List Change) (name : List ℕ) (typedefs tags : List (List ℕ)) → (Contains tags name → ⊥) →
    outer_of (changes ++ change.Tagged name ∷ []) typedefs (with_name name tags) ≡ outer_of changes typedefs tags
tagged changes name typedefs tags none = pushed changes (change.Tagged name) typedefs (with_name name tags) ∙ ap (λ v. outer_of changes typedefs v) (less_with name tags none)

-- the changes of names, as they are recorded

pub hides : (now : InForce) (changes changes' : List Change) (name name' : List ℕ) (types types' tags : List (List ℕ)) →
    record { typedefs = types; tags = tags; outer = outer_of changes types tags } ≡ now → IsAscending types → Contains types name →
    changes' ≡ changes ++ change.Hidden name' ∷ [] → name' ≡ name → types' ≡ less_name name types →
    HidesTypes (λ x. name ≡ x) now (record { typedefs = types'; tags = tags; outer = outer_of changes' types' tags })
hides now changes changes' name name' types types' tags view ascending present logged same less =
    subst (λ v. HidesTypes (λ x. name ≡ x) v (record { typedefs = types'; tags = tags; outer = outer_of changes' types' tags })) view (
      rw less (hides_one name types ascending),
      refl,
      ap (λ v. outer_of v types' tags) (logged ∙ ap (λ v. changes ++ change.Hidden v ∷ []) same) ∙ ap (λ v. outer_of (changes ++ change.Hidden name ∷ []) v tags) less
          ∙ hidden changes name types tags ascending present,
    )

pub declares : (now : InForce) (changes changes' : List Change) (name name' name'' : List ℕ) (types types' tags : List (List ℕ)) →
    record { typedefs = types; tags = tags; outer = outer_of changes types tags } ≡ now → (Contains types name → ⊥) →
    changes' ≡ changes ++ change.Declared name' ∷ [] → name' ≡ name → types' ≡ with_name name'' types → name'' ≡ name →
    AddsTypes (λ x. name ≡ x) now (record { typedefs = types'; tags = tags; outer = outer_of changes' types' tags })
declares now changes changes' name name' name'' types types' tags view absent logged same more same' =
    let added = more ∙ ap (λ v. with_name v types) same' in
    subst (λ v. AddsTypes (λ x. name ≡ x) v (record { typedefs = types'; tags = tags; outer = outer_of changes' types' tags })) view (
      rw added (adds_one types name),
      refl,
      ap (λ v. outer_of v types' tags) (logged ∙ ap (λ v. changes ++ change.Declared v ∷ []) same) ∙ ap (λ v. outer_of (changes ++ change.Declared name ∷ []) v tags) added
          ∙ declared changes name types tags absent,
    )

pub declares_tag : (now : InForce) (changes changes' : List Change) (name name' name'' : List ℕ) (types tags tags' : List (List ℕ)) →
    record { typedefs = types; tags = tags; outer = outer_of changes types tags } ≡ now → (Contains tags name → ⊥) →
    changes' ≡ changes ++ change.Tagged name' ∷ [] → name' ≡ name → tags' ≡ with_name name'' tags → name'' ≡ name →
    AddsTags (λ x. name ≡ x) now (record { typedefs = types; tags = tags'; outer = outer_of changes' types tags' })
declares_tag now changes changes' name name' name'' types tags tags' view absent logged same more same' =
    let added = more ∙ ap (λ v. with_name v tags) same' in
    subst (λ v. AddsTags (λ x. name ≡ x) v (record { typedefs = types; tags = tags'; outer = outer_of changes' types tags' })) view (
      refl,
      rw added (adds_one tags name),
      ap (λ v. outer_of v types tags') (logged ∙ ap (λ v. changes ++ change.Tagged v ∷ []) same) ∙ ap (λ v. outer_of (changes ++ change.Tagged name ∷ []) types v) added
          ∙ tagged changes name types tags absent,
    )
