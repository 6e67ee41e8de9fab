-- Tags of enumerations among the tags of a file.
use Rattle.std.proofs.Common.{◌≡◌, ℕ, List, [], ◌∷◌, map, Some, None, Bool, true, false, refl, sym, ◌∙◌, inl, inr}
use Rattle.std.specs.Prelude.{nat_eq, cond, Contains}
use Rattle.std.specs.List.{list_any}
use Rattle.std.specs.Ordering.{nat_cmp}
use Rattle.std.specs.Cmp.Lexicographic.{pointwise, slice_cmp}
use Rattle.std.specs.BTreeMap.{is_at}
use Rattle.std.proofs.lemmas.Slice.Eq.{bytes_eq-Decides}
use Rattle.po_lists.proofs.Members.{contains_none, contains_head, contains_tail, contains_cases}
use Rattle.po_types.specs.Tables.{found}
use Rattle.po_typed.specs.Scopes.{enum_tag}
use Rattle.po_tree.proofs.Sets.{has_iff}

found_among : (tags : List (List ℕ)) (name : List ℕ) → Contains tags name → found (map (λ tag. (tag, enum_tag)) tags) name ≡ Some enum_tag
found_among [] name h = absurd (contains_none name h)
found_among (tag ∷ tags) name h =
    elim (pointwise nat_eq name tag) as (λ b. pointwise nat_eq name tag ≡ b → cond b (Some enum_tag) (found (map (λ tag. (tag, enum_tag)) tags) name) ≡ Some enum_tag) [
      | true ↦ (λ q. refl)
      | false ↦ (λ q. elim (contains_cases tag tags name h) [
        | inl e ↦ (let t : pointwise nat_eq name tag ≡ true = (bytes_eq-Decides name tag).1 (sym e) in absurd cc)
        | inr k ↦ found_among tags name k
      ])
    ] refl

not_among : (tags : List (List ℕ)) (name : List ℕ) → (Contains tags name → ⊥) → found (map (λ tag. (tag, enum_tag)) tags) name ≡ None
not_among [] name h = refl
not_among (tag ∷ tags) name h =
    elim (pointwise nat_eq name tag) as (λ b. pointwise nat_eq name tag ≡ b → cond b (Some enum_tag) (found (map (λ tag. (tag, enum_tag)) tags) name) ≡ None) [
      | true ↦ (λ q. let e : name ≡ tag = (bytes_eq-Decides name tag).0 q in absurd (h (rw e (contains_head tag tags))))
      | false ↦ (λ q. not_among tags name (λ k. h (contains_tail tag tags name k)))
    ] refl

pub found_enum : (tags : List (List ℕ)) (name : List ℕ) (b : Bool) → b ≡ list_any (is_at (slice_cmp nat_cmp name)) tags → b ≡ true → Some enum_tag ≡ found (map (λ tag. (tag, enum_tag)) tags) name
found_enum tags name b q t = sym (found_among tags name ((has_iff tags name).0 (sym q ∙ t)))

pub no_enum : (tags : List (List ℕ)) (name : List ℕ) (b : Bool) → b ≡ list_any (is_at (slice_cmp nat_cmp name)) tags → b ≡ false → None ≡ found (map (λ tag. (tag, enum_tag)) tags) name
no_enum tags name b q f = sym (not_among tags name (λ h. let t : list_any (is_at (slice_cmp nat_cmp name)) tags ≡ true = (has_iff tags name).1 h in absurd (cc (q, f, t))))
