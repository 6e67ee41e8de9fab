-- The names in force behind a declaration, from what was gathered of it.
use Rattle.std.proofs.Common.{◌≡◌, ℕ, Bool, true, false, List, [], ◌∷◌, sym, subst, refl, ◌∙◌, inl, inr, ◌↔◌}
use Rattle.std.specs.Prelude.{Contains, MatchBool, IsTrue, Option, Some, None}
use Rattle.po_tree.specs.declared.expression.Specifier.{Specifier}
use Rattle.po_tree.specs.declared.expression.Declarator.{Declarator}
use Rattle.po_tree.specs.declared.declaration.Init.{Init}
use Rattle.po_tree.specs.declared.declaration.Decl.{Decl}
use Rattle.po_tree.specs.declared.names.Declared.{Declared}
use Rattle.po_tree.specs.NameSets.{Adds, Hides}
use Rattle.po_tree.specs.InForce.{InForce}
use Rattle.po_tree.specs.Declarations.{IsTypedef}
use Rattle.po_tree.specs.Scope.{AreBehind, AreBehindWords, IsTypeBehindWords, HidesTypes, AddsTypes, AddsTags, Enumerates, Somewhere, HasWord}
use Rattle.po_tree.specs.Gathering.{AddsSpecs}
use Rattle.po_tree.proofs.Sets.{none_contained, is_first, first_or_later, decide_in}

-- a set that was made from nothing has just these names
pub made : {P : List ℕ → Type 0} {set : List (List ℕ)} (x : List ℕ) → Adds P [] set → Contains set x → P x
made x a c = elim ((a.each x).0 c) [ inl h ↦ absurd (none_contained x h) | inr p ↦ p ]

pub makes : {P : List ℕ → Type 0} {set : List (List ℕ)} (x : List ℕ) → Adds P [] set → P x → Contains set x
makes x a p = (a.each x).1 (inr p)

module _ (specs : List Specifier) (words enumerators : List (List ℕ)) (given : Adds (λ x. Somewhere (Enumerates x) specs) [] enumerators) where
  typed_to : (before mid behind : List (List ℕ)) (x : List ℕ) → Hides (Contains enumerators) before mid → Adds (Contains words) mid behind → IsTypedef specs → Contains behind x →
      IsTypeBehindWords before specs (Contains words) x
  typed_to before mid behind x hides adds is c = elim ((adds.each x).0 c) [
    | inl m ↦ (let h = (hides.each x).0 m in elim (decide_in words x) [ inl w ↦ inl (is, w) | inr n ↦ inr (h.0, λ e. h.1 (makes x given e), n) ])
    | inr w ↦ inl (is, w)
  ]

  typed_from : (before mid behind : List (List ℕ)) (x : List ℕ) → Hides (Contains enumerators) before mid → Adds (Contains words) mid behind →
      IsTypeBehindWords before specs (Contains words) x → Contains behind x
  typed_from before mid behind x hides adds (inl (is, w)) = (adds.each x).1 (inr w)
  typed_from before mid behind x hides adds (inr (b, e, n)) = (adds.each x).1 (inl ((hides.each x).1 (b, λ c. e (made x given c))))

  other_to : (before mid behind : List (List ℕ)) (x : List ℕ) → Hides (Contains enumerators) before mid → Hides (Contains words) mid behind → Contains behind x →
      IsTypeBehindWords before specs (Contains words) x
  other_to before mid behind x hides hides' c =
      let h' = (hides'.each x).0 c in let h = (hides.each x).0 h'.0 in inr (h.0, λ e. h.1 (makes x given e), h'.1)

  other_from : (before mid behind : List (List ℕ)) (x : List ℕ) → Hides (Contains enumerators) before mid → Hides (Contains words) mid behind → (IsTypedef specs → ⊥) →
      IsTypeBehindWords before specs (Contains words) x → Contains behind x
  other_from before mid behind x hides hides' not_type (inl (is, w)) = absurd (not_type is)
  other_from before mid behind x hides hides' not_type (inr (b, e, n)) = (hides'.each x).1 ((hides.each x).1 (b, λ c. e (made x given c)), n)

  types_behind : (types : Bool) (before mid behind : InForce) → (IsTrue types ↔ IsTypedef specs) → Hides (Contains enumerators) before.typedefs mid.typedefs →
      MatchBool types (AddsTypes (Contains words) mid behind) (HidesTypes (Contains words) mid behind) →
      (x : List ℕ) → Contains behind.typedefs x ↔ IsTypeBehindWords before.typedefs specs (Contains words) x
  types_behind true before mid behind tells hides adds x =
      (λ c. typed_to before.typedefs mid.typedefs behind.typedefs x hides adds.0 (tells.0 refl) c, λ h. typed_from before.typedefs mid.typedefs behind.typedefs x hides adds.0 h)
  types_behind false before mid behind tells hides hides' x = (
    λ c. other_to before.typedefs mid.typedefs behind.typedefs x hides hides'.0 c,
    λ h. other_from before.typedefs mid.typedefs behind.typedefs x hides hides'.0 (λ is. let q : false ≡ true = tells.1 is in absurd cc) h,
  )

tags_behind : (types : Bool) (words : List (List ℕ)) (mid behind : InForce) → MatchBool types (AddsTypes (Contains words) mid behind) (HidesTypes (Contains words) mid behind) →
    (behind.tags ≡ mid.tags) × (behind.outer ≡ mid.outer)
tags_behind true words mid behind h = (h.1, h.2)
tags_behind false words mid behind h = (h.1, h.2)

pub behind_words : (specs : List Specifier) (words : List (List ℕ)) (found : Declared) (types : Bool) (before mid mid' behind : InForce) →
    AddsSpecs specs (record { enumerators = []; tags = [] }) found → HidesTypes (Contains found.enumerators) before mid → (IsTrue types ↔ IsTypedef specs) →
    MatchBool types (AddsTypes (Contains words) mid mid') (HidesTypes (Contains words) mid mid') → AddsTags (Contains found.tags) mid' behind →
    AreBehindWords before specs words behind
behind_words specs words found types before mid mid' behind gathered hides tells worded tagged =
    let same = tags_behind types words mid mid' worded in record {
      types = λ x. subst (λ v. Contains v x ↔ IsTypeBehindWords before.typedefs specs (Contains words) x) (sym tagged.0)
          (types_behind specs words found.enumerators gathered.enumerators types before mid mid' tells hides.0 worded x);
      tags = λ x. (
        λ c. elim ((tagged.1.each x).0 c) [ inl m ↦ inl (subst (λ v. Contains v x) (same.0 ∙ hides.1) m) | inr f ↦ inr (made x gathered.tags f) ],
        λ h. elim h [ inl b ↦ (tagged.1.each x).1 (inl (subst (λ v. Contains v x) (sym (same.0 ∙ hides.1)) b)) | inr t ↦ (tagged.1.each x).1 (inr (makes x gathered.tags t)) ],
      );
      outer = tagged.2 ∙ same.1 ∙ hides.2;
    }

-- by what the words are
words_as : (W V : List ℕ → Type 0) (types : List (List ℕ)) (specs : List Specifier) (x : List ℕ) → (W x → V x) → (V x → W x) → IsTypeBehindWords types specs W x → IsTypeBehindWords types specs V x
words_as W V types specs x f g (inl (is, w)) = inl (is, f w)
words_as W V types specs x f g (inr (b, e, n)) = inr (b, e, λ v. n (g v))

pub behind_declaration : (before behind : InForce) (d : Decl) (words : List (List ℕ)) → Adds (HasWord d.parts) [] words → AreBehindWords before d.specs words behind →
    AreBehind before d behind × (behind.outer ≡ before.outer)
behind_declaration before behind d words worded h = (
  record {
    types = λ x. (
      λ c. words_as (Contains words) (HasWord d.parts) before.typedefs d.specs x (λ w. made x worded w) (λ w. makes x worded w) ((h.types x).0 c),
      λ b. (h.types x).1 (words_as (HasWord d.parts) (Contains words) before.typedefs d.specs x (λ w. makes x worded w) (λ w. made x worded w) b),
    );
    tags = h.tags;
  },
  h.outer,
)

-- the word of a head
pub head_word : (d : Declarator) (words : List (List ℕ)) → Adds (λ x. d.name ≡ Some x) [] words → Adds (HasWord ((d, None) ∷ [])) [] words
head_word d words a = record {
  each = λ x. (
    λ c. inr ((d, None), is_first (d, None) [], made x a c),
    λ h. elim h [
      | inl n ↦ absurd (none_contained x n)
      | inr w ↦ makes x a (elim (first_or_later (d, None) [] w.0 w.1) [
        | inl q ↦ subst (λ (v : Declarator × Option Init). v.0.name ≡ Some x) (sym q) w.2
        | inr c ↦ absurd (none_contained w.0 c)
      ])
    ],
  );
}

-- the names before may be others that are the same
pub behind_copy : (before copy behind : InForce) (d : Decl) → Adds (Contains before.typedefs) [] copy.typedefs → Adds (Contains before.tags) [] copy.tags → AreBehind copy d behind →
    AreBehind before d behind
behind_copy before copy behind d types tags h = record {
  types = λ x. (
    λ c. elim ((h.types x).0 c) [ inl w ↦ inl w | inr k ↦ inr (made x types k.0, k.1, k.2) ],
    λ b. (h.types x).1 (elim b [ inl w ↦ inl w | inr k ↦ inr (makes x types k.0, k.1, k.2) ]),
  );
  tags = λ x. (
    λ c. elim ((h.tags x).0 c) [ inl t ↦ inl (made x tags t) | inr s ↦ inr s ],
    λ b. (h.tags x).1 (elim b [ inl t ↦ inl (makes x tags t) | inr s ↦ inr s ]),
  );
}
