-- What is hidden step by step is hidden, and the names that a well-formed head leaves in force in the body are those.
use Rattle.std.proofs.Common.{◌≡◌, ◌∙◌, ℕ, true, List, [], ◌∷◌, ◌++◌, sym, subst, ap, refl, ◌⊎◌, inl, inr, ◌↔◌, Some}
use Rattle.std.specs.Prelude.{Contains, Option}
use Rattle.std.proofs.lemmas.List.Elements.{Contains-append_left, Contains-append_right, Contains-append_cases}
use Rattle.po_tree.specs.declared.expression.Specifier.{Specifier}
use Rattle.po_tree.specs.declared.expression.Declarator.{Declarator}
use Rattle.po_tree.specs.declared.expression.Param.{Param, out-Param}
use Rattle.po_tree.specs.Expressions.{Typed, untyped}
use Rattle.po_tree.specs.Declarations.{Specs, no_more_parts, declared, declaration}
use Rattle.po_tree.specs.NameSets.{Hides}
use Rattle.po_tree.specs.InForce.{InForce}
use Rattle.po_tree.specs.Scope.{AreBehind, IsTypeBehind, HidesTypes}
use Rattle.po_tree.proofs.Sets.{none_contained, first_or_later, is_first}
use Rattle.po_tree.proofs.Threaded.{piece_so}
use Rattle.po_fun_heads.specs.Inside.{IsEnumerator, IsOfParameter, IsOfParameters, HidesNames}

-- one after the other

pub hides_both : {P Q : List ℕ → Type 0} {before mid behind : List (List ℕ)} → Hides P before mid → Hides Q mid behind → Hides (λ x. P x ⊎ Q x) before behind
hides_both p q = record {
  each = λ x. (
    λ c. let m = (q.each x).0 c in let n = (p.each x).0 m.0 in (n.0, λ h. elim h [ inl s ↦ n.1 s | inr s ↦ m.1 s ]),
    λ h. (q.each x).1 ((p.each x).1 (h.0, λ s. h.1 (inl s)), λ s. h.1 (inr s)),
  );
}

pub names_hidden_both : {P Q : List ℕ → Type 0} {before mid behind : InForce} → HidesNames P before mid → HidesNames Q mid behind → HidesNames (λ x. P x ⊎ Q x) before behind
names_hidden_both p q = record { types = hides_both p.types q.types; outer = q.outer ∙ p.outer }

pub hides_such : {P Q : List ℕ → Type 0} {before behind : List (List ℕ)} → ((x : List ℕ) → P x → Q x) → ((x : List ℕ) → Q x → P x) → Hides P before behind → Hides Q before behind
hides_such f g p = record { each = λ x. (λ c. let n = (p.each x).0 c in (n.0, λ r. n.1 (g x r)), λ h. (p.each x).1 (h.0, λ r. h.1 (f x r))) }

-- a declaration without declarators

no_words : (specs : List Specifier) (types : List (List ℕ)) (x : List ℕ) → IsTypeBehind types (record { specs = specs; parts = [] }) x → Contains types x × (IsEnumerator specs x → ⊥)
no_words specs types x (inl (is, w)) = absurd (none_contained w.0 w.1)
no_words specs types x (inr (c, e, n)) = (c, e)

pub hidden_of_specs : (specs : List Specifier) (types behind : List (List ℕ)) → ((x : List ℕ) → Contains behind x ↔ IsTypeBehind types (record { specs = specs; parts = [] }) x) → Hides (IsEnumerator specs) types behind
hidden_of_specs specs types behind so = record { each = λ x. (λ c. no_words specs types x ((so x).0 c), λ h. (so x).1 (inr (h.0, h.1, λ w. none_contained w.0 w.1))) }

pub enumerators_hidden : {specs : List Specifier} {before behind : InForce} → AreBehind before (record { specs = specs; parts = [] }) behind → behind.outer ≡ before.outer → HidesNames (IsEnumerator specs) before behind
enumerators_hidden {specs} {before} {behind} so same = record { types = hidden_of_specs specs before.typedefs behind.typedefs so.types; outer = same }

pub specs_hidden : (specs : List Specifier) {types own : List (List ℕ)} {seen : Typed} → (specs ≡ [] → ⊥) → Specs true true types untyped specs own seen → Hides (IsEnumerator specs) types own
specs_hidden [] some w = absurd (some refl)
specs_hidden (spec ∷ specs) {types} {own} {seen} some w =
    hidden_of_specs (spec ∷ specs) types own (piece_so (declaration types own (record { specs = spec ∷ specs; parts = [] }) (declared types own own seen spec specs [] w (no_more_parts own))))

-- a word

pub word_hidden : {name : Option (List ℕ)} {text : List ℕ} {before behind : InForce} → name ≡ Some text → HidesTypes (λ x. text ≡ x) before behind → HidesNames (λ x. name ≡ Some x) before behind
word_hidden {name} {text} q h = record {
  types = hides_such (λ x e. q ∙ ap Some e) (λ x e. let same : Some text ≡ Some x = sym q ∙ e in cc) h.0;
  outer = h.2;
}

pub name_hidden : {text : List ℕ} {before behind : InForce} → HidesTypes (λ x. text ≡ x) before behind → HidesNames (λ x. text ≡ x) before behind
name_hidden h = record { types = h.0; outer = h.2 }

-- a parameter, by its parts

pub parameter_hidden : (x : Param) {specs : List Specifier} {declarator : Declarator} {before mid behind : InForce} → specs ≡ (out-Param x).specs → declarator ≡ (out-Param x).declarator →
    HidesNames (IsEnumerator specs) before mid → HidesNames (λ y. declarator.name ≡ Some y) mid behind → HidesNames (IsOfParameter x) before behind
parameter_hidden x {specs} {declarator} {before} {mid} {behind} q r h g =
    names_hidden_both (subst (λ v. HidesNames (IsEnumerator v) before mid) q h) (subst (λ (v : Declarator). HidesNames (λ y. v.name ≡ Some y) mid behind) r g)

-- parameters, one after the other

pub none_hidden : (names : InForce) → HidesNames (IsOfParameters []) names names
none_hidden names = record { types = record { each = λ x. (λ c. (c, λ h. none_contained h.0 h.1), λ h. h.0) }; outer = refl }

of_more : (xs : List Param) (y : Param) (x : List ℕ) → IsOfParameters xs x ⊎ IsOfParameter y x → IsOfParameters (xs ++ y ∷ []) x
of_more xs y x (inl h) = (h.0, Contains-append_left xs (y ∷ []) h.0 h.1, h.2)
of_more xs y x (inr h) = (y, Contains-append_right xs (y ∷ []) y (is_first y []), h)

by_more : (xs : List Param) (y : Param) (x : List ℕ) → IsOfParameters (xs ++ y ∷ []) x → IsOfParameters xs x ⊎ IsOfParameter y x
by_more xs y x h = elim (Contains-append_cases xs (y ∷ []) h.0 h.1) [
  | inl c ↦ inl (h.0, c, h.2)
  | inr c ↦ elim (first_or_later y [] h.0 c) [ inl e ↦ inr (subst (λ v. IsOfParameter v x) (sym e) h.2) | inr n ↦ absurd (none_contained h.0 n) ]
]

pub parameters_hidden : (xs : List Param) (y : Param) {before mid behind : InForce} → HidesNames (IsOfParameters xs) before mid → HidesNames (IsOfParameter y) mid behind →
    HidesNames (IsOfParameters (xs ++ y ∷ [])) before behind
parameters_hidden xs y h g =
    let both = names_hidden_both h g in
    record { types = hides_such (λ x. of_more xs y x) (λ x. by_more xs y x) both.types; outer = both.outer }
