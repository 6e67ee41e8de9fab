-- The typedef names that a well-formed declaration threads are those that are in force behind it.
use Rattle.std.proofs.Common.{◌≡◌, ℕ, Bool, true, false, cond, List, [], ◌∷◌, map, ap, sym, refl, subst, ◌∙◌, ◌⊎◌, inl, inr, ◌↔◌}
use Rattle.std.specs.Prelude.{Contains, Option, Some, None, codes}
use Rattle.std.specs.Str.{bytes_eq}
use Rattle.std.proofs.lemmas.Slice.Eq.{bytes_eq-Decides}
use Rattle.std.proofs.lemmas.List.Elements.{Contains-append_left, Contains-append_right, Contains-append_cases}
use Rattle.po_tree.specs.declared.expression.Exp.{Exp}
use Rattle.po_tree.specs.declared.expression.Specifier.{Specifier}
use Rattle.po_tree.specs.declared.expression.Specifier.TheVariants as sp
use Rattle.po_tree.specs.declared.expression.Declarator.{Declarator}
use Rattle.po_tree.specs.declared.expression.Member.{Member, out-Member}
use Rattle.po_tree.specs.declared.declaration.Init.{Init}
use Rattle.po_tree.specs.declared.declaration.Decl.{Decl}
use Rattle.po_tree.specs.Expressions.{Typed}
use Rattle.po_tree.specs.Declarations.{without, Specs, no_more_specs, storage_class, inline_word, qualifier, type_word, typedef_name, struct_tag, struct_body, enum_tag, enum_body, Enumerators, no_more_items, item as plain_item, valued_item, Members, no_more_members, members as more_members, IsDeclarator, declarator, IsTypedef, Declares, new_type, other as other_word, Parts, no_more_parts, part as plain_part, initialised, Declared, declared, IsPiece, lone, declaration}
use Rattle.po_tree.specs.Scope.{Enumerates, listed, in_member, Somewhere, HasWord, IsTypeBehind}
use Rattle.po_tree.specs.NameSets.{Hides}
use Rattle.po_tree.specs.Gathering.{in_members}
use Rattle.po_tree.proofs.Sets.{first_or_later, is_first, is_later, none_contained, same_or}
use Rattle.po_tree.proofs.Gathered.{body_enumerates, enumerates_body, struct_enumerates_none, enum_enumerates, enum_enumerates_none}

hides_none : {P : List ℕ → Type 0} {a : List (List ℕ)} → ((x : List ℕ) → P x → ⊥) → Hides P a a
hides_none none = record { each = λ x. (λ c. (c, none x), λ h. h.0) }

hides_then : {P Q R : List ℕ → Type 0} {a b c : List (List ℕ)} → Hides P a b → Hides Q b c →
    ((x : List ℕ) → P x → R x) → ((x : List ℕ) → Q x → R x) → ((x : List ℕ) → R x → P x ⊎ Q x) → Hides R a c
hides_then p q left right back = record {
  each = λ x. (
    λ h. let m = (q.each x).0 h in let n = (p.each x).0 m.0 in (n.0, λ r. elim (back x r) [ inl s ↦ n.1 s | inr s ↦ m.1 s ]),
    λ h. (q.each x).1 ((p.each x).1 (h.0, λ s. h.1 (left x s)), λ s. h.1 (right x s)),
  );
}

hides_along : {P Q : List ℕ → Type 0} {a b : List (List ℕ)} → ((x : List ℕ) → P x → Q x) → ((x : List ℕ) → Q x → P x) → Hides P a b → Hides Q a b
hides_along f g p = record { each = λ x. (λ h. let n = (p.each x).0 h in (n.0, λ r. n.1 (g x r)), λ h. (p.each x).1 (h.0, λ r. h.1 (f x r))) }

pub without_to : (name : List ℕ) (xs : List (List ℕ)) (x : List ℕ) → Contains (without name xs) x → Contains xs x × (name ≡ x → ⊥)
without_to name [] x c = absurd (none_contained x c)
without_to name (y ∷ ys) x c =
    elim (bytes_eq y name) as (λ v. bytes_eq y name ≡ v → Contains (cond v (without name ys) (y ∷ without name ys)) x → Contains (y ∷ ys) x × (name ≡ x → ⊥)) [
      | true ↦ (λ q d. let h = without_to name ys x d in (is_later y ys x h.0, h.1))
      | false ↦ (λ q d. elim (first_or_later y (without name ys) x d) [
        | inl e ↦ (subst (Contains (y ∷ ys)) e (is_first y ys), λ w. let bad : true ≡ false = sym ((bytes_eq-Decides y name).1 (e ∙ sym w)) ∙ q in absurd (cc))
        | inr r ↦ (let h = without_to name ys x r in (is_later y ys x h.0, h.1))
      ])
    ] refl c

pub without_from : (name : List ℕ) (xs : List (List ℕ)) (x : List ℕ) → Contains xs x → (name ≡ x → ⊥) → Contains (without name xs) x
without_from name [] x c n = c
without_from name (y ∷ ys) x c n =
    elim (bytes_eq y name) as (λ v. bytes_eq y name ≡ v → Contains (cond v (without name ys) (y ∷ without name ys)) x) [
      | true ↦ (λ q. elim (first_or_later y ys x c) [ inl e ↦ absurd (n (sym ((bytes_eq-Decides y name).0 q) ∙ e)) | inr r ↦ without_from name ys x r n ])
      | false ↦ (λ q. elim (first_or_later y ys x c) [
        | inl e ↦ subst (Contains (y ∷ without name ys)) e (is_first y (without name ys))
        | inr r ↦ is_later y (without name ys) x (without_from name ys x r n)
      ])
    ] refl

hides_name : (name : List ℕ) (types : List (List ℕ)) → Hides (λ x. name ≡ x) types (without name types)
hides_name name types = record { each = λ x. (λ c. without_to name types x c, λ h. without_from name types x h.0 h.1) }

abbrev Hidden : List Specifier → List ℕ → Type 0
Hidden specs x = Somewhere (Enumerates x) specs

hides_cons : {a b c : List (List ℕ)} (s : Specifier) (rest : List Specifier) → Hides (λ x. Enumerates x s) a b → Hides (Hidden rest) b c → Hides (Hidden (s ∷ rest)) a c
hides_cons s rest p q =
    hides_then p q
    (λ x h. (s, is_first s rest, h))
    (λ x h. (h.0, is_later s rest h.0 h.1, h.2))
    (λ x h. elim (first_or_later s rest h.0 h.1) [ inl e ↦ inl (subst (Enumerates x) (sym e) h.2) | inr c ↦ inr (h.0, c, h.2) ])

word_none : (text x : List ℕ) (s : Specifier) → Enumerates x s → s ≡ sp.Word text → ⊥
word_none text x s (listed tag items more c) q = cc
word_none text x s (in_member tag ms m t c d w) q = cc

named_none : (name x : List ℕ) (s : Specifier) → Enumerates x s → s ≡ sp.Named name → ⊥
named_none name x s (listed tag items more c) q = cc
named_none name x s (in_member tag ms m t c d w) q = cc

passes_word : {a b : List (List ℕ)} (text : List ℕ) (rest : List Specifier) → Hides (Hidden rest) a b → Hides (Hidden (sp.Word text ∷ rest)) a b
passes_word text rest h = hides_cons (sp.Word text) rest (hides_none (λ x e. word_none text x (sp.Word text) e refl)) h

hides_item : {types behind : List (List ℕ)} (name : List ℕ) (names : List (List ℕ)) → Hides (Contains names) (without name types) behind → Hides (Contains (name ∷ names)) types behind
hides_item {types = types} name names q =
    hides_then (hides_name name types) q
    (λ x e. subst (Contains (name ∷ names)) e (is_first name names))
    (λ x c. is_later name names x c)
    (λ x c. first_or_later name names x c)

mutual
  specs_hide : {outer free : Bool} {types behind : List (List ℕ)} {seen seen' : Typed} {specs : List Specifier} → Specs outer free types seen specs behind seen' → Hides (Hidden specs) types behind
  specs_hide (no_more_specs outer free types seen) = hides_none (λ x h. none_contained h.0 h.1)
  specs_hide (storage_class outer types types' seen seen' text rest c w) = passes_word text rest (specs_hide w)
  specs_hide (inline_word outer free types types' seen seen' rest is w) = passes_word (codes "inline") rest (specs_hide w)
  specs_hide (qualifier outer free types types' seen seen' text rest c w) = passes_word text rest (specs_hide w)
  specs_hide (type_word outer free types types' seen seen' text rest c t w) = passes_word text rest (specs_hide w)
  specs_hide (typedef_name outer free types types' seen' name rest is c w) =
      hides_cons (sp.Named name) rest (hides_none (λ x e. named_none name x (sp.Named name) e refl)) (specs_hide w)
  specs_hide (struct_tag outer free types types' seen' tag rest is w) =
      hides_cons (sp.Struct (Some tag) None) rest (hides_none (λ x e. struct_enumerates_none {tag = Some tag} (sp.Struct (Some tag) None) refl e)) (specs_hide w)
  specs_hide (struct_body outer free types inner types' seen' tag m ms rest is inside w) =
      hides_cons (sp.Struct tag (Some (m ∷ ms))) rest
      (hides_along (λ x h. enumerates_body tag (m ∷ ms) x (sp.Struct tag (Some (m ∷ ms))) refl h) (λ x h. body_enumerates tag (m ∷ ms) x (sp.Struct tag (Some (m ∷ ms))) refl h) (members_hide inside))
      (specs_hide w)
  specs_hide (enum_tag outer free types types' seen' tag rest is w) =
      hides_cons (sp.Enum (Some tag) None false) rest (hides_none (λ x e. enum_enumerates_none {tag = Some tag} {more = false} (sp.Enum (Some tag) None false) refl e)) (specs_hide w)
  specs_hide (enum_body outer free more types inner types' seen' tag one items rest is inside w) =
      hides_cons (sp.Enum tag (Some (one ∷ items)) more) rest
      (hides_along (λ x h. listed tag (one ∷ items) more h) (λ x h. enum_enumerates tag (one ∷ items) more x (sp.Enum tag (Some (one ∷ items)) more) refl h) (items_hide inside))
      (specs_hide w)

  items_hide : {types behind : List (List ℕ)} {items : List (List ℕ × Option Exp)} → Enumerators types items behind → Hides (λ x. Contains (map (λ item. item.0) items) x) types behind
  items_hide (no_more_items types) = hides_none (λ x h. none_contained x h)
  items_hide (plain_item types types' name rest is w) = hides_item name (map (λ item. item.0) rest) (items_hide w)
  items_hide (valued_item m types types' name value rest is low formed w) = hides_item name (map (λ item. item.0) rest) (items_hide w)

  members_hide : {types behind : List (List ℕ)} {ms : List Member} → Members types ms behind → Hides (Hidden (in_members ms)) types behind
  members_hide (no_more_members types) = hides_none (λ x h. none_contained h.0 h.1)
  members_hide (more_members types inner types' seen m rest some specs some' ds w) =
      hides_then (specs_hide specs) (members_hide w)
      (λ x h. (h.0, Contains-append_left (out-Member m).specs (in_members rest) h.0 h.1, h.2))
      (λ x h. (h.0, Contains-append_right (out-Member m).specs (in_members rest) h.0 h.1, h.2))
      (λ x h. elim (Contains-append_cases (out-Member m).specs (in_members rest) h.0 h.1) [ inl c ↦ inl (h.0, c, h.2) | inr c ↦ inr (h.0, c, h.2) ])

-- declarators

name_is : (o : Option (List ℕ)) (x : List ℕ) → (o ≡ Some x) ⊎ (o ≡ Some x → ⊥)
name_is None x = inr (λ q. cc)
name_is (Some y) x = elim (same_or y x) [ inl e ↦ inl (ap Some e) | inr n ↦ inr (λ q. n (cc)) ]

decide_word : (parts : List (Declarator × Option Init)) (x : List ℕ) → HasWord parts x ⊎ (HasWord parts x → ⊥)
decide_word [] x = inr (λ h. none_contained h.0 h.1)
decide_word (p ∷ ps) x = elim (decide_word ps x) [
  | inl h ↦ inl (h.0, is_later p ps h.0 h.1, h.2)
  | inr n ↦ elim (name_is p.0.name x) [
    | inl e ↦ inl (p, is_first p ps, e)
    | inr m ↦ inr (λ h. elim (first_or_later p ps h.0 h.1) [ inl e ↦ m (subst (λ (v : Declarator × Option Init). v.0.name ≡ Some x) (sym e) h.2) | inr c ↦ n (h.0, c, h.2) ])
  ]
]

declarator_name : {types inner : List (List ℕ)} {seen : Typed} {name : List ℕ} {d : Declarator} → IsDeclarator types seen name d inner → d.name ≡ Some name
declarator_name (declarator types seen name stars suffix inner is are so) = refl

-- the typedef names behind declarators
abbrev Behind : List Specifier → List (Declarator × Option Init) → List (List ℕ) → List ℕ → Type 0
Behind specs parts types x = (IsTypedef specs × HasWord parts x) ⊎ (Contains types x × (HasWord parts x → ⊥))

module _ (d : Declarator) (o : Option Init) (rest : List (Declarator × Option Init)) (name : List ℕ) (worded : d.name ≡ Some name) where
  words_cons : (x : List ℕ) → HasWord ((d, o) ∷ rest) x → (name ≡ x) ⊎ HasWord rest x
  words_cons x h = elim (first_or_later (d, o) rest h.0 h.1) [
    | inl e ↦ (let q : Some name ≡ Some x = sym worded ∙ ap (λ (v : Declarator × Option Init). v.0.name) e ∙ h.2 in inl (cc))
    | inr c ↦ inr (h.0, c, h.2)
  ]

  word_here : (x : List ℕ) → name ≡ x → HasWord ((d, o) ∷ rest) x
  word_here x e = ((d, o), is_first (d, o) rest, worded ∙ ap Some e)

  word_later : (x : List ℕ) → HasWord rest x → HasWord ((d, o) ∷ rest) x
  word_later x h = (h.0, is_later (d, o) rest h.0 h.1, h.2)

  not_worded : (x : List ℕ) → (name ≡ x → ⊥) → (HasWord rest x → ⊥) → HasWord ((d, o) ∷ rest) x → ⊥
  not_worded x n m h = elim (words_cons x h) [ inl e ↦ n e | inr w ↦ m w ]

  module _ (specs : List Specifier) (types behind : List (List ℕ)) where
    new_to : IsTypedef specs → ((x : List ℕ) → Contains behind x → Behind specs rest (name ∷ types) x) → (x : List ℕ) → Contains behind x → Behind specs ((d, o) ∷ rest) types x
    new_to is after x c = elim (after x c) [
      | inl h ↦ inl (is, typed_later h)
      | inr h ↦ elim (same_or name x) [
        | inl e ↦ inl (is, word_here x e)
        | inr n ↦ elim (first_or_later name types x h.0) [ inl e ↦ inl (is, word_here x e) | inr r ↦ inr (r, not_worded x n h.1) ]
      ]
    ]
      where
        typed_later : IsTypedef specs × HasWord rest x → HasWord ((d, o) ∷ rest) x
        typed_later (is', w) = word_later x w

    new_from : ((x : List ℕ) → Behind specs rest (name ∷ types) x → Contains behind x) → (x : List ℕ) → Behind specs ((d, o) ∷ rest) types x → Contains behind x
    new_from after x (inl (is, w)) = elim (decide_word rest x) [
      | inl v ↦ after x (inl (is, v))
      | inr n ↦ elim (words_cons x w) [
        | inl e ↦ after x (inr (subst (Contains (name ∷ types)) e (is_first name types), n))
        | inr v ↦ absurd (n v)
      ]
    ]
    new_from after x (inr (c, n)) = after x (inr (is_later name types x c, λ w. n (word_later x w)))

    other_to : (IsTypedef specs → ⊥) → ((x : List ℕ) → Contains behind x → Behind specs rest (without name types) x) → (x : List ℕ) → Contains behind x → Behind specs ((d, o) ∷ rest) types x
    other_to not_type after x c = elim (after x c) [
      | inl h ↦ absurd (none h)
      | inr h ↦ (let k = without_to name types x h.0 in inr (k.0, not_worded x k.1 h.1))
    ]
      where
        none : IsTypedef specs × HasWord rest x → ⊥
        none (is, w) = not_type is

    other_from : (IsTypedef specs → ⊥) → ((x : List ℕ) → Behind specs rest (without name types) x → Contains behind x) → (x : List ℕ) → Behind specs ((d, o) ∷ rest) types x → Contains behind x
    other_from not_type after x (inl (is, w)) = absurd (not_type is)
    other_from not_type after x (inr (c, n)) = after x (inr (without_from name types x c (λ e. n (word_here x e)), λ w. n (word_later x w)))

    one_part : {inner : List (List ℕ)} → Declares specs name types inner →
        ((x : List ℕ) → Contains behind x ↔ Behind specs rest inner x) → (x : List ℕ) → Contains behind x ↔ Behind specs ((d, o) ∷ rest) types x
    one_part (new_type is) after x = (λ c. new_to is (λ y. (after y).0) x c, λ h. new_from (λ y. (after y).1) x h)
    one_part (other_word not_type) after x = (λ c. other_to not_type (λ y. (after y).0) x c, λ h. other_from not_type (λ y. (after y).1) x h)

none_typed : (specs : List Specifier) (x : List ℕ) → IsTypedef specs × HasWord [] x → ⊥
none_typed specs x (is, w) = none_contained w.0 w.1

parts_so : {specs : List Specifier} {seen : Typed} {types behind : List (List ℕ)} {parts : List (Declarator × Option Init)} → Parts specs seen types parts behind →
    (x : List ℕ) → Contains behind x ↔ Behind specs parts types x
parts_so {specs = specs} (no_more_parts types) x = (λ c. inr (c, λ h. none_contained h.0 h.1), λ h. elim h [ inl w ↦ absurd (none_typed specs x w) | inr c ↦ c.0 ])
parts_so {specs = specs} (plain_part types params inner types' name d rest is declares w) x = one_part d None rest name (declarator_name is) specs types types' declares (parts_so w) x
parts_so {specs = specs} (initialised types params inner types' name d y rest is declares formed w) x = one_part d (Some y) rest name (declarator_name is) specs types types' declares (parts_so w) x

declared_so : {types behind : List (List ℕ)} {d : Decl} → Declared types d behind → (x : List ℕ) → Contains behind x ↔ IsTypeBehind types d x
declared_so (declared types inner types' seen spec specs parts s p) x =
    let hide = (specs_hide s).each x in
    let so = parts_so p x in (
      λ c. elim (so.0 c) [ inl h ↦ inl h | inr h ↦ (let q = hide.0 h.0 in inr (q.0, q.1, h.1)) ],
      λ h. elim h [ inl w ↦ so.1 (inl w) | inr k ↦ so.1 (inr (hide.1 (k.0, k.1), k.2)) ],
    )

pub piece_so : {types behind : List (List ℕ)} {d : Decl} → IsPiece types d behind → (x : List ℕ) → Contains behind x ↔ IsTypeBehind types d x
piece_so (lone types) x = (
  λ c. inr (c, λ h. none_contained h.0 h.1, λ h. none_contained h.0 h.1),
  λ h. elim h [ inl w ↦ absurd (none_typed [] x w) | inr k ↦ k.0 ],
)
piece_so (declaration types types' d w) x = declared_so w x
