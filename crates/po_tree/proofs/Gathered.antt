-- What a walk over a list of parts has gathered, behind one more of them.
use Rattle.std.proofs.Common.{◌≡◌, ℕ, ◌+◌, ◌<◌, List, [], ◌∷◌, ◌++◌, length, get_or, take, map, ap, sym, ◌∙◌, subst, arith, ◌⊎◌, inl, inr, Bool}
use Rattle.std.specs.Prelude.{Contains, Option, Some, None}
use Rattle.std.proofs.lemmas.List.{take_more}
use Rattle.std.proofs.lemmas.List.Elements.{Contains-append_left, Contains-append_right, Contains-append_cases, Contains-push_cases, Contains-push, Contains-get_or}
use Rattle.po_tree.specs.declared.expression.Exp.{Exp}
use Rattle.po_tree.specs.declared.expression.Specifier.{Specifier, out-Specifier, out-roll-Specifier}
use Rattle.po_tree.specs.declared.expression.Exp.TheOpen.{Specifier-F}
use Rattle.po_tree.specs.declared.expression.Specifier.TheVariants as sp
use Rattle.po_tree.specs.declared.expression.Member.{Member, out-Member}
use Rattle.po_tree.specs.declared.names.Declared.{Declared}
use Rattle.po_tree.specs.Scope.{Enumerates, listed, in_member, Tags, of_struct, of_enum, in_body, Somewhere}
use Rattle.po_tree.specs.NameSets.{Adds}
use Rattle.po_tree.specs.Gathering.{AddsSpec, in_members}
use Rattle.po_tree.proofs.Sets.{adds_then, adds_none, adds_along, none_contained, first_or_later, is_first, is_later}

-- some item of a list is such
abbrev pub Some_is : {A : Type 0} → (A → Type 0) → List A → Type 0
Some_is {A = A} P xs = (a : A) × Contains xs a × P a

pub some_none : {A : Type 0} (P : A → Type 0) → Some_is P [] → ⊥
some_none P (a, in', p) = let q = in'.1 in omega (arith, q)

pub adds_more : {A : Type 0} {P : A → List ℕ → Type 0} {before now behind : List (List ℕ)} (i : ℕ) (xs : List A) (a : A) → i < length xs → a ≡ get_or xs i a →
    Adds (λ x. Some_is (λ a. P a x) (take i xs)) before now → Adds (P a) now behind → Adds (λ x. Some_is (λ a. P a x) (take (i + 1) xs)) before behind
adds_more {P = P} i xs a h q p r =
    rw (take_more xs i a h ∙ ap (λ b. take i xs ++ b ∷ []) (sym q)) (adds_then p r
    (λ x s. (s.0, Contains-append_left (take i xs) (a ∷ []) s.0 s.1, s.2))
    (λ x s. (a, Contains-push (take i xs) a, s))
    (λ x s. elim (Contains-push_cases (take i xs) a s.0 s.1) [ inl c ↦ inl (s.0, c, s.2) | inr same ↦ inr (subst (λ b. P b x) (sym same) s.2) ]))

pub word_adds : (t : List ℕ) (s : Specifier) (a : Declared) → s ≡ sp.Word t → AddsSpec s a a
word_adds t s a q = record { enumerators = adds_none a.enumerators (λ x h. word_enumerates t x s h q); tags = adds_none a.tags (λ x h. word_tags t x s h q) }
  where
    word_enumerates : (t x : List ℕ) (s : Specifier) → Enumerates x s → s ≡ sp.Word t → ⊥
    word_enumerates t x s (listed tag items more c) q = cc
    word_enumerates t x s (in_member tag ms m s' c d w) q = cc

    word_tags : (t x : List ℕ) (s : Specifier) → Tags x s → s ≡ sp.Word t → ⊥
    word_tags t x s (of_struct ms) q = cc
    word_tags t x s (of_enum items more) q = cc
    word_tags t x s (in_body tag ms m s' c d w) q = cc

pub named_adds : (t : List ℕ) (s : Specifier) (a : Declared) → s ≡ sp.Named t → AddsSpec s a a
named_adds t s a q = record { enumerators = adds_none a.enumerators (λ x h. named_enumerates t x s h q); tags = adds_none a.tags (λ x h. named_tags t x s h q) }
  where
    named_enumerates : (t x : List ℕ) (s : Specifier) → Enumerates x s → s ≡ sp.Named t → ⊥
    named_enumerates t x s (listed tag items more c) q = cc
    named_enumerates t x s (in_member tag ms m s' c d w) q = cc

    named_tags : (t x : List ℕ) (s : Specifier) → Tags x s → s ≡ sp.Named t → ⊥
    named_tags t x s (of_struct ms) q = cc
    named_tags t x s (of_enum items more) q = cc
    named_tags t x s (in_body tag ms m s' c d w) q = cc

-- the parts of a specifier
out_struct : (tag : Option (List ℕ)) (ms : Option (List Member)) → out-Specifier (sp.Struct tag ms) ≡ Specifier-F.Struct tag ms
out_struct tag ms = ap out-Specifier (sym (sp.rolls-Struct tag ms)) ∙ out-roll-Specifier (Specifier-F.Struct tag ms)

out_enum : (tag : Option (List ℕ)) (items : Option (List (List ℕ × Option Exp))) (more : Bool) → out-Specifier (sp.Enum tag items more) ≡ Specifier-F.Enum tag items more
out_enum tag items more = ap out-Specifier (sym (sp.rolls-Enum tag items more)) ∙ out-roll-Specifier (Specifier-F.Enum tag items more)

pub same_members : (tag tag' : Option (List ℕ)) (ms ms' : List Member) → sp.Struct tag (Some ms) ≡ sp.Struct tag' (Some ms') → ms ≡ ms'
same_members tag tag' ms ms' q =
    let r : Specifier-F.Struct tag (Some ms) ≡ Specifier-F.Struct tag' (Some ms') = sym (out_struct tag (Some ms)) ∙ ap out-Specifier q ∙ out_struct tag' (Some ms') in cc

same_items : (tag tag' : Option (List ℕ)) (items items' : List (List ℕ × Option Exp)) (more more' : Bool) → sp.Enum tag (Some items) more ≡ sp.Enum tag' (Some items') more' → items ≡ items'
same_items tag tag' items items' more more' q =
    let r : Specifier-F.Enum tag (Some items) more ≡ Specifier-F.Enum tag' (Some items') more' = sym (out_enum tag (Some items) more) ∙ ap out-Specifier q ∙ out_enum tag' (Some items') more' in cc

-- members

abbrev IsInMember : List Member → Specifier → Type 0
IsInMember ms s = (m : Member) × Contains ms m × Contains (out-Member m).specs s

to_member : (ms : List Member) (s : Specifier) → Contains (in_members ms) s → IsInMember ms s
to_member [] s c = absurd (none_contained s c)
to_member (m ∷ ms) s c = elim (Contains-append_cases (out-Member m).specs (in_members ms) s c) [
  | inl here ↦ (m, is_first m ms, here)
  | inr later ↦ let w = to_member ms s later in (w.0, is_later m ms w.0 w.1, w.2)
]

from_member : (ms : List Member) (m : Member) (s : Specifier) → Contains ms m → Contains (out-Member m).specs s → Contains (in_members ms) s
from_member [] m s c d = absurd (none_contained m c)
from_member (m' ∷ ms) m s c d = elim (first_or_later m' ms m c) [
  | inl q ↦ Contains-append_left (out-Member m').specs (in_members ms) s (subst (λ v. Contains (out-Member v).specs s) (sym q) d)
  | inr later ↦ Contains-append_right (out-Member m').specs (in_members ms) s (from_member ms m s later d)
]

-- structs
pub body_enumerates : (tag : Option (List ℕ)) (ms : List Member) (x : List ℕ) (s : Specifier) → s ≡ sp.Struct tag (Some ms) → Enumerates x s → Somewhere (Enumerates x) (in_members ms)
body_enumerates tag0 ms0 x s q (listed tag items more c) = absurd cc
body_enumerates tag0 ms0 x s q (in_member tag ms m s' c d w) =
    let same = same_members tag tag0 ms ms0 q in (s', subst (λ v. Contains (in_members v) s') same (from_member ms m s' c d), w)

pub enumerates_body : (tag : Option (List ℕ)) (ms : List Member) (x : List ℕ) (s : Specifier) → s ≡ sp.Struct tag (Some ms) → Somewhere (Enumerates x) (in_members ms) → Enumerates x s
enumerates_body tag ms x s q (s', c, w) = let m = to_member ms s' c in subst (Enumerates x) (sym q) (in_member tag ms m.0 s' m.1 m.2 w)

pub struct_enumerates_none : {tag : Option (List ℕ)} {x : List ℕ} (s : Specifier) → s ≡ sp.Struct tag None → Enumerates x s → ⊥
struct_enumerates_none s q (listed tag items more c) = cc
struct_enumerates_none s q (in_member tag ms m s' c d w) = cc

pub body_tags : (tag : Option (List ℕ)) (ms : List Member) (x : List ℕ) (s : Specifier) → s ≡ sp.Struct tag (Some ms) → Tags x s →
    (tag ≡ Some x) ⊎ Somewhere (Tags x) (in_members ms)
body_tags tag0 ms0 x s q (of_struct ms) = inl cc
body_tags tag0 ms0 x s q (of_enum items more) = absurd cc
body_tags tag0 ms0 x s q (in_body tag ms m s' c d w) =
    let same = same_members tag tag0 ms ms0 q in inr (s', subst (λ v. Contains (in_members v) s') same (from_member ms m s' c d), w)

pub tags_body : (tag : Option (List ℕ)) (ms : List Member) (x : List ℕ) (s : Specifier) → s ≡ sp.Struct tag (Some ms) → Somewhere (Tags x) (in_members ms) → Tags x s
tags_body tag ms x s q (s', c, w) = let m = to_member ms s' c in subst (Tags x) (sym q) (in_body tag ms m.0 s' m.1 m.2 w)

struct_tags : {tag : Option (List ℕ)} {x : List ℕ} (s : Specifier) → s ≡ sp.Struct tag None → Tags x s → tag ≡ Some x
struct_tags s q (of_struct ms) = cc
struct_tags s q (of_enum items more) = absurd cc
struct_tags s q (in_body tag ms m s' c d w) = absurd cc

pub own_tag : {x : List ℕ} (s : Specifier) (tag : Option (List ℕ)) (ms : Option (List Member)) → s ≡ sp.Struct tag ms → tag ≡ Some x → Tags x s
own_tag {x = x} s tag ms q r = subst (Tags x) (sym (q ∙ ap (λ v. sp.Struct v ms) r)) (of_struct ms)

pub struct_tag_adds : (tag : Option (List ℕ)) (s : Specifier) (a : Declared) (tags : List (List ℕ)) → s ≡ sp.Struct tag None →
    Adds (λ x. tag ≡ Some x) a.tags tags → AddsSpec s a (record { enumerators = a.enumerators; tags = tags })
struct_tag_adds tag s a tags q t = record {
  enumerators = adds_none a.enumerators (λ x h. struct_enumerates_none s q h);
  tags = adds_along (λ x h. own_tag s tag None q h) (λ x h. struct_tags s q h) t;
}

-- enumerations
pub enum_enumerates : (tag : Option (List ℕ)) (items : List (List ℕ × Option Exp)) (more : Bool) (x : List ℕ) (s : Specifier) → s ≡ sp.Enum tag (Some items) more →
    Enumerates x s → Contains (map (λ item. item.0) items) x
enum_enumerates tag0 items0 more0 x s q (listed tag items more c) = let same = same_items tag tag0 items items0 more more0 q in subst (λ v. Contains (map (λ item. item.0) v) x) same c
enum_enumerates tag0 items0 more0 x s q (in_member tag ms m s' c d w) = absurd cc

pub enum_enumerates_none : {tag : Option (List ℕ)} {more : Bool} {x : List ℕ} (s : Specifier) → s ≡ sp.Enum tag None more → Enumerates x s → ⊥
enum_enumerates_none s q (listed tag items more c) = cc
enum_enumerates_none s q (in_member tag ms m s' c d w) = cc

enum_tags : (tag : Option (List ℕ)) (items : Option (List (List ℕ × Option Exp))) (more : Bool) (x : List ℕ) (s : Specifier) → s ≡ sp.Enum tag items more → Tags x s → tag ≡ Some x
enum_tags tag0 items0 more0 x s q (of_struct ms) = absurd cc
enum_tags tag0 items0 more0 x s q (of_enum items more) = cc
enum_tags tag0 items0 more0 x s q (in_body tag ms m s' c d w) = absurd cc

own_enum_tag : {x : List ℕ} (s : Specifier) (tag : Option (List ℕ)) (items : Option (List (List ℕ × Option Exp))) (more : Bool) → s ≡ sp.Enum tag items more → tag ≡ Some x → Tags x s
own_enum_tag {x = x} s tag items more q r = subst (Tags x) (sym (q ∙ ap (λ v. sp.Enum v items more) r)) (of_enum items more)

pub enum_adds : (tag : Option (List ℕ)) (items : List (List ℕ × Option Exp)) (more : Bool) (s : Specifier) (a : Declared) (tags es : List (List ℕ)) → s ≡ sp.Enum tag (Some items) more →
    Adds (λ x. tag ≡ Some x) a.tags tags → Adds (Contains (map (λ item. item.0) items)) a.enumerators es → AddsSpec s a (record { enumerators = es; tags = tags })
enum_adds tag items more s a tags es q t m = record {
  enumerators = adds_along (λ x h. subst (Enumerates x) (sym q) (listed tag items more h)) (λ x h. enum_enumerates tag items more x s q h) m;
  tags = adds_along (λ x h. own_enum_tag s tag (Some items) more q h) (λ x h. enum_tags tag (Some items) more x s q h) t;
}

pub enum_tag_adds : (tag : Option (List ℕ)) (more : Bool) (s : Specifier) (a : Declared) (tags : List (List ℕ)) → s ≡ sp.Enum tag None more →
    Adds (λ x. tag ≡ Some x) a.tags tags → AddsSpec s a (record { enumerators = a.enumerators; tags = tags })
enum_tag_adds tag more s a tags q t = record {
  enumerators = adds_none a.enumerators (λ x h. enum_enumerates_none s q h);
  tags = adds_along (λ x h. own_enum_tag s tag None more q h) (λ x h. enum_tags tag None more x s q h) t;
}

-- one item among others
pub contains_more : {A : Type 0} (i : ℕ) (xs : List A) (a y : A) → i < length xs → a ≡ get_or xs i a → (Contains (take i xs) y → ⊥) → (a ≡ y → ⊥) → Contains (take (i + 1) xs) y → ⊥
contains_more i xs a y h q none other c =
    let d : Contains (take i xs ++ a ∷ []) y = subst (λ v. Contains v y) (take_more xs i a h ∙ ap (λ b. take i xs ++ b ∷ []) (sym q)) c in
    elim (Contains-push_cases (take i xs) a y d) [ inl e ↦ none e | inr e ↦ other e ]

pub contains_here : {A : Type 0} (i : ℕ) (xs : List A) (a y : A) → i < length xs → a ≡ get_or xs i a → a ≡ y → Contains xs y
contains_here i xs a y h q r = subst (Contains xs) (sym q ∙ r) (Contains-get_or xs i a h)
