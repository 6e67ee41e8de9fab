-- Scopes as blocks, and what is found in them.
use Rattle.std.proofs.Common.{◌≡◌, ◌≢◌, ℕ, ◌+◌, ◌-◌, ◌<◌, ◌≤◌, List, [], ◌∷◌, ◌++◌, length, get_or, take, drop, map, Option, Some, None, true, false, refl, sym, ap, ◌∙◌, arith}
use Rattle.std.specs.Prelude.{nat_eq, cond, slice_get, slice_set, MatchOption}
use Rattle.std.specs.Cmp.Lexicographic.{pointwise}
use Rattle.std.specs.Option.{option_map}
use Rattle.std.proofs.lemmas.List.{reverse-append, take_more, take_more_set, take_all, length-set, map_push}
use Rattle.std.proofs.lemmas.Option.{get_or_from_slice_get}
use Rattle.std.proofs.lemmas.Map.Made.{lookup-map_values}
use Rattle.po_types.specs.Tables.{found}
use Rattle.po_typed.specs.Scopes.{Block, Meaning, Tag, first_of, word_in, tag_in, word_here, tag_here, within_innermost}
use Rattle.po_scopes.specs.declared.scopes.Scope.{Scope}
use Rattle.po_scopes.specs.declared.meaning.Local.{Local}
use Rattle.po_scopes.specs.declared.meaning.Tag.{Tag as TagOf}
use Rattle.po_scopes.specs.Meanings.{as_local, as_tag}
use Rattle.po_scopes.specs.Standing.{as_block, blocks_of, and_word, and_tag}

-- the last scope is the innermost one
pub last_scope : (scopes : List Scope) (i : ℕ) (d : Scope) → i < length scopes → blocks_of (take (i + 1) scopes) ≡ as_block (get_or scopes i d) ∷ blocks_of (take i scopes)
last_scope scopes i d in' = ap blocks_of (take_more scopes i d in') ∙ ap (map as_block) (reverse-append (take i scopes) (get_or scopes i d ∷ []))

pub put_last : (scopes : List Scope) (s : Scope) → blocks_of (scopes ++ s ∷ []) ≡ as_block s ∷ blocks_of scopes
put_last scopes s = ap (map as_block) (reverse-append scopes (s ∷ []))

-- a word, and a tag, in one scope
pub word_of : (s : Scope) (name : List ℕ) → found (as_block s).words name ≡ option_map as_local (found s.words name)
word_of s name = lookup-map_values as_local (pointwise nat_eq name) s.words

pub tag_of : (s : Scope) (name : List ℕ) → found (as_block s).tags name ≡ option_map as_tag (found s.tags name)
tag_of s name = lookup-map_values as_tag (pointwise nat_eq name) s.tags

pub found_append : {V : Type 0} (xs ys : List (List ℕ × V)) (name : List ℕ) → found (xs ++ ys) name ≡ first_of (found xs name) (found ys name)
found_append [] ys name = refl
found_append (x ∷ xs) ys name =
    elim (pointwise nat_eq name x.0) as (λ b. cond b (Some x.1) (found (xs ++ ys) name) ≡ first_of (cond b (Some x.1) (found xs name)) (found ys name)) [
      | true ↦ refl
      | false ↦ found_append xs ys name
    ]

first_assoc : {A : Type 0} (x y z : Option A) → first_of (first_of x y) z ≡ first_of x (first_of y z)
first_assoc None y z = refl
first_assoc (Some x) y z = refl

pub first_none : {A : Type 0} (x : Option A) → first_of x None ≡ x
first_none None = refl
first_none (Some x) = refl

pub word_append : (bs cs : List Block) (name : List ℕ) → word_in (bs ++ cs) name ≡ first_of (word_in bs name) (word_in cs name)
word_append [] cs name = refl
word_append (b ∷ bs) cs name = ap (first_of (found b.words name)) (word_append bs cs name) ∙ sym (first_assoc (found b.words name) (word_in bs name) (word_in cs name))

pub tag_append : (bs cs : List Block) (name : List ℕ) → tag_in (bs ++ cs) name ≡ first_of (tag_in bs name) (tag_in cs name)
tag_append [] cs name = refl
tag_append (b ∷ bs) cs name = ap (first_of (found b.tags name)) (tag_append bs cs name) ∙ sym (first_assoc (found b.tags name) (tag_in bs name) (tag_in cs name))

-- one step of a search from the last scope on
module _ (scopes : List Scope) (left : ℕ) (d : Scope) (name : List ℕ) (some : 0 < left) (within : left ≤ length scopes) where
  outermost : blocks_of (take left scopes) ≡ as_block (get_or scopes (left - 1) d) ∷ blocks_of (take (left - 1) scopes)
  outermost = let e : left ≡ (left - 1) + 1 = omega arith in ap (λ n. blocks_of (take n scopes)) e ∙ last_scope scopes (left - 1) d (omega arith)

  word_step : word_in (blocks_of (take left scopes)) name ≡ first_of (option_map as_local (found (get_or scopes (left - 1) d).words name)) (word_in (blocks_of (take (left - 1) scopes)) name)
  word_step = ap (λ bs. word_in bs name) outermost ∙ ap (λ o. first_of o (word_in (blocks_of (take (left - 1) scopes)) name)) (word_of (get_or scopes (left - 1) d) name)

  pub word_found : (l : Local) → Some l ≡ found (get_or scopes (left - 1) d).words name → word_in (blocks_of (take left scopes)) name ≡ word_in (blocks_of scopes) name → Some (as_local l) ≡ word_in (blocks_of scopes) name
  word_found l q h = sym (word_step ∙ ap (λ o. first_of (option_map as_local o) (word_in (blocks_of (take (left - 1) scopes)) name)) (sym q)) ∙ h

  pub word_passed : None ≡ found (get_or scopes (left - 1) d).words name → word_in (blocks_of (take left scopes)) name ≡ word_in (blocks_of scopes) name → word_in (blocks_of (take (left - 1) scopes)) name ≡ word_in (blocks_of scopes) name
  word_passed q h = sym (word_step ∙ ap (λ o. first_of (option_map as_local o) (word_in (blocks_of (take (left - 1) scopes)) name)) (sym q)) ∙ h

  tag_step : tag_in (blocks_of (take left scopes)) name ≡ first_of (option_map as_tag (found (get_or scopes (left - 1) d).tags name)) (tag_in (blocks_of (take (left - 1) scopes)) name)
  tag_step = ap (λ bs. tag_in bs name) outermost ∙ ap (λ o. first_of o (tag_in (blocks_of (take (left - 1) scopes)) name)) (tag_of (get_or scopes (left - 1) d) name)

  pub tag_found : (t : TagOf) → Some t ≡ found (get_or scopes (left - 1) d).tags name → tag_in (blocks_of (take left scopes)) name ≡ tag_in (blocks_of scopes) name → Some (as_tag t) ≡ tag_in (blocks_of scopes) name
  tag_found t q h = sym (tag_step ∙ ap (λ o. first_of (option_map as_tag o) (tag_in (blocks_of (take (left - 1) scopes)) name)) (sym q)) ∙ h

  pub tag_passed : None ≡ found (get_or scopes (left - 1) d).tags name → tag_in (blocks_of (take left scopes)) name ≡ tag_in (blocks_of scopes) name → tag_in (blocks_of (take (left - 1) scopes)) name ≡ tag_in (blocks_of scopes) name
  tag_passed q h = sym (tag_step ∙ ap (λ o. first_of (option_map as_tag o) (tag_in (blocks_of (take (left - 1) scopes)) name)) (sym q)) ∙ h

-- the innermost scope is the last one
top_at : (scopes : List Scope) (n : ℕ) (s : Scope) → length scopes ≡ n + 1 → Some s ≡ slice_get scopes n → blocks_of scopes ≡ as_block s ∷ blocks_of (take n scopes)
top_at scopes n s long q =
    ap blocks_of (sym (take_all (n + 1) scopes (omega arith))) ∙ last_scope scopes n s (omega arith)
    ∙ ap (λ z. as_block z ∷ blocks_of (take n scopes)) (get_or_from_slice_get scopes n s s (sym q))

top : (scopes : List Scope) (s : Scope) → Some s ≡ slice_get scopes (length scopes - 1) → blocks_of scopes ≡ as_block s ∷ blocks_of (take (length scopes - 1) scopes)
top [] s q = absurd cc
top (x ∷ xs) s q = top_at (x ∷ xs) (length (x ∷ xs) - 1) s (omega arith) q

pub word_at_top : (scopes : List Scope) (s : Scope) (name : List ℕ) → Some s ≡ slice_get scopes (length scopes - 1) → word_here (blocks_of scopes) name ≡ option_map as_local (found s.words name)
word_at_top scopes s name q = ap (λ bs. word_here bs name) (top scopes s q) ∙ word_of s name

pub tag_at_top : (scopes : List Scope) (s : Scope) (name : List ℕ) → Some s ≡ slice_get scopes (length scopes - 1) → tag_here (blocks_of scopes) name ≡ option_map as_tag (found s.tags name)
tag_at_top scopes s name q = ap (λ bs. tag_here bs name) (top scopes s q) ∙ tag_of s name

none_before : {A B : Type 0} (f : A → B) (o : Option A) → option_map f o ≡ None → o ≡ None
none_before f None q = refl
none_before f (Some x) q = absurd cc

some_scope : (scopes : List Scope) → blocks_of scopes ≢ [] → 0 < length scopes
some_scope [] n = absurd (n refl)
some_scope (x ∷ xs) n = omega arith

-- the last scope taken away
pub closed : (r : Option Scope) (old new : List Scope) → MatchOption r ((old ≡ []) × (new ≡ [])) (λ last. old ≡ new ++ last ∷ []) → blocks_of new ≡ drop 1 (blocks_of old)
closed None old new h = ap blocks_of h.1 ∙ sym (ap (λ xs. drop 1 (blocks_of xs)) h.0)
closed (Some last) old new h = sym (ap (λ xs. drop 1 (blocks_of xs)) h ∙ ap (drop 1) (put_last new last))

abbrev local_word : (List ℕ × Local) → List ℕ × Meaning
local_word w = (w.0, as_local w.1)

abbrev local_tag : (List ℕ × TagOf) → List ℕ × Tag
local_tag w = (w.0, as_tag w.1)

-- what is declared in the innermost scope
module _ (scopes : List Scope) (n : ℕ) (s : Scope) (name : List ℕ) (all : n ≡ length scopes) (inside : blocks_of scopes ≢ []) (is : s ≡ get_or scopes (n - 1) s) where
  long : (n - 1) + 1 ≡ length scopes
  long = let some = some_scope scopes inside in omega (arith, some, all)

  under : n - 1 < length scopes
  under = let l = long in omega (arith, l)

  innermost : blocks_of scopes ≡ as_block s ∷ blocks_of (take (n - 1) scopes)
  innermost =
      ap blocks_of (sym (take_all ((n - 1) + 1) scopes (let l = long in omega (arith, l)))) ∙ last_scope scopes (n - 1) s under ∙ ap (λ z. as_block z ∷ blocks_of (take (n - 1) scopes)) (sym is)

  pub new_word : word_here (blocks_of scopes) name ≡ None → found s.words name ≡ None
  new_word q = none_before as_local (found s.words name) (sym (ap (λ bs. word_here bs name) innermost ∙ word_of s name) ∙ q)

  pub new_tag : tag_here (blocks_of scopes) name ≡ None → found s.tags name ≡ None
  new_tag q = none_before as_tag (found s.tags name) (sym (ap (λ bs. tag_here bs name) innermost ∙ tag_of s name) ∙ q)

  replaced : (other : Scope) → blocks_of (slice_set scopes (n - 1) other) ≡ as_block other ∷ blocks_of (take (n - 1) scopes)
  replaced other =
      ap blocks_of (sym (take_all ((n - 1) + 1) (slice_set scopes (n - 1) other) (let l = long in let k = length-set scopes (n - 1) other in omega (arith, l, k))) ∙ take_more_set scopes (n - 1) other under)
      ∙ put_last (take (n - 1) scopes) other

  pub declared : (local : Local) (words : List (List ℕ × Local)) → words ≡ s.words ++ (name, local) ∷ [] →
      blocks_of (slice_set scopes (n - 1) (record { words = words; tags = s.tags })) ≡ within_innermost (and_word name (as_local local)) (blocks_of scopes)
  declared local words q =
      replaced (record { words = words; tags = s.tags })
      ∙ ap (λ ws. record { words = ws; tags = map local_tag s.tags } ∷ blocks_of (take (n - 1) scopes)) (ap (map local_word) q ∙ map_push local_word s.words (name, local))
      ∙ sym (ap (within_innermost (and_word name (as_local local))) innermost)

  pub declared_tag : (tag : TagOf) (tags : List (List ℕ × TagOf)) → tags ≡ s.tags ++ (name, tag) ∷ [] →
      blocks_of (slice_set scopes (n - 1) (record { words = s.words; tags = tags })) ≡ within_innermost (and_tag name (as_tag tag)) (blocks_of scopes)
  declared_tag tag tags q =
      replaced (record { words = s.words; tags = tags })
      ∙ ap (λ ts. record { words = map local_word s.words; tags = ts } ∷ blocks_of (take (n - 1) scopes)) (ap (map local_tag) q ∙ map_push local_tag s.tags (name, tag))
      ∙ sym (ap (within_innermost (and_tag name (as_tag tag))) innermost)
