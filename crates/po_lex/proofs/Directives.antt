-- Steps over a line of the preprocessor.
use Rattle.std.proofs.Common.{◌≡◌, ℕ, ◌+◌, ◌*◌, ◌-◌, ◌^◌, ◌<◌, ◌≤◌, Bool, true, false, cond, leb, List, [], ◌∷◌, length, get_or, drop, arith, sym, ap, refl, ◌∙◌, inl, inr, rules, tests}
use Rattle.std.specs.Prelude.{min, Some, None, ◌⊎◌, ◌==◌, ◌||◌}
use Rattle.std.specs.List.{list_any}
use Rattle.std.proofs.lemmas.List.{drop_more, drop_all, drop-drop}
use Rattle.std.specs.Prelude.{Result, Ok, Err, MatchResult, is_ok, IsUtf8}
use Rattle.std.proofs.lemmas.Bool.{cases_lt}
use Rattle.std.specs.Str.{is_utf8}
use Rattle.std.proofs.lemmas.Str.{is_utf8-from_IsUtf8, IsUtf8-from_is_utf8}
use Rattle.po_lex.specs.Bytes.{is_digit}
use Rattle.po_lex.specs.Rows.{front, skip}
use Rattle.po_lex.specs.Directives.{is_end, begins_quote, value, plain, unquoted, name_of, named}
use Rattle.po_lex.specs.declared.row.Row.{Row}
use Rattle.po_lex.specs.declared.row.Row.TheVariants as r
use Rattle.po_lex.specs.declared.effect.Effect.TheVariants as e

pub is_end_drop : (xs : List ℕ) (at : ℕ) (b : Bool) → leb (length xs) at ≡ b → (length xs ≤ at) ⊎ (at < length xs) → b ≡ is_end (drop at xs)
is_end_drop xs at b q (inl h) =
    let t : leb (length xs) at ≡ true = search (rules, tests) in rw (drop_all at xs h) (sym q ∙ t)
is_end_drop xs at b q (inr h) =
    let t : leb (length xs) at ≡ false = search (rules, tests) in rw (drop_more xs at 0 h) (sym q ∙ t)

-- the digits that are left only make a number greater
value_grows : (n : ℕ) (xs : List ℕ) → n ≤ value n xs
value_grows n [] = omega arith
value_grows n (c ∷ cs) =
    elim (is_digit c) as (λ b. n ≤ cond b (value (10 * n + (c - 48)) cs) n) [
      | true ↦ (let h = value_grows (10 * n + (c - 48)) cs in omega (arith, h))
      | false ↦ omega arith
    ]

pub value_capped : (x : ℕ) (xs : List ℕ) → (x ≤ 2 ^ 31) ⊎ (2 ^ 31 < x) → min (2 ^ 31) (value (min (2 ^ 31) x) xs) ≡ min (2 ^ 31) (value x xs)
value_capped x xs (inl h) = let q : min (2 ^ 31) x ≡ x = omega arith in rw q refl
value_capped x xs (inr h) =
    let q : min (2 ^ 31) x ≡ 2 ^ 31 = omega arith in
    let a = value_grows (2 ^ 31) xs in
    let b = value_grows x xs in
    rw q (omega (arith, a, b))

pub value_more : (n : ℕ) (line : List ℕ) (end : ℕ) → end < length line → is_digit (get_or line end 0) ≡ true →
    value n (drop end line) ≡ value (10 * n + (get_or line end 0 - 48)) (drop (end + 1) line)
value_more n line end in' d = rw (drop_more line end 0 in', d) refl

module _ (tail : Row) (n : ℕ) (xs u : List ℕ) (open' : begins_quote xs ≡ true) (left : unquoted xs ≡ u) where
  pub unclosed : begins_quote u ≡ false → None ≡ named tail n xs
  unclosed q = rw (open', left, q) refl

  pub followed : (v : List ℕ) → begins_quote u ≡ true → skip tail 0 (drop 1 u) ≡ v → is_end v ≡ false → None ≡ named tail n xs
  followed v q w h = rw (open', left, q, w, h) refl

  pub named_so : (v name : List ℕ) → begins_quote u ≡ true → skip tail 0 (drop 1 u) ≡ v → is_end v ≡ true → name ≡ name_of xs → Some (e.Named n name) ≡ named tail n xs
  named_so v name q w h g = rw (open', left, q, w, h, g) refl

pub unquoted_at : (line : List ℕ) (at : ℕ) (u : List ℕ) → u ≡ skip (r.Literal 34) 0 (drop (at + 1) line) → unquoted (drop at line) ≡ u
unquoted_at line at u q =
    let d : drop 1 (drop at line) ≡ drop (at + 1) line = drop-drop 1 at line in ap (skip (r.Literal 34) 0) d ∙ sym q

pub name_at : (line : List ℕ) (at : ℕ) (w : List ℕ) → w ≡ front (r.Literal 34) 0 (drop (at + 1) line) → plain false w ≡ name_of (drop at line)
name_at line at w q =
    let d : drop 1 (drop at line) ≡ drop (at + 1) line = drop-drop 1 at line in ap (plain false) (q ∙ ap (front (r.Literal 34) 0) (sym d))

-- what the test of UTF-8 answers
pub utf8_told : {T E : Type 0} (r : Result T E) (A : T → Type 0) (B : E → Type 0) (bytes : List ℕ) →
    MatchResult r (λ s. A s × IsUtf8 bytes) (λ e. (IsUtf8 bytes → ⊥) × B e) → is_ok r ≡ is_utf8 bytes
utf8_told (Ok s) A B bytes h = sym (is_utf8-from_IsUtf8 bytes h.1)
utf8_told (Err e) A B bytes h =
    elim (is_utf8 bytes) as (λ b. is_utf8 bytes ≡ b → false ≡ b) [
      | true ↦ (λ t. absurd (h.0 (IsUtf8-from_is_utf8 bytes t)))
      | false ↦ (λ t. refl)
    ] refl

pub end_told : (xs : List ℕ) (at : ℕ) → leb (length xs) at ≡ is_end (drop at xs)
end_told xs at = elim (cases_lt at (length xs)) as (λ _. leb (length xs) at ≡ is_end (drop at xs)) [
  | inl h ↦ is_end_drop xs at (leb (length xs) at) refl (inr h)
  | inr h ↦ is_end_drop xs at (leb (length xs) at) refl (inl h)
]

pub number_more : (n m : ℕ) (line : List ℕ) (at end : ℕ) → end < length line → is_digit (get_or line end 0) ≡ true →
    m ≡ min (2 ^ 31) (10 * n + (get_or line end 0 - 48)) → min (2 ^ 31) (value n (drop end line)) ≡ min (2 ^ 31) (value 0 (drop at line)) →
    min (2 ^ 31) (value m (drop (end + 1) line)) ≡ min (2 ^ 31) (value 0 (drop at line))
number_more n m line at end in' d q h =
    let x : ℕ = 10 * n + (get_or line end 0 - 48) in
    let rest : List ℕ = drop (end + 1) line in
    let capped : min (2 ^ 31) (value (min (2 ^ 31) x) rest) ≡ min (2 ^ 31) (value x rest) =
    elim (cases_lt (2 ^ 31) x) as (λ _. min (2 ^ 31) (value (min (2 ^ 31) x) rest) ≡ min (2 ^ 31) (value x rest)) [
      | inl k ↦ value_capped x rest (inr k)
      | inr k ↦ value_capped x rest (inl k)
    ] in
    rw q (capped ∙ ap (min (2 ^ 31)) (sym (value_more n line end in' d)) ∙ h)

pub tail_at : (tail : Row) (line : List ℕ) (close : ℕ) (v : List ℕ) → v ≡ skip tail 0 (drop (close + 1) line) → skip tail 0 (drop 1 (drop close line)) ≡ v
tail_at tail line close v q =
    let d : drop 1 (drop close line) ≡ drop (close + 1) line = drop-drop 1 close line in ap (skip tail 0) d ∙ sym q

-- a name without a backslash is as it is written
pub unescaped : (xs : List ℕ) → list_any (λ c. c == 92) xs ≡ false → plain false xs ≡ xs
unescaped [] q = refl
unescaped (c ∷ cs) q =
    elim (c == 92) as (λ b. (b || list_any (λ c. c == 92) cs) ≡ false → cond b (plain true cs) (c ∷ plain false cs) ≡ c ∷ cs) [
      | true ↦ (λ h. absurd (cc))
      | false ↦ (λ h. ap (λ v. c ∷ v) (unescaped cs h))
    ] q
