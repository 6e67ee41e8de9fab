-- A text among words that are compared one after the other.
use Rattle.std.proofs.Common.{◌≡◌, ℕ, ◌<◌, ◌≤◌, List, [], ◌++◌, length, get_or, map, arith, sym, ◌∙◌, Bool, true, false, inl, inr, ◌↔◌, IsTrue}
use Rattle.std.specs.Prelude.{Contains}
use Rattle.std.specs.Str.{bytes_eq}
use Rattle.std.proofs.lemmas.List.{length-map, get_or-map, get_or_default}
use Rattle.std.proofs.lemmas.List.Elements.{Contains-append_cases, Contains-append_right}
use Rattle.std.proofs.lemmas.Slice.Eq.{bytes_eq-Decides}

module _ {W : Type 0} (now : W → List ℕ) (words : List W) (text : List ℕ) where
  -- a word that was found the same is among them
  pub is_there : (i : ℕ) (d : W) → i < length words → bytes_eq (now (get_or words i d)) text ≡ true → Contains (map now words) text
  is_there i d in' same =
      let here : i < length (map now words) = simp length-map in' in
      (i, here, get_or-map now words i d text in' ∙ (bytes_eq-Decides (now (get_or words i d)) text).0 same)

  -- a word that was found to differ is another
  pub is_other : (i : ℕ) (d : W) → i < length words → bytes_eq (now (get_or words i d)) text ≡ false → get_or (map now words) i [] ≡ text → ⊥
  is_other i d in' differ same =
      let e : bytes_eq (now (get_or words i d)) text ≡ true =
      (bytes_eq-Decides (now (get_or words i d)) text).1 (sym (get_or-map now words i d [] in') ∙ same) in cc

  -- a text that differs from each word is none of them
  pub is_nowhere : (i : ℕ) → length words ≤ i → ((k : ℕ) → k < i → get_or (map now words) k [] ≡ text → ⊥) → Contains (map now words) text → ⊥
  is_nowhere i all none (k, in', same) =
      let l : length (map now words) ≡ length words = length-map words now in
      none k (omega arith) (get_or_default (map now words) k [] text in' ∙ same)

-- where a text is none of the first words, the test on the others decides
pub behind : (words more : List (List ℕ)) (text : List ℕ) (found : Bool) → (Contains words text → ⊥) → (IsTrue found ↔ Contains more text) →
    IsTrue found ↔ Contains (words ++ more) text
behind words more text found none test = (
  (λ f. Contains-append_right words more text (test.0 f)),
  (λ h. elim (Contains-append_cases words more text h) [ inl first ↦ absurd (none first) | inr last ↦ test.1 last ]),
)
