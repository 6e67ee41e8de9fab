-- A word among words that are compared one after the other.
use Rattle.std.proofs.Common.{◌≡◌, ℕ, ◌<◌, ◌≤◌, List, [], length, get_or, map, arith, sym, ◌∙◌, true, false}
use Rattle.std.specs.Prelude.{Contains}
use Rattle.std.specs.Str.{bytes_eq}
use Rattle.std.proofs.lemmas.List.{length-map, get_or-map, get_or_default}
use Rattle.std.proofs.lemmas.Slice.Eq.{bytes_eq-Decides}

module _ {W : Type 0} (now : W → List ℕ) (words : List W) (word : List ℕ) where
  pub is_there : (i : ℕ) (d : W) → i < length words → bytes_eq (now (get_or words i d)) word ≡ true → Contains (map now words) word
  is_there i d in' same =
      let here : i < length (map now words) = simp length-map in' in
      (i, here, get_or-map now words i d word in' ∙ (bytes_eq-Decides (now (get_or words i d)) word).0 same)

  pub is_other : (i : ℕ) (d : W) → i < length words → bytes_eq (now (get_or words i d)) word ≡ false → get_or (map now words) i [] ≡ word → ⊥
  is_other i d in' differ same =
      let e : bytes_eq (now (get_or words i d)) word ≡ true =
      (bytes_eq-Decides (now (get_or words i d)) word).1 (sym (get_or-map now words i d [] in') ∙ same) in cc

  pub is_nowhere : (i : ℕ) → length words ≤ i → ((k : ℕ) → k < i → get_or (map now words) k [] ≡ word → ⊥) → Contains (map now words) word → ⊥
  is_nowhere i all none (k, in', same) =
      let l : length (map now words) ≡ length words = length-map words now in
      none k (omega arith) (get_or_default (map now words) k [] word in' ∙ same)
