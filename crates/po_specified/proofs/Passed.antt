-- Lists that are walked through, one item after the other.
use Rattle.std.proofs.Common.{◌≡◌, ℕ, ◌+◌, ◌<◌, ◌≤◌, List, [], length, get_or, map, take, sym, ap, ◌∙◌, subst, true, false, arith}
use Rattle.std.specs.Prelude.{All, Contains}
use Rattle.std.specs.Str.{bytes_eq}
use Rattle.std.proofs.lemmas.List.{take_all, length-map, get_or-map, get_or_default}
use Rattle.std.proofs.lemmas.List.Elements.{All-more}
use Rattle.std.proofs.lemmas.Slice.Eq.{bytes_eq-Decides}

module _ {X : Type 0} (P : X → Type 0) (xs : List X) (i : ℕ) where
  pub one_more : (x : X) → i < length xs → x ≡ get_or xs i x → All P (take i xs) → P x → All P (take (i + 1) xs)
  one_more x in' is all p = All-more P xs i x in' all (subst P is p)

  pub all_passed : length xs ≤ i → All P (take i xs) → All P xs
  all_passed past all = subst (All P) (take_all i xs past) all

  pub of_item : (x : X) → i < length xs → x ≡ get_or xs i x → All P xs → P x
  of_item x in' is all = subst P (sym is) (all i x in')

pub contains_item : {X : Type 0} (xs : List X) (i : ℕ) (x y : X) → i < length xs → x ≡ get_or xs i x → x ≡ y → Contains xs y
contains_item xs i x y in' is same = (i, in', get_or_default xs i y x in' ∙ sym is ∙ same)

-- texts that are compared one after the other
module _ {W : Type 0} (now : W → List ℕ) (words : List W) (text : List ℕ) where
  pub is_there : (i : ℕ) (d : W) → i < length words → bytes_eq (now (get_or words i d)) text ≡ true → Contains (map now words) text
  is_there i d in' same =
      let here : i < length (map now words) = simp length-map in' in
      (i, here, get_or-map now words i d text in' ∙ (bytes_eq-Decides (now (get_or words i d)) text).0 same)

  pub is_other : (i : ℕ) (d : W) → i < length words → bytes_eq (now (get_or words i d)) text ≡ false → get_or (map now words) i [] ≡ text → ⊥
  is_other i d in' differ same =
      let e : bytes_eq (now (get_or words i d)) text ≡ true =
      (bytes_eq-Decides (now (get_or words i d)) text).1 (sym (get_or-map now words i d [] in') ∙ same) in cc

  pub is_nowhere : (i : ℕ) → length words ≤ i → ((k : ℕ) → k < i → get_or (map now words) k [] ≡ text → ⊥) → Contains (map now words) text → ⊥
  is_nowhere i all none (k, in', same) =
      let l : length (map now words) ≡ length words = length-map words now in
      none k (omega arith) (get_or_default (map now words) k [] text in' ∙ same)

-- the row of a table whose text was found the same
pub is_row : {R V : Type 0} (now : R → List ℕ) (says : R → V) (rows : List R) (text : List ℕ) (i : ℕ) (d : R) → i < length rows → bytes_eq (now (get_or rows i d)) text ≡ true →
    Contains {X = List ℕ × V} (map (λ r. (now r, says r)) rows) (text, says (get_or rows i d))
is_row now says rows text i d in' same =
    let here : i < length (map (λ r. (now r, says r)) rows) = simp length-map in' in
    let own : now (get_or rows i d) ≡ text = (bytes_eq-Decides (now (get_or rows i d)) text).0 same in
    (i, here, get_or-map (λ r. (now r, says r)) rows i d (text, says (get_or rows i d)) in' ∙ ap (λ t. (t, says (get_or rows i d))) own)

-- what holds of each text
module _ {W : Type 0} (P : List ℕ → Type 0) (now : W → List ℕ) (words : List W) (i : ℕ) where
  pub of_text : (d : W) → i < length words → P (now (get_or words i d)) → P (get_or (map now words) i [])
  of_text d in' p = subst P (sym (get_or-map now words i d [] in')) p

  pub of_all : length words ≤ i → ((k : ℕ) → k < i → P (get_or (map now words) k [])) → (text : List ℕ) → Contains (map now words) text → P text
  of_all past each text (k, in', same) =
      let l : length (map now words) ≡ length words = length-map words now in
      subst P (get_or_default (map now words) k [] text in' ∙ same) (each k (omega arith))

  pub at_text : (d : W) → i < length words → ((text : List ℕ) → Contains (map now words) text → P text) → P (now (get_or words i d))
  at_text d in' all =
      let here : i < length (map now words) = simp length-map in' in
      all (now (get_or words i d)) (i, here, get_or-map now words i d (now (get_or words i d)) in')
