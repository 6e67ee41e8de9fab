-- A text among those of a table's rows.
use Rattle.std.proofs.Common.{◌≡◌, ℕ, ◌<◌, List, length, get_or, map, ap, ◌∙◌, true}
use Rattle.std.specs.Prelude.{Contains}
use Rattle.std.specs.Str.{bytes_eq}
use Rattle.std.proofs.lemmas.List.{length-map, get_or-map}
use Rattle.std.proofs.lemmas.Slice.Eq.{bytes_eq-Decides}

-- the row whose text was found the same, with what it says
pub is_row : {R V : Type 0} (now : R → List ℕ) (says : R → V) (rows : List R) (text : List ℕ) (i : ℕ) (d : R) → i < length rows → bytes_eq (now (get_or rows i d)) text ≡ true →
    Contains {X = List ℕ × V} (map (λ r. (now r, says r)) rows) (text, says (get_or rows i d))
is_row now says rows text i d in' same =
    let here : i < length (map (λ r. (now r, says r)) rows) = simp length-map in' in
    let own : now (get_or rows i d) ≡ text = (bytes_eq-Decides (now (get_or rows i d)) text).0 same in
    (i, here, get_or-map (λ r. (now r, says r)) rows i d (text, says (get_or rows i d)) in' ∙ ap (λ t. (t, says (get_or rows i d))) own)
