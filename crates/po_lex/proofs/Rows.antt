-- A row goes on by one byte, or stops.
use Rattle.std.proofs.Common.{◌≡◌, ℕ, ◌+◌, ◌-◌, ◌<◌, ◌≤◌, true, false, List, [], ◌∷◌, ◌++◌, length, get_or, take, drop, arith, sym, ap, refl, ◌∙◌, append_assoc}
use Rattle.std.proofs.lemmas.List.{drop_more, take_more, get_or-drop, length-drop}
use Rattle.po_lex.specs.declared.row.Row.{Row}
use Rattle.po_lex.specs.Rows.{goes_on, behind, front, skip}

module _ (row : Row) (before : ℕ) (bytes : List ℕ) (end : ℕ) (in' : end < length bytes) where
  here : drop end bytes ≡ get_or bytes end 0 ∷ drop (end + 1) bytes
  here = drop_more bytes end 0 in'

  pub skip_on : goes_on row before (get_or bytes end 0) ≡ true →
      skip row before (drop end bytes) ≡ skip row (behind row before (get_or bytes end 0)) (drop (end + 1) bytes)
  skip_on g = rw (here, g) refl

  pub skip_stop : goes_on row before (get_or bytes end 0) ≡ false → skip row before (drop end bytes) ≡ drop end bytes
  skip_stop g = rw (here, g) refl

  pub front_on : goes_on row before (get_or bytes end 0) ≡ true →
      front row before (drop end bytes) ≡ get_or bytes end 0 ∷ front row (behind row before (get_or bytes end 0)) (drop (end + 1) bytes)
  front_on g = rw (here, g) refl

  pub front_stop : goes_on row before (get_or bytes end 0) ≡ false → front row before (drop end bytes) ≡ []
  front_stop g = rw (here, g) refl

-- one more byte of a part
pub one_more : (bytes : List ℕ) (at end : ℕ) → at ≤ end → end < length bytes →
    take (end + 1 - at) (drop at bytes) ≡ take (end - at) (drop at bytes) ++ (get_or bytes end 0 ∷ [])
one_more bytes at end low high =
    let n : end + 1 - at ≡ (end - at) + 1 = omega arith in
    let m : at + (end - at) ≡ end = omega arith in
    let room : end - at < length (drop at bytes) = simp length-drop (omega arith) in
    let item : get_or (drop at bytes) (end - at) 0 ≡ get_or bytes end 0 = get_or-drop at bytes (end - at) 0 ∙ ap (λ k. get_or bytes k 0) m in
    rw n (take_more (drop at bytes) (end - at) 0 room ∙ ap (λ v. take (end - at) (drop at bytes) ++ (v ∷ [])) item)

pub front_more : (row : Row) (before : ℕ) (bytes : List ℕ) (at end : ℕ) (all : List ℕ) → at ≤ end → end < length bytes →
    goes_on row before (get_or bytes end 0) ≡ true →
    take (end - at) (drop at bytes) ++ front row before (drop end bytes) ≡ all →
    take (end + 1 - at) (drop at bytes) ++ front row (behind row before (get_or bytes end 0)) (drop (end + 1) bytes) ≡ all
front_more row before bytes at end all low high g e =
    let c : ℕ = get_or bytes end 0 in
    let more : List ℕ = front row (behind row before c) (drop (end + 1) bytes) in
    rw (one_more bytes at end low high) (append_assoc (take (end - at) (drop at bytes)) (c ∷ []) more ∙ ap (λ v. take (end - at) (drop at bytes) ++ v) (sym (front_on row before bytes end high g)) ∙ e)
