-- What stands where after bytes are written over others.
use Rattle.std.proofs.Common.{◌≡◌, ◌≤◌, ◌<◌, ◌+◌, ◌-◌, ℕ, zero, suc, List, [], ◌∷◌, ◌++◌, arith, sym, ap, refl, subst, ◌∙◌, inl, inr, length, take, drop, length-append, length-drop}
use Rattle.std.specs.Prelude.{Some, map, slice_get, slice_range}
use Rattle.std.proofs.lemmas.List.{length-take-le}
use Rattle.std.proofs.lemmas.Bool.{cases_lt}
use Rattle.std.proofs.Math.Seq.{drop-append_seam}
use Rattle.std.proofs.lemmas.Option.{same_Some}
use Rattle.po_lists.proofs.Places.{first_at, taken_at, dropped_at, second_at}
use Rattle.po_memory.specs.declared.value.Byte.{Byte}
use Rattle.po_memory.specs.Accesses.{pasted}

take_front : {X : Type 0} (xs ys : List X) (n : ℕ) → length xs ≡ n → take n (xs ++ ys) ≡ xs
take_front [] ys zero size = refl
take_front [] ys (suc n) size = absurd (omega arith)
take_front (x ∷ xs) ys zero size = absurd (omega arith)
take_front (x ∷ xs) ys (suc n) size = ap (λ t. x ∷ t) (take_front xs ys n (omega arith))

-- what stands at a place of a range
pub get_range : {X : Type 0} (xs : List X) (start size i : ℕ) → i < size → slice_get (slice_range xs start (start + size)) i ≡ slice_get xs (start + i)
get_range xs start size i less =
    let count : start + size - start ≡ size = omega arith in
    ap (λ n. slice_get (take n (drop start xs)) i) count ∙ (taken_at size (drop start xs) i less ∙ dropped_at start xs i)

pub range_size : {X : Type 0} (xs : List X) (start size : ℕ) → start + size ≤ length xs → length (slice_range xs start (start + size)) ≡ size
range_size xs start size room =
    let count : start + size - start ≡ size = omega arith in
    let behind = length-drop start xs in
    ap (λ n. length (take n (drop start xs))) count ∙ length-take-le size (drop start xs) (omega arith)

pub mapped_at : {X Y : Type 0} (f : X → Y) (xs : List X) (i : ℕ) (y : Y) → slice_get (map f xs) i ≡ Some y → (x : X) × (y ≡ f x)
mapped_at f [] i y e = absurd (cc)
mapped_at f (x ∷ xs) zero y e = (x, sym (same_Some (f x) y e))
mapped_at f (x ∷ xs) (suc i) y e = mapped_at f xs i y e

module _ (old : List Byte) (start : ℕ) (bytes : List Byte) (room : start + length bytes ≤ length old) where
  before_size : length (take start old) ≡ start
  before_size = length-take-le start old (omega arith)

  pub pasted_size : length (pasted old start bytes) ≡ length old
  pasted_size =
      let b = before_size in
      let whole = length-append (take start old) (bytes ++ drop (start + length bytes) old) in
      let inner = length-append bytes (drop (start + length bytes) old) in
      let rest = length-drop (start + length bytes) old in
      omega arith

  pub pasted_before : (i : ℕ) → i < start → slice_get (pasted old start bytes) i ≡ slice_get old i
  pasted_before i less =
      let b = before_size in
      first_at (take start old) (bytes ++ drop (start + length bytes) old) i (omega arith) ∙ taken_at start old i less

  pub pasted_inside : (i : ℕ) → i < length bytes → slice_get (pasted old start bytes) (start + i) ≡ slice_get bytes i
  pasted_inside i less = second_at (take start old) (bytes ++ drop (start + length bytes) old) start i before_size ∙ first_at bytes (drop (start + length bytes) old) i less

  pub pasted_behind : (i : ℕ) → slice_get (pasted old start bytes) (start + (length bytes + i)) ≡ slice_get old (start + length bytes + i)
  pasted_behind i =
      second_at (take start old) (bytes ++ drop (start + length bytes) old) start (length bytes + i) before_size
      ∙ (second_at bytes (drop (start + length bytes) old) (length bytes) i refl ∙ dropped_at (start + length bytes) old i)

  -- what was written is read again
  pub pasted_range : (size : ℕ) → length bytes ≡ size → slice_range (pasted old start bytes) start (start + size) ≡ bytes
  pasted_range size count =
      let back : start + size - start ≡ size = omega arith in
      let behind : drop start (pasted old start bytes) ≡ bytes ++ drop (start + length bytes) old = subst (λ n. drop n (pasted old start bytes) ≡ bytes ++ drop (start + length bytes) old) before_size (drop-append_seam (take start old) (bytes ++ drop (start + length bytes) old)) in
      ap (λ n. take n (drop start (pasted old start bytes))) back ∙ (ap (take size) behind ∙ take_front bytes (drop (start + length bytes) old) size count)

  -- where no byte that was written takes a value away, none loses one
  pub pasted_keeps : (b : Byte) → ((i : ℕ) → i < length bytes → slice_get bytes i ≡ Some b → slice_get old (start + i) ≡ Some b) → (i : ℕ) → slice_get (pasted old start bytes) i ≡ Some b → slice_get old i ≡ Some b
  pasted_keeps b inside i is = elim (cases_lt i start) [
    | inl less ↦ sym (pasted_before i less) ∙ is
    | inr more ↦ elim (cases_lt (i - start) (length bytes)) [
      | inl within ↦
          let split : i ≡ start + (i - start) = omega arith in
          let here : slice_get bytes (i - start) ≡ Some b = sym (pasted_inside (i - start) within) ∙ (ap (slice_get (pasted old start bytes)) (sym split) ∙ is) in
          ap (slice_get old) split ∙ inside (i - start) within here
      | inr past ↦
          let split : i ≡ start + (length bytes + (i - start - length bytes)) = omega arith in
          let same : start + length bytes + (i - start - length bytes) ≡ i = omega arith in
          ap (slice_get old) (sym same) ∙ (sym (pasted_behind (i - start - length bytes)) ∙ (ap (slice_get (pasted old start bytes)) (sym split) ∙ is))
    ]
  ]
