-- The bytes of a word, one after the other.
use Rattle.std.proofs.Common.{◌≡◌, ℕ, ◌+◌, ◌-◌, ◌<◌, ◌≤◌, List, length, get_or, take, drop, arith, length-drop, get_or-drop}
use Rattle.std.specs.Prelude.{All}
use Rattle.std.proofs.lemmas.List.Elements.{All-more}
use Rattle.po_straight.specs.Spelling.{IsWordByte}

pub word_more : (bs : List ℕ) (at end : ℕ) → at ≤ end → end < length bs → All IsWordByte (take (end - at) (drop at bs)) →
    IsWordByte (get_or bs end 0) → All IsWordByte (take (end + 1 - at) (drop at bs))
word_more bs at end low in' h w =
    let e1 : end + 1 - at ≡ (end - at) + 1 = omega arith in
    let e2 : at + (end - at) ≡ end = omega arith in
    let lt : end - at < length (drop at bs) = simp length-drop (omega arith) in
    let v : IsWordByte (get_or (drop at bs) (end - at) 0) = rw (get_or-drop, e2) w in
    rw e1 (All-more IsWordByte (drop at bs) (end - at) 0 lt h v)
