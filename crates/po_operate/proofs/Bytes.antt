-- Bytes that are copied and written, one more at a time.
use Rattle.std.specs.Prelude.{ℕ, zero, suc, ◌+◌, ◌<◌, ◌≤◌, ◌≡◌, Some, List, [], ◌∷◌, ◌++◌, length, take, drop, set, slice_set, slice_index_or}
use Rattle.std.proofs.Common.{refl, sym, ap, subst, ◌∙◌, arith, length-drop}
use Rattle.std.proofs.lemmas.List.{drop-drop, length-take-le}
use Rattle.po_memory.specs.declared.block.Block.{Block}
use Rattle.po_memory.specs.declared.value.Byte.{Byte}
use Rattle.po_memory.specs.Accesses.{pasted}
use Rattle.po_memory.specs.Bytes.{IsCopied, AreCopied}
use Rattle.po_memory.proofs.Pasted.{range_size}
use Rattle.po_memory.proofs.WrittenBytes.{set_next}
use Rattle.po_operate.specs.Copying.{HasRoom, AreBytesAt}

same_block : (c d : Block) → Some c ≡ Some d → c ≡ d
same_block c d same = cc

pub bytes_size : (blocks : List Block) (block start size : ℕ) (bytes : List Byte) → HasRoom blocks block start size → AreBytesAt blocks block start size bytes → length bytes ≡ size
bytes_size blocks block start size bytes room are =
    let one : room.whole ≡ are.0 = same_block room.whole are.0 (sym room.there ∙ are.1) in
    ap (λ (xs : List Byte). length xs) are.2 ∙ range_size are.0.bytes start size (subst (λ (c : Block). start + size ≤ length c.bytes) one room.within)

-- one more is copied
pub copied_more : (source old bytes : List Byte) (i : ℕ) (b d e : Byte) → i < length source → i < length old → AreCopied (take i source) (take i old) bytes → IsCopied (slice_index_or source i d) (slice_index_or old i e) b →
    AreCopied (take (i + 1) source) (take (i + 1) old) (bytes ++ b ∷ [])
copied_more source old bytes i b d e inside within are is = let next : suc i ≡ i + 1 = omega arith in subst (λ (n : ℕ). AreCopied (take n source) (take n old) (bytes ++ b ∷ [])) next (at source old bytes i inside within are is)
  where
    at : (source old bytes : List Byte) (i : ℕ) → i < length source → i < length old → AreCopied (take i source) (take i old) bytes → IsCopied (slice_index_or source i d) (slice_index_or old i e) b → AreCopied (take (suc i) source) (take (suc i) old) (bytes ++ b ∷ [])
    at [] old bytes i inside within are is = absurd (omega (arith, inside))
    at (x ∷ source) [] bytes i inside within are is = absurd (omega (arith, within))
    at (x ∷ source) (y ∷ old) [] zero inside within are is = (is, tt)
    at (x ∷ source) (y ∷ old) (z ∷ bytes) zero inside within are is = absurd are
    at (x ∷ source) (y ∷ old) [] (suc i) inside within are is = absurd are
    at (x ∷ source) (y ∷ old) (z ∷ bytes) (suc i) inside within are is = (are.0, at source old bytes i (omega (arith, inside)) (omega (arith, within)) are.1 is)

take_more : {X : Type 0} (xs : List X) (i : ℕ) (d : X) → i < length xs → take (suc i) xs ≡ take i xs ++ slice_index_or xs i d ∷ []
take_more [] i d inside = absurd (omega (arith, inside))
take_more (x ∷ xs) zero d inside = refl
take_more (x ∷ xs) (suc i) d inside = ap (λ (ys : List _). x ∷ ys) (take_more xs i d (omega (arith, inside)))

-- one more is written
pub pasted_next : (old new now : List Byte) (start i : ℕ) (d : Byte) → i < length new → start + length new ≤ length old → now ≡ pasted old start (take i new) → set now (start + i) (slice_index_or new i d) ≡ pasted old start (take (i + 1) new)
pasted_next old new now start i d inside room is =
    let b : Byte = slice_index_or new i d in
    let so_many : length (take i new) ≡ i = length-take-le i new (omega (arith, inside)) in
    let next : suc i ≡ i + 1 = omega arith in
    let more : take (i + 1) new ≡ take i new ++ b ∷ [] = ap (λ (n : ℕ). take n new) (sym next) ∙ take_more new i d inside in
    let before : length (take start old) ≡ start = length-take-le start old (omega (arith, room)) in
    let some : 0 < length (drop (start + i) old) = let n = length-drop (start + i) old in omega (arith, n, room, inside) in
    let up : start + i + 1 ≡ start + (i + 1) = omega arith in
    let behind : drop 1 (drop (start + i) old) ≡ drop (start + (i + 1)) old = drop-drop 1 (start + i) old ∙ ap (λ (n : ℕ). drop n old) up in
    let one_more : length (take (i + 1) new) ≡ i + 1 = length-take-le (i + 1) new (omega (arith, inside)) in
    let from : now ≡ take start old ++ (take i new ++ drop (start + i) old) = is ∙ ap (λ (n : ℕ). take start old ++ (take i new ++ drop (start + n) old)) so_many in
    let to : pasted old start (take (i + 1) new) ≡ take start old ++ (take (i + 1) new ++ drop (start + (i + 1)) old) = ap (λ (n : ℕ). take start old ++ (take (i + 1) new ++ drop (start + n) old)) one_more in
    let written : slice_set (take start old ++ (take i new ++ drop (start + i) old)) (start + i) b ≡ take start old ++ ((take i new ++ b ∷ []) ++ drop 1 (drop (start + i) old)) = set_next (take start old) (take i new) (drop (start + i) old) start i b before so_many some in
    ap (λ (xs : List Byte). set xs (start + i) b) from
    ∙ (written ∙ (ap (λ (ys : List Byte). take start old ++ ((take i new ++ b ∷ []) ++ ys)) behind ∙ (ap (λ (ys : List Byte). take start old ++ (ys ++ drop (start + (i + 1)) old)) (sym more) ∙ sym to)))
