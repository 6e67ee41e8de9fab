-- What is written over bytes.
use Rattle.std.proofs.Common.{◌≡◌, ◌≤◌, ◌<◌, ◌+◌, ◌*◌, ◌-◌, ◌%◌, ◌^◌, ℕ, zero, suc, List, [], ◌∷◌, ◌++◌, arith, sym, ap, refl, subst, ◌∙◌, length, take, drop, append_assoc, length-drop}
use Rattle.std.specs.Prelude.{ℤ, pos, map, set, slice_set}
use Rattle.std.specs.List.{range_with_len}
use Rattle.std.proofs.lemmas.List.{set-append_right, drop-set, drop-drop, length-take-le}
use Rattle.std.proofs.lemmas.List.Elements.{All-nil, All-cons}
use Rattle.std.proofs.lemmas.List.FromFn.{length-map-range_with_len, map-range_with_len_more}
use Rattle.po_arith.specs.Types.{AreCongruent}
use Rattle.po_ir.specs.declared.instr.Access.{Access}
use Rattle.po_memory.specs.declared.block.Block.{Block}
use Rattle.po_memory.specs.declared.block.Stretch.{Stretch}
use Rattle.po_memory.specs.declared.value.Byte.{Byte}
use Rattle.po_memory.specs.declared.value.Byte.TheVariants as byte
use Rattle.po_memory.specs.declared.value.Value.{Value}
use Rattle.po_memory.specs.declared.value.Value.TheVariants.{Number, Null, Pointer, Wild}
use Rattle.po_memory.specs.Accesses.{pasted}
use Rattle.po_memory.specs.Bytes.{AreStored, AreNumbers, joined, zeros}
use Rattle.po_memory.specs.Walking.{digit, written_byte, written_bytes, IsWordOf, IsWritten, IsStretch, IsStoredIn}
use Rattle.po_memory.proofs.General.{replicate_each}
use Rattle.po_memory.proofs.Congruent.{through, coarser, low_rest}
use Rattle.po_memory.proofs.Numbers.{digits_are, word_joined}

-- ---- one byte more

-- a byte set behind those that were written
pub set_next : {X : Type 0} (xs ys zs : List X) (start k : ℕ) (x : X) → length xs ≡ start → length ys ≡ k → 0 < length zs → slice_set (xs ++ (ys ++ zs)) (start + k) x ≡ xs ++ ((ys ++ x ∷ []) ++ drop 1 zs)
set_next xs ys zs start k x before between some =
    let outer : set (xs ++ (ys ++ zs)) (start + k) x ≡ xs ++ set (ys ++ zs) (start + k - start) x = set-append_right xs (ys ++ zs) start (start + k) x before (omega arith) in
    let back : start + k - start ≡ k = omega arith in
    let inner : set (ys ++ zs) k x ≡ ys ++ set zs (k - k) x = set-append_right ys zs k k x between (omega arith) in
    let none : k - k ≡ 0 = omega arith in
    let first : set zs 0 x ≡ x ∷ drop 1 zs = drop-set zs 0 x some in
    outer ∙ rw (back, inner, none, first, append_assoc ys (x ∷ []) (drop 1 zs)) refl

pub pasted_more : (old : List Byte) (start k : ℕ) (f : ℕ → Byte) → start + k < length old → slice_set (pasted old start (map f (range_with_len 0 k))) (start + k) (f k) ≡ pasted old start (map f (range_with_len 0 (k + 1)))
pasted_more old start k f room =
    let so_many : length (map f (range_with_len 0 k)) ≡ k = length-map-range_with_len f 0 k in
    let one_more : length (map f (range_with_len 0 (k + 1))) ≡ k + 1 = length-map-range_with_len f 0 (k + 1) in
    let before : length (take start old) ≡ start = length-take-le start old (omega arith) in
    let longer : map f (range_with_len 0 (k + 1)) ≡ map f (range_with_len 0 k) ++ f k ∷ [] = map-range_with_len_more f 0 k k (omega arith) in
    let some : 0 < length (drop (start + k) old) = let n = length-drop (start + k) old in omega arith in
    let behind : drop 1 (drop (start + k) old) ≡ drop (start + (k + 1)) old = let e : start + k + 1 ≡ start + (k + 1) = omega arith in drop-drop 1 (start + k) old ∙ ap (λ n. drop n old) e in
    let set_so : slice_set (take start old ++ (map f (range_with_len 0 k) ++ drop (start + k) old)) (start + k) (f k) ≡ take start old ++ ((map f (range_with_len 0 k) ++ f k ∷ []) ++ drop 1 (drop (start + k) old))
    = set_next (take start old) (map f (range_with_len 0 k)) (drop (start + k) old) start k (f k) before so_many some in
    let from : pasted old start (map f (range_with_len 0 k)) ≡ take start old ++ (map f (range_with_len 0 k) ++ drop (start + k) old) = ap (λ n. take start old ++ (map f (range_with_len 0 k) ++ drop (start + n) old)) so_many in
    let to : pasted old start (map f (range_with_len 0 (k + 1))) ≡ take start old ++ (map f (range_with_len 0 (k + 1)) ++ drop (start + (k + 1)) old) = ap (λ n. take start old ++ (map f (range_with_len 0 (k + 1)) ++ drop (start + n) old)) one_more in
    ap (λ xs. slice_set xs (start + k) (f k)) from ∙ (set_so ∙ (ap (λ ys. take start old ++ ((map f (range_with_len 0 k) ++ f k ∷ []) ++ ys)) behind ∙ (ap (λ ys. take start old ++ (ys ++ drop (start + (k + 1)) old)) (sym longer) ∙ sym to)))

pub written_more : (old bytes new : List Byte) (start place : ℕ) (v : Value) (word : ℕ) (b : Byte) → start ≤ place → place < length old → bytes ≡ pasted old start (written_bytes v word (place - start)) → b ≡ written_byte v word (place - start) → new ≡ set bytes place b → new ≡ pasted old start (written_bytes v word (place + 1 - start))
written_more old bytes new start place v word b sorted room are is becomes =
    let at : start + (place - start) ≡ place = omega arith in
    let up : place - start + 1 ≡ place + 1 - start = omega arith in
    let more : slice_set (pasted old start (written_bytes v word (place - start))) (start + (place - start)) (written_byte v word (place - start)) ≡ pasted old start (written_bytes v word (place - start + 1)) = pasted_more old start (place - start) (written_byte v word) (omega arith) in
    let here : slice_set (pasted old start (written_bytes v word (place - start))) place (written_byte v word (place - start)) ≡ pasted old start (written_bytes v word (place + 1 - start)) = rw (← up) (subst (λ n. slice_set (pasted old start (written_bytes v word (place - start))) n (written_byte v word (place - start)) ≡ pasted old start (written_bytes v word (place - start + 1))) at more) in
    becomes ∙ (ap (λ xs. set xs place b) are ∙ (ap (λ x. set (pasted old start (written_bytes v word (place - start))) place x) is ∙ here))

-- ---- the bytes of a value

null_bytes : (word size : ℕ) → written_bytes Null word size ≡ zeros size
null_bytes word size = replicate_each (byte.Number 0) size 0

wild_numbers : (size a : ℕ) → AreNumbers (map (λ (k : ℕ). 255) (range_with_len a size)) (map (λ (k : ℕ). byte.Number 255) (range_with_len a size))
wild_numbers zero a = record { same = refl; small = All-nil (λ n. n < 256) }
wild_numbers (suc size) a = let rest = wild_numbers size (a + 1) in record { same = ap (λ t. byte.Number 255 ∷ t) rest.same; small = All-cons (λ n. n < 256) 255 (map (λ (k : ℕ). 255) (range_with_len (a + 1) size)) (omega arith) rest.small }

number_bytes : (v : ℤ) (word size : ℕ) → size ≤ 8 → AreCongruent (2 ^ 64) v (pos word) → AreStored size (Number v) (written_bytes (Number v) word size)
number_bytes v word size few holds =
    let count = length-map-range_with_len (written_byte (Number v) word) 0 size in
    let small : AreCongruent (2 ^ (8 * size)) v (pos word) = coarser (8 * size) 64 v (pos word) (omega arith) holds in
    let rest : AreCongruent (2 ^ (8 * size)) v (pos (word % 2 ^ (8 * size))) = through (2 ^ (8 * size)) v (pos word) (pos (word % 2 ^ (8 * size))) small (low_rest word (2 ^ (8 * size))) in (
      count,
      (
        map (digit word) (range_with_len 0 size),
        digits_are word size,
        subst (λ n. AreCongruent (2 ^ (8 * n)) v (pos (joined (map (digit word) (range_with_len 0 size))))) (sym count)
            (subst (λ n. AreCongruent (2 ^ (8 * size)) v (pos n)) (sym (word_joined word size)) rest),
      ),
    )

wild_apart : (word size : ℕ) → 1 ≤ size → written_bytes Wild word size ≡ zeros size → ⊥
wild_apart word zero some same = absurd (omega arith)
wild_apart word (suc size) some same = cc

pub bytes_stored : (v : Value) (word size : ℕ) → 1 ≤ size → size ≤ 8 → IsWordOf v word → AreStored size v (written_bytes v word size)
bytes_stored (Number v) word size some few holds = number_bytes v word size few holds
bytes_stored Null word size some few holds = null_bytes word size
bytes_stored (Pointer block offset) word size some few holds = refl
bytes_stored Wild word size some few holds =
    let count = length-map-range_with_len (written_byte Wild word) 0 size in (
      count,
      record {
        numbers = map (λ (k : ℕ). 255) (range_with_len 0 size);
        are = wild_numbers size 0;
        not_null = λ same. wild_apart word size some (same ∙ ap zeros count);
      },
    )

pub stored_in : (access : Access) (o : ℤ) (v : Value) (s : Stretch) (before : Block) (bytes : List Byte) → 1 ≤ access.size → access.size ≤ 8 → IsStretch o access.size before s → IsWritten v s.start (s.end - s.start) before.bytes bytes → IsStoredIn access o v before (record before { bytes = bytes })
stored_in access o v s before bytes some few stretch written =
    let size : s.end - s.start ≡ access.size = let e = stretch.end in omega arith in
    record {
      start = s.start;
      bytes = written_bytes v written.word access.size;
      at = stretch.at;
      are = bytes_stored v written.word access.size some few written.holds;
      becomes = ap (λ (xs : List Byte). record before { bytes = xs }) (written.becomes ∙ ap (λ n. pasted before.bytes s.start (written_bytes v written.word n)) size);
    }
