-- There are values, bytes and blocks of which a step can choose.
use Rattle.std.specs.Prelude.{ℕ, suc, ◌+◌, ◌*◌, ◌^◌, ◌≡◌, ◌≢◌, ◌≤◌, ◌<◌, ◌⊎◌, true, false, not, int_le, Bool, ℤ, pos, negsuc, ◌-ℤ◌, ◌≤ℤ◌, List, [], ◌∷◌, Option, Some, None, length, map, slice_get, slice_set, slice_range}
use Rattle.std.specs.Int.{int_rem_euclid}
use Rattle.std.specs.Ordering.{int_eq}
use Rattle.std.specs.List.{range_with_len}
use Rattle.std.proofs.Common.{refl, sym, ap, ◌∙◌, subst, arith, inl, inr}
use Rattle.std.proofs.lemmas.Int.{ints}
use Rattle.std.proofs.lemmas.Bool.{cases_lt}
use Rattle.std.proofs.lemmas.List.{length-set}
use Rattle.std.proofs.lemmas.List.Elements.{All-head, All-tail}
use Rattle.po_lists.proofs.Places.{item_at}
use Rattle.po_base.specs.declared.operators.Op.{Op}
use Rattle.po_base.specs.declared.operators.Op.TheVariants as op
use Rattle.po_arith.specs.declared.int_type.IntType.{IntType}
use Rattle.po_arith.specs.Types.{IsIntType, IsWrapped, AreCongruent, greatest}
use Rattle.po_arith.proofs.Comparing.{le_tells, le_false}
use Rattle.po_arith.proofs.Wrapped.{rest_is_low, rest_is_congruent, wrapped_low, wrapped_high}
use Rattle.po_ir.specs.declared.instr.Access.{Access}
use Rattle.po_ir.specs.declared.instr.Ty.{Ty}
use Rattle.po_ir.specs.declared.instr.Ty.TheVariants.{Int, Ptr}
use Rattle.po_ir.specs.Types.{is_comparison}
use Rattle.po_memory.specs.declared.block.Block.{Block}
use Rattle.po_memory.specs.declared.value.Byte.{Byte}
use Rattle.po_memory.specs.declared.value.Byte.TheVariants as byte
use Rattle.po_memory.specs.declared.value.Value.{Value}
use Rattle.po_memory.specs.declared.value.Value.TheVariants.{Number, Null, Pointer, Wild}
use Rattle.po_memory.specs.Accesses.{PointsInto, Reads, Writes, Kills, killed, overwritten}
use Rattle.po_memory.specs.Blocks.{IsNotNull, IsLive, Spans, IntoOne, OnBlock, OnPointer}
use Rattle.po_memory.specs.Bytes.{AreNumbers, AreRead, AreStored, IsCopied, AreCopied, IsPointerRead, IsAccess, IsTypeOfTarget, HasSize, LiesIn, zeros, parts}
use Rattle.po_memory.specs.Walking.{AreNoNumbers, AreJoined, IsWordOf, written_bytes}
use Rattle.po_memory.proofs.Numbers.{none_joined, one_joined}
use Rattle.po_memory.proofs.ReadBytes.{access_size, chosen, chosen_none, may_be_read}
use Rattle.po_memory.proofs.WrittenBytes.{bytes_stored}
use Rattle.po_meaning.specs.Pointers.{compares, MayEqual, MayOrder, MayCompare}
use Rattle.po_meaning.specs.Steps.{KillsAll}
use Rattle.po_meaning.proofs.Places.{same_or_not}

-- ---- numbers

pub wrapped_some : (t : IntType) (v : ℤ) → IsIntType t → (w : ℤ) × IsWrapped t v w
wrapped_some t v is = by (int_le (int_rem_euclid v (pos (2 ^ t.bits))) (greatest t)) refl
  where
    by : (b : Bool) → int_le (int_rem_euclid v (pos (2 ^ t.bits))) (greatest t) ≡ b → (w : ℤ) × IsWrapped t v w
    by true low = (int_rem_euclid v (pos (2 ^ t.bits)), wrapped_low t v _ (pos (2 ^ t.bits)) (greatest t) is refl refl refl (le_tells _ _ low))
    by false high = (int_rem_euclid v (pos (2 ^ t.bits)) -ℤ pos (2 ^ t.bits), wrapped_high t v _ (pos (2 ^ t.bits)) (greatest t) is refl refl refl (le_false _ _ high))

-- ---- pointers

equal_some : (v w : Value) → LiesIn Ptr v → LiesIn Ptr w → (b : Bool) × MayEqual v w b
equal_some (Number n) w one other = absurd one
equal_some Null (Number n) one other = absurd other
equal_some Null Null one other = (true, refl)
equal_some Null (Pointer block offset) one other = (false, refl)
equal_some Null Wild one other = (false, refl)
equal_some (Pointer block offset) (Number n) one other = absurd other
equal_some (Pointer block offset) Null one other = (false, refl)
equal_some (Pointer block offset) (Pointer b place) one other = (int_eq offset place, λ same. refl)
equal_some (Pointer block offset) Wild one other = (true, tt)
equal_some Wild (Number n) one other = absurd other
equal_some Wild Null one other = (false, refl)
equal_some Wild (Pointer block offset) one other = (true, tt)
equal_some Wild Wild one other = (true, tt)

twice : (b : Bool) → b ≡ not (not b)
twice true = refl
twice false = refl

-- two pointers into one block
pub record InOne (v w : Value) : Type 0 where
  pub block : ℕ
  pub first : ℤ
  pub second : ℤ
  pub one : v ≡ Pointer block first
  pub other : w ≡ Pointer block second

pub in_one : (m : List Block) (v w : Value) → IsNotNull v → IsNotNull w → OnPointer IsLive m v → OnPointer IsLive m w → IntoOne v w → InOne v w
in_one m (Number n) w one other live alive same = absurd one
in_one m Null w one other live alive same = absurd one
in_one m Wild w one other live alive same = absurd live
in_one m (Pointer block offset) (Number n) one other live alive same = absurd other
in_one m (Pointer block offset) Null one other live alive same = absurd other
in_one m (Pointer block offset) Wild one other live alive same = absurd alive
in_one m (Pointer block offset) (Pointer b place) one other live alive same = record { block = block; first = offset; second = place; one = refl; other = ap (λ (k : ℕ). Pointer k place) (sym same) }

order_some : (o : Op) (v w : Value) → InOne v w → (b : Bool) × MayOrder o v w b
order_some o v w in' =
    (compares o in'.first in'.second, subst (λ (x : Value). MayOrder o x w (compares o in'.first in'.second)) (sym in'.one) (subst (λ (y : Value). MayOrder o (Pointer in'.block in'.first) y (compares o in'.first in'.second)) (sym in'.other) (refl, refl)))

abbrev pub IsOrder : Op → Type 0
IsOrder op.Lt = Unit {0}
IsOrder op.Le = Unit {0}
IsOrder op.Gt = Unit {0}
IsOrder op.Ge = Unit {0}
IsOrder o = ⊥

pub compare_some : (o : Op) (v w : Value) → is_comparison o ≡ true → LiesIn Ptr v → LiesIn Ptr w → (IsOrder o → InOne v w) → (b : Bool) × MayCompare o v w b
compare_some op.Add v w is one other into = absurd (cc)
compare_some op.Sub v w is one other into = absurd (cc)
compare_some op.Mul v w is one other into = absurd (cc)
compare_some op.Div v w is one other into = absurd (cc)
compare_some op.Rem v w is one other into = absurd (cc)
compare_some op.And v w is one other into = absurd (cc)
compare_some op.Or v w is one other into = absurd (cc)
compare_some op.Xor v w is one other into = absurd (cc)
compare_some op.Shl v w is one other into = absurd (cc)
compare_some op.Shr v w is one other into = absurd (cc)
compare_some op.Eq v w is one other into = equal_some v w one other
compare_some op.Ne v w is one other into = let found = equal_some v w one other in (not found.0, subst (MayEqual v w) (twice found.0) found.1)
compare_some op.Lt v w is one other into = order_some op.Lt v w (into tt)
compare_some op.Le v w is one other into = order_some op.Le v w (into tt)
compare_some op.Gt v w is one other into = order_some op.Gt v w (into tt)
compare_some op.Ge v w is one other into = order_some op.Ge v w (into tt)

-- ---- places of blocks

pub record Located (m : List Block) (v : Value) (size : ℕ) : Type 0 where
  pub block : ℕ
  pub start : ℕ
  pub whole : Block
  pub points : PointsInto m v block start whole

start_of : (block : ℕ) (offset : ℤ) (m : List Block) (size : ℕ) (c : Block) → slice_get m block ≡ Some c → Spans (pos 0) (pos size) offset c → Located m (Pointer block offset) size
start_of block (pos n) m size c there spans = record { block = block; start = n; whole = c; points = record { pointer = refl; there = there } }
start_of block (negsuc n) m size c there spans = let low = spans.0.0 in absurd (omega (arith, ints))

pub located : (m : List Block) (v : Value) (size : ℕ) → IsNotNull v → OnPointer (Spans (pos 0) (pos size)) m v → Located m v size
located m (Number n) size some spans = absurd some
located m Null size some spans = absurd some
located m Wild size some spans = absurd spans
located m (Pointer block offset) size some spans = by (slice_get m block) refl
  where
    by : (o : Option Block) → slice_get m block ≡ o → Located m (Pointer block offset) size
    by None there = absurd (subst (OnBlock (Spans (pos 0) (pos size)) offset) there spans)
    by (Some c) there = start_of block offset m size c there (subst (OnBlock (Spans (pos 0) (pos size)) offset) there spans)

pub read_some : (m : List Block) (v : Value) (size : ℕ) → Located m v size → (bytes : List Byte) × Reads m v size bytes
read_some m v size at = (slice_range at.whole.bytes at.start (at.start + size), record { block = at.block; start = at.start; whole = at.whole; points = at.points; same = refl })

pub write_some : (m : List Block) (v : Value) (size : ℕ) (bytes : List Byte) → Located m v size → (after : List Block) × Writes m v bytes after
write_some m v size bytes at = (slice_set m at.block (overwritten at.whole at.start bytes), record { block = at.block; start = at.start; whole = at.whole; points = at.points; becomes = refl })

-- ---- loads

joined_or : (bytes : List Byte) → ((sum : ℕ) × AreJoined bytes sum) ⊎ AreNoNumbers bytes
joined_or [] = inl (0, none_joined [])
joined_or (byte.Blank ∷ bytes) = inr none
  where
    none : AreNoNumbers (byte.Blank ∷ bytes)
    none [] are = let clash = are.same in absurd (cc)
    none (n ∷ numbers) are = let clash = are.same in absurd (cc)
joined_or (byte.Part block offset k ∷ bytes) = inr none
  where
    none : AreNoNumbers (byte.Part block offset k ∷ bytes)
    none [] are = let clash = are.same in absurd (cc)
    none (n ∷ numbers) are = let clash = are.same in absurd (cc)
joined_or (byte.Number n ∷ bytes) = by (cases_lt n 256) (joined_or bytes)
  where
    first_of : (k : ℕ) (rest : List Byte) (numbers : List ℕ) → AreNumbers numbers (byte.Number k ∷ rest) → (k < 256) × ((others : List ℕ) × AreNumbers others rest)
    first_of k rest [] are = let clash = are.same in absurd (cc)
    first_of k rest (j ∷ numbers) are =
        let whole = are.same in
        let same : j ≡ k = cc in
        let tail : rest ≡ map byte.Number numbers = cc in
        (subst (λ (x : ℕ). x < 256) same (All-head (λ x. x < 256) j numbers are.small), (numbers, record { same = tail; small = All-tail (λ x. x < 256) j numbers are.small }))

    by : (n < 256) ⊎ (256 ≤ n) → ((sum : ℕ) × AreJoined bytes sum) ⊎ AreNoNumbers bytes → ((sum : ℕ) × AreJoined (byte.Number n ∷ bytes) sum) ⊎ AreNoNumbers (byte.Number n ∷ bytes)
    by (inr large) rest = inr (λ numbers are. let less = (first_of n bytes numbers are).0 in absurd (omega (arith, less, large)))
    by (inl small) (inl (sum, joined)) = inl (sum * 256 + n, one_joined (byte.Number n ∷ bytes) 0 n sum refl small joined)
    by (inl small) (inr none) = inr (λ numbers are. let found = first_of n bytes numbers are in none found.1.0 found.1.1)

number_read : (t : IntType) (bytes : List Byte) → IsIntType t → t.bits ≤ 8 * length bytes → (v : Value) × AreRead (Int t) bytes v
number_read t bytes is wide = by (joined_or bytes)
  where
    by : ((sum : ℕ) × AreJoined bytes sum) ⊎ AreNoNumbers bytes → (v : Value) × AreRead (Int t) bytes v
    by (inl (sum, joined)) = let found = wrapped_some t (pos sum) is in (Number found.0, may_be_read t bytes found.0 is wide (chosen t bytes sum found.0 joined found.1))
    by (inr none) = (Number (pos 0), may_be_read t bytes (pos 0) is wide (chosen_none t bytes is none))

abbrev IsDecided : Type 0 → Type 0
IsDecided P = P ⊎ (P → ⊥)

whole_same : (v w : ℤ) → IsDecided (v ≡ w)
whole_same (pos n) (pos m) = by (same_or_not n m)
  where
    by : (n ≡ m) ⊎ (n ≢ m) → IsDecided (pos n ≡ pos m)
    by (inl same) = inl (ap pos same)
    by (inr other) = inr (λ same. other (omega (arith, ints, same)))
whole_same (pos n) (negsuc m) = inr (λ same. absurd (cc))
whole_same (negsuc n) (pos m) = inr (λ same. absurd (cc))
whole_same (negsuc n) (negsuc m) = by (same_or_not n m)
  where
    by : (n ≡ m) ⊎ (n ≢ m) → IsDecided (negsuc n ≡ negsuc m)
    by (inl same) = inl (ap negsuc same)
    by (inr other) = inr (λ same. other (omega (arith, ints, same)))

byte_same : (a b : Byte) → IsDecided (a ≡ b)
byte_same byte.Blank byte.Blank = inl refl
byte_same byte.Blank (byte.Number n) = inr (λ same. absurd (cc))
byte_same byte.Blank (byte.Part block offset k) = inr (λ same. absurd (cc))
byte_same (byte.Number n) byte.Blank = inr (λ same. absurd (cc))
byte_same (byte.Number n) (byte.Number m) = by (same_or_not n m)
  where
    by : (n ≡ m) ⊎ (n ≢ m) → IsDecided (byte.Number n ≡ byte.Number m)
    by (inl same) = inl (ap byte.Number same)
    by (inr other) = inr (λ same. other (cc))
byte_same (byte.Number n) (byte.Part block offset k) = inr (λ same. absurd (cc))
byte_same (byte.Part block offset k) byte.Blank = inr (λ same. absurd (cc))
byte_same (byte.Part block offset k) (byte.Number n) = inr (λ same. absurd (cc))
byte_same (byte.Part block offset k) (byte.Part other place j) = by (same_or_not block other) (whole_same offset place) (same_or_not k j)
  where
    by : (block ≡ other) ⊎ (block ≢ other) → IsDecided (offset ≡ place) → (k ≡ j) ⊎ (k ≢ j) → IsDecided (byte.Part block offset k ≡ byte.Part other place j)
    by (inl one) (inl two) (inl three) = inl (cc)
    by (inl one) (inl two) (inr differ) = inr (λ same. differ (cc))
    by (inl one) (inr differ) three = inr (λ same. differ (cc))
    by (inr differ) two three = inr (λ same. differ (cc))

bytes_same : (xs ys : List Byte) → IsDecided (xs ≡ ys)
bytes_same [] [] = inl refl
bytes_same [] (y ∷ ys) = inr (λ same. absurd (cc))
bytes_same (x ∷ xs) [] = inr (λ same. absurd (cc))
bytes_same (x ∷ xs) (y ∷ ys) = by (byte_same x y) (bytes_same xs ys)
  where
    by : IsDecided (x ≡ y) → IsDecided (xs ≡ ys) → IsDecided (x ∷ xs ≡ y ∷ ys)
    by (inl one) (inl two) = inl (cc)
    by (inl one) (inr differ) = inr (λ same. differ (cc))
    by (inr differ) two = inr (λ same. differ (cc))

heads_same : (x y : Byte) (xs ys : List Byte) → x ∷ xs ≡ y ∷ ys → x ≡ y
heads_same x y xs ys same = cc

-- bytes that are the parts of no pointer, and not null
wild_unless : (x : Byte) (rest : List Byte) → (x ∷ rest ≡ zeros (suc (length rest)) → ⊥) → ((block : ℕ) (offset : ℤ) → x ≡ byte.Part block offset 0 → ⊥) → IsPointerRead (x ∷ rest) Wild
wild_unless x rest not_null not_part = (not_null, λ block offset same. not_part block offset (heads_same x (byte.Part block offset 0) rest (map (λ k. byte.Part block offset k) (range_with_len 1 (length rest))) same))

pointer_read : (x : Byte) (rest : List Byte) → (v : Value) × AreRead Ptr (x ∷ rest) v
pointer_read x rest = by (bytes_same (x ∷ rest) (zeros (suc (length rest)))) x refl
  where
    by : IsDecided (x ∷ rest ≡ zeros (suc (length rest))) → (y : Byte) → x ≡ y → (v : Value) × AreRead Ptr (x ∷ rest) v
    by (inl null) y is = (Null, null)
    by (inr not_null) byte.Blank is = (Wild, wild_unless x rest not_null (λ block offset part. let clash : byte.Blank ≡ byte.Part block offset 0 = sym is ∙ part in absurd (cc)))
    by (inr not_null) (byte.Number n) is = (Wild, wild_unless x rest not_null (λ block offset part. let clash : byte.Number n ≡ byte.Part block offset 0 = sym is ∙ part in absurd (cc)))
    by (inr not_null) (byte.Part block offset k) is = whole (bytes_same (x ∷ rest) (parts (suc (length rest)) block offset))
      where
        whole : IsDecided (x ∷ rest ≡ parts (suc (length rest)) block offset) → (v : Value) × AreRead Ptr (x ∷ rest) v
        whole (inl all) = (Pointer block offset, all)
        whole (inr none) = (Wild, (not_null, other))
          where
            other : (b : ℕ) (o : ℤ) → x ∷ rest ≢ parts (suc (length rest)) b o
            other b o same =
                let first : x ≡ byte.Part b o 0 = heads_same x (byte.Part b o 0) rest (map (λ j. byte.Part b o j) (range_with_len 1 (length rest))) same in
                let one : byte.Part block offset k ≡ byte.Part b o 0 = sym is ∙ first in
                let blocks : b ≡ block = cc in
                let offsets : o ≡ offset = cc in
                none (subst (λ (z : ℤ). x ∷ rest ≡ parts (suc (length rest)) block z) offsets (subst (λ (n : ℕ). x ∷ rest ≡ parts (suc (length rest)) n o) blocks same))

pub value_read : (access : Access) (bytes : List Byte) → IsAccess access → length bytes ≡ access.size → (v : Value) × AreRead access.ty bytes v
value_read access bytes is size = by access.ty bytes is.typed (let count = access_size access is in (let some = count.0 in omega (arith, some, size))) (subst (HasSize access.ty) (sym size) (access_size access is).2)
  where
    by : (t : Ty) (list : List Byte) → IsTypeOfTarget t → 1 ≤ length list → HasSize t (length list) → (v : Value) × AreRead t list v
    by (Int t) list typed some wide = number_read t list typed wide
    by Ptr [] typed some wide = absurd (omega (arith, some))
    by Ptr (x ∷ rest) typed some wide = pointer_read x rest

-- ---- stores and copies

word_of : (n r : ℤ) → AreCongruent (2 ^ 64) n r → pos 0 ≤ℤ r → (word : ℕ) × AreCongruent (2 ^ 64) n (pos word)
word_of n (pos k) same low = (k, same)
word_of n (negsuc k) same low = absurd (omega (arith, ints))

word_some : (v : Value) → (word : ℕ) × IsWordOf v word
word_some (Number n) = word_of n (int_rem_euclid n (pos (2 ^ 64))) (rest_is_congruent n (2 ^ 64) (omega arith)) (rest_is_low n (2 ^ 64) (omega arith)).0
word_some Null = (0, tt)
word_some (Pointer block offset) = (0, tt)
word_some Wild = (0, tt)

pub stored_some : (access : Access) (v : Value) → IsAccess access → (bytes : List Byte) × AreStored access.size v bytes
stored_some access v is =
    let count = access_size access is in
    let word = word_some v in
    (written_bytes v word.0 access.size, bytes_stored v word.0 access.size count.0 count.1 word.1)

byte_copied : (from old : Byte) → (after : Byte) × IsCopied from old after
byte_copied byte.Blank byte.Blank = (byte.Blank, refl)
byte_copied byte.Blank (byte.Number n) = (byte.Number 0, (0, omega arith, refl))
byte_copied byte.Blank (byte.Part block offset k) = (byte.Number 0, (0, omega arith, refl))
byte_copied (byte.Number n) old = (byte.Number n, refl)
byte_copied (byte.Part block offset k) old = (byte.Part block offset k, refl)

pub copied_some : (source old : List Byte) → length source ≡ length old → (bytes : List Byte) × AreCopied source old bytes
copied_some [] [] same = ([], tt)
copied_some [] (o ∷ olds) same = absurd (omega (arith, same))
copied_some (s ∷ source) [] same = absurd (omega (arith, same))
copied_some (s ∷ source) (o ∷ olds) same = let first = byte_copied s o in let rest = copied_some source olds (omega (arith, same)) in (first.0 ∷ rest.0, (first.1, rest.1))

-- ---- blocks that end

pub kill_some : (m : List Block) (b : ℕ) → b < length m → (w : List Block) × Kills m b w
kill_some m b inside = let whole = item_at m b inside in (slice_set m b (killed whole.0), record { whole = whole.0; there = whole.1; becomes = refl })

pub kills_some : (slots : List (Option ℕ)) (m : List Block) → ((i b : ℕ) → slice_get slots i ≡ Some (Some b) → b < length m) → (w : List Block) × KillsAll slots m w
kills_some [] m inside = (m, refl)
kills_some (None ∷ slots) m inside = kills_some slots m (λ i b here. inside (suc i) b here)
kills_some (Some b ∷ slots) m inside =
    let one = kill_some m b (inside 0 b refl) in
    let size : length one.0 ≡ length m = ap length one.1.becomes ∙ length-set m b (killed one.1.whole) in
    let rest = kills_some slots one.0 (λ i c here. let less = inside (suc i) c here in omega (arith, size, less)) in
    (rest.0, (one.0, one.1, rest.1))
