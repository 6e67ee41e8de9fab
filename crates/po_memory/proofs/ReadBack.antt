-- What a store wrote a load reads.
use Rattle.std.proofs.Common.{◌≡◌, ◌≤◌, ◌<◌, ◌+◌, ◌*◌, ◌-◌, ◌^◌, ℕ, zero, suc, List, [], ◌∷◌, arith, sym, ap, refl, subst, ◌∙◌, length}
use Rattle.std.specs.Prelude.{ℤ, pos, ◌+ℤ◌, ◌≤ℤ◌, Some, map, slice_get, slice_set, slice_range}
use Rattle.std.specs.List.{range_with_len}
use Rattle.std.proofs.lemmas.Int.{ints}
use Rattle.po_arith.specs.declared.int_type.IntType.{IntType}
use Rattle.po_arith.specs.Types.{IsIntType, IsOfType, AreCongruent}
use Rattle.po_arith.proofs.Wrapped.{one_wrapped}
use Rattle.po_ir.specs.declared.instr.Access.{Access}
use Rattle.po_ir.specs.declared.instr.Ty.{Ty}
use Rattle.po_ir.specs.declared.instr.Ty.TheVariants.{Int, Ptr}
use Rattle.po_memory.specs.declared.block.Block.{Block}
use Rattle.po_memory.specs.declared.value.Byte.{Byte}
use Rattle.po_memory.specs.declared.value.Byte.TheVariants as byte
use Rattle.po_memory.specs.declared.value.Value.{Value}
use Rattle.po_memory.specs.declared.value.Value.TheVariants.{Number, Null, Pointer, Wild}
use Rattle.po_memory.specs.Blocks.{IsLive, Spans, IsAligned, IsFilled, HaveValues, OnBlock, OnPointer}
use Rattle.po_memory.specs.Bytes.{IsAccess, IsTypeOfTarget, HasSize, AreRead, AreStored, Represents, LiesIn, joined, parts, zeros}
use Rattle.po_memory.specs.Accesses.{LoadAllowed, StoreAllowed, PointsInto, Reads, Writes, StoresAreRead, overwritten, pasted}
use Rattle.po_memory.proofs.Congruent.{through, coarser, flipped}
use Rattle.po_memory.proofs.Numbers.{one_list}
use Rattle.po_memory.proofs.ReadBytes.{access_size, on_block}
use Rattle.po_memory.proofs.Pasted.{pasted_size, pasted_range, pasted_inside}
use Rattle.po_memory.proofs.Came.{stored_filled, stored_size, room_of, one_place}

-- ---- values of bytes

-- one number of a type is represented by bytes that hold the type's width
one_represented : (t : IntType) (bytes : List Byte) (v w : ℤ) → IsIntType t → t.bits ≤ 8 * length bytes → IsOfType t v → IsOfType t w → Represents v bytes → Represents w bytes → v ≡ w
one_represented t bytes v w typed few v_in w_in one other =
    let same : joined one.0 ≡ joined other.0 = ap joined (one_list one.0 other.0 bytes one.1 other.1) in
    let first : AreCongruent (2 ^ (8 * length bytes)) v (pos (joined other.0)) = subst (λ n. AreCongruent (2 ^ (8 * length bytes)) v (pos n)) same one.2 in
    let second : AreCongruent (2 ^ (8 * length bytes)) v w = through (2 ^ (8 * length bytes)) v (pos (joined other.0)) w first (flipped (2 ^ (8 * length bytes)) w (pos (joined other.0)) other.2) in
    one_wrapped t v v w typed (v_in, (pos 0, omega (arith, ints))) (w_in, coarser t.bits (8 * length bytes) v w few second)

number_item : (n : ℕ) (ns : List ℕ) (b : Byte) (bs : List Byte) → map byte.Number (n ∷ ns) ≡ b ∷ bs → byte.Number n ≡ b
number_item n ns b bs e = cc

-- bytes that are numbers are no parts
numbers_no_parts : (ns : List ℕ) (bytes : List Byte) (size block : ℕ) (offset : ℤ) → 1 ≤ size → bytes ≡ map byte.Number ns → bytes ≡ parts size block offset → ⊥
numbers_no_parts ns bytes zero block offset some one other = absurd (omega arith)
numbers_no_parts [] bytes (suc size) block offset some one other = let e = sym one ∙ other in absurd (cc)
numbers_no_parts (n ∷ ns) bytes (suc size) block offset some one other =
    let e = number_item n ns (byte.Part block offset 0) (map (λ k. byte.Part block offset k) (range_with_len (0 + 1) size)) (sym one ∙ other) in
    absurd (cc)

zeros_no_parts : (bytes : List Byte) (size n block : ℕ) (offset : ℤ) → 1 ≤ size → bytes ≡ zeros n → bytes ≡ parts size block offset → ⊥
zeros_no_parts bytes zero n block offset some one other = absurd (omega arith)
zeros_no_parts bytes (suc size) zero block offset some one other = let e = sym one ∙ other in absurd (cc)
zeros_no_parts bytes (suc size) (suc n) block offset some one other = let e = sym one ∙ other in absurd (cc)

one_pointer : (size b b' : ℕ) (o o' : ℤ) → 1 ≤ size → parts size b o ≡ parts size b' o' → Pointer b o ≡ Pointer b' o'
one_pointer zero b b' o o' some e = absurd (omega arith)
one_pointer (suc size) b b' o o' some e = let block : b ≡ b' = cc in let offset : o ≡ o' = cc in cc

-- what is stored may be read, and nothing else
stored_read : (ty : Ty) (size : ℕ) (v : Value) (bytes : List Byte) → IsTypeOfTarget ty → 1 ≤ size → HasSize ty size → LiesIn ty v → AreStored size v bytes → AreRead ty bytes v
stored_read (Int t) size (Number v) bytes typed some few lies are = record {
  of_type = lies;
  exact = λ w of_type represents. one_represented t bytes v w typed (subst (λ n. t.bits ≤ 8 * n) (sym are.0) few) lies of_type are.1 represents;
}
stored_read (Int t) size Null bytes typed some few lies are = absurd lies
stored_read (Int t) size (Pointer b o) bytes typed some few lies are = absurd lies
stored_read (Int t) size Wild bytes typed some few lies are = absurd lies
stored_read Ptr size (Number v) bytes typed some few lies are = absurd lies
stored_read Ptr size Null bytes typed some few lies are = are ∙ ap zeros (sym (stored_size size Null bytes are))
stored_read Ptr size (Pointer b o) bytes typed some few lies are = are ∙ ap (λ n. parts n b o) (sym (stored_size size (Pointer b o) bytes are))
stored_read Ptr size Wild bytes typed some few lies are = (are.1.not_null, λ b o same. numbers_no_parts are.1.numbers bytes size b o some are.1.are.same (same ∙ ap (λ n. parts n b o) are.0))

only_read : (ty : Ty) (size : ℕ) (v w : Value) (bytes : List Byte) → 1 ≤ size → length bytes ≡ size → LiesIn ty v → AreStored size v bytes → AreRead ty bytes w → w ≡ v
only_read (Int t) size (Number v) (Number w) bytes some count lies are read = ap Number (read.exact v lies are.1)
only_read (Int t) size (Number v) Null bytes some count lies are read = absurd read
only_read (Int t) size (Number v) (Pointer b o) bytes some count lies are read = absurd read
only_read (Int t) size (Number v) Wild bytes some count lies are read = absurd read
only_read (Int t) size Null w bytes some count lies are read = absurd lies
only_read (Int t) size (Pointer b o) w bytes some count lies are read = absurd lies
only_read (Int t) size Wild w bytes some count lies are read = absurd lies
only_read Ptr size (Number v) w bytes some count lies are read = absurd lies
only_read Ptr size Null (Number w) bytes some count lies are read = absurd read
only_read Ptr size Null Null bytes some count lies are read = refl
only_read Ptr size Null (Pointer b o) bytes some count lies are read = absurd (zeros_no_parts bytes size size b o some are (read ∙ ap (λ n. parts n b o) count))
only_read Ptr size Null Wild bytes some count lies are read = absurd (read.0 (are ∙ ap zeros (sym count)))
only_read Ptr size (Pointer b o) (Number w) bytes some count lies are read = absurd read
only_read Ptr size (Pointer b o) Null bytes some count lies are read = absurd (zeros_no_parts bytes size (length bytes) b o some read are)
only_read Ptr size (Pointer b o) (Pointer b' o') bytes some count lies are read = one_pointer size b' b o' o some (ap (λ n. parts n b' o') (sym count) ∙ (sym read ∙ are))
only_read Ptr size (Pointer b o) Wild bytes some count lies are read = absurd (read.1 b o (are ∙ ap (λ n. parts n b o) (sym count)))
only_read Ptr size Wild (Number w) bytes some count lies are read = absurd read
only_read Ptr size Wild Null bytes some count lies are read = absurd (are.1.not_null read)
only_read Ptr size Wild (Pointer b o) bytes some count lies are read = absurd (numbers_no_parts are.1.numbers bytes size b o some are.1.are.same (read ∙ ap (λ n. parts n b o) count))
only_read Ptr size Wild Wild bytes some count lies are read = refl

-- ---- the block

set_there : {X : Type 0} (xs : List X) (i : ℕ) (x y : X) → slice_get xs i ≡ Some x → slice_get (slice_set xs i y) i ≡ Some y
set_there [] i x y e = absurd (cc)
set_there (z ∷ xs) zero x y e = refl
set_there (z ∷ xs) (suc i) x y e = set_there xs i x y e

module _ (access : Access) (blocks after : List Block) (at v : Value) (is : IsAccess access) (lies : LiesIn access.ty v) (allowed : StoreAllowed access blocks at) (bytes : List Byte) (are : AreStored access.size v bytes) (writes : Writes blocks at bytes after) where
  count : length bytes ≡ access.size
  count = stored_size access.size v bytes are

  room : writes.start + length bytes ≤ length writes.whole.bytes
  room = let r = room_of blocks at writes.block writes.start access.size writes.whole writes.points allowed.span in let c = count in omega arith

  there : slice_get after writes.block ≡ Some (overwritten writes.whole writes.start bytes)
  there = subst (λ m. slice_get m writes.block ≡ Some (overwritten writes.whole writes.start bytes)) (sym writes.becomes) (set_there blocks writes.block writes.whole (overwritten writes.whole writes.start bytes) writes.points.there)

  points : PointsInto after at writes.block writes.start (overwritten writes.whole writes.start bytes)
  points = record { pointer = writes.points.pointer; there = there }

  range : slice_range (pasted writes.whole.bytes writes.start bytes) writes.start (writes.start + access.size) ≡ bytes
  range = pasted_range writes.whole.bytes writes.start bytes room access.size count

  reads : Reads after at access.size bytes
  reads = record { block = writes.block; start = writes.start; whole = overwritten writes.whole writes.start bytes; points = points; same = sym range }

  -- whatever is read there is what was written
  read_same : (found : List Byte) → Reads after at access.size found → found ≡ bytes
  read_same found r =
      let one = one_place after at r.block r.start writes.block writes.start r.whole (overwritten writes.whole writes.start bytes) r.points points in
      r.same ∙ (ap (λ (c : Block). slice_range c.bytes r.start (r.start + access.size)) one.2 ∙ (ap (λ s. slice_range (pasted writes.whole.bytes writes.start bytes) s (s + access.size)) one.1 ∙ range))

  -- what was so of the block is so of it still
  still : (IsSo : ℤ → Block → Type 0) → OnPointer IsSo blocks at → (IsSo (pos writes.start) writes.whole → IsSo (pos writes.start) (overwritten writes.whole writes.start bytes)) → OnPointer IsSo after at
  still IsSo h keep =
      let on : OnBlock IsSo (pos writes.start) (slice_get blocks writes.block) = subst (OnPointer IsSo blocks) writes.points.pointer h in
      let so : IsSo (pos writes.start) writes.whole = subst (OnBlock IsSo (pos writes.start)) writes.points.there on in
      subst (OnPointer IsSo after) (sym writes.points.pointer) (on_block IsSo after writes.block (pos writes.start) (overwritten writes.whole writes.start bytes) there (keep so))

  inside : (z : ℤ) → z ≤ℤ pos (length writes.whole.bytes) → z ≤ℤ pos (length (pasted writes.whole.bytes writes.start bytes))
  inside z low = let size = pasted_size writes.whole.bytes writes.start bytes room in omega (arith, ints)

  values : HaveValues (pos writes.start +ℤ pos 0) (pos writes.start +ℤ pos access.size) (pasted writes.whole.bytes writes.start bytes)
  values i low high blank =
      let c = count in
      let split : i ≡ writes.start + (i - writes.start) = omega (arith, ints) in
      let within : i - writes.start < length bytes = omega (arith, ints) in
      stored_filled access.size v bytes (i - writes.start) are (sym (pasted_inside writes.whole.bytes writes.start bytes room (i - writes.start) within) ∙ (ap (slice_get (pasted writes.whole.bytes writes.start bytes)) (sym split) ∙ blank))

  load_allowed : LoadAllowed access after at
  load_allowed = record {
    not_null = allowed.not_null;
    live = still IsLive allowed.live (λ h. h);
    span = still (Spans (pos 0) (pos access.size)) allowed.span (λ h. ((h.0.0, inside (pos writes.start +ℤ pos 0) h.0.1), (h.1.0, inside (pos writes.start +ℤ pos access.size) h.1.1)));
    aligned = λ above. still (IsAligned access.align) (allowed.aligned above) (λ h. h);
    filled = subst (OnPointer (IsFilled (pos 0) (pos access.size)) after) (sym writes.points.pointer) (on_block (IsFilled (pos 0) (pos access.size)) after writes.block (pos writes.start) (overwritten writes.whole writes.start bytes) there values);
  }

pub stores_are_read : StoresAreRead
stores_are_read access blocks after at v is lies allowed (bytes, are, writes) =
    let size = access_size access is in
    record {
      allowed = load_allowed access blocks after at v is lies allowed bytes are writes;
      there = (bytes, reads access blocks after at v is lies allowed bytes are writes, stored_read access.ty access.size v bytes is.typed size.0 size.2 lies are);
      only = λ w loads. only_read access.ty access.size v w bytes size.0 (count access blocks after at v is lies allowed bytes are writes) lies are (subst (λ found. AreRead access.ty found w) (read_same access blocks after at v is lies allowed bytes are writes loads.0 loads.1) loads.2);
    }
