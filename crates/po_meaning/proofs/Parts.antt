-- The pointers whose parts stand in bytes that are stored, copied, written over others and read.
use Rattle.std.specs.Prelude.{ℕ, suc, ◌+◌, ◌-◌, ◌≡◌, pos, ◌+ℤ◌, List, [], ◌∷◌, ◌++◌, All, length, map, take, drop}
use Rattle.std.specs.List.{range_with_len}
use Rattle.std.proofs.Common.{sym, ap, ◌∙◌, subst, arith, length-drop}
use Rattle.std.proofs.lemmas.List.{length-take-le}
use Rattle.std.proofs.lemmas.List.Elements.{All-nil, All-cons, All-append, All-map, All-take, All-drop, All-replicate}
use Rattle.po_lists.proofs.Places.{all_at, all_tail, all_head}
use Rattle.po_arith.specs.declared.target.Target.{Target}
use Rattle.po_ir.specs.declared.instr.Ty.{Ty}
use Rattle.po_ir.specs.declared.instr.Ty.TheVariants.{Int, Ptr}
use Rattle.po_memory.specs.declared.block.Block.{Block}
use Rattle.po_memory.specs.declared.value.Byte.{Byte}
use Rattle.po_memory.specs.declared.value.Byte.TheVariants as byte
use Rattle.po_memory.specs.declared.value.Value.{Value}
use Rattle.po_memory.specs.declared.value.Value.TheVariants.{Number, Null, Pointer, Wild}
use Rattle.po_memory.specs.Accesses.{pasted, Reads}
use Rattle.po_memory.specs.Blocks.{Spans, OnPointer}
use Rattle.po_memory.specs.Bytes.{AreStored, IsCopied, AreCopied, AreRead, LiesIn, zeros}
use Rattle.po_meaning.specs.Belongs.{PointsThere, IsPartThere}
use Rattle.po_memory.proofs.Came.{room_of}

module _ (target : Target) (m : List Block) where
  abbrev Part : Byte → Type 0
  Part b = IsPartThere target m b

  pub zeros_there : (size : ℕ) → All (IsPartThere target m) (zeros size)
  zeros_there size = All-replicate Part size (byte.Number 0) tt

  numbers_there : (numbers : List ℕ) (bytes : List Byte) → bytes ≡ map byte.Number numbers → All Part bytes
  numbers_there numbers bytes same = subst (All Part) (sym same) (All-map Part byte.Number numbers (λ i n within. tt))

  pub stored_there : (size : ℕ) (v : Value) (bytes : List Byte) → AreStored size v bytes → PointsThere target m v → All (IsPartThere target m) bytes
  stored_there size (Number v) bytes are there = numbers_there are.1.0 bytes are.1.1.same
  stored_there size Null bytes are there = subst (All Part) (sym are) (zeros_there size)
  stored_there size (Pointer block offset) bytes are there = subst (All Part) (sym are) (All-map Part (λ k. byte.Part block offset k) (range_with_len 0 size) (λ i k within. there))
  stored_there size Wild bytes are there = numbers_there are.1.numbers bytes are.1.are.same

  copied_part : (from old after : Byte) → IsCopied from old after → Part from → Part after
  copied_part byte.Blank byte.Blank after is there = subst Part (sym is) tt
  copied_part byte.Blank (byte.Number n) after (k, small, is) there = subst Part (sym is) tt
  copied_part byte.Blank (byte.Part block offset j) after (k, small, is) there = subst Part (sym is) tt
  copied_part (byte.Number n) old after is there = subst Part (sym is) tt
  copied_part (byte.Part block offset j) old after is there = subst Part (sym is) there

  pub copied_there : (source old bytes : List Byte) → AreCopied source old bytes → All (IsPartThere target m) source → All (IsPartThere target m) bytes
  copied_there [] [] [] are all = All-nil Part
  copied_there [] [] (r ∷ rs) are all = absurd are
  copied_there [] (o ∷ os) rs are all = absurd are
  copied_there (s ∷ ss) [] rs are all = absurd are
  copied_there (s ∷ ss) (o ∷ os) [] are all = absurd are
  copied_there (s ∷ ss) (o ∷ os) (r ∷ rs) are all = All-cons Part r rs (copied_part s o r are.0 (all_head Part s ss all)) (copied_there ss os rs are.1 (all_tail Part s ss all))

  pub pasted_there : (old : List Byte) (start : ℕ) (bytes : List Byte) → All (IsPartThere target m) old → All (IsPartThere target m) bytes → All (IsPartThere target m) (pasted old start bytes)
  pasted_there old start bytes all new =
      All-append Part (take start old) (bytes ++ drop (start + length bytes) old) (All-take Part start old all)
      (All-append Part bytes (drop (start + length bytes) old) new (All-drop Part (start + length bytes) old all))

  -- what is read of blocks whose pointers are there
  pub range_there : (at : Value) (size : ℕ) (bytes : List Byte) → Reads m at size bytes → All (λ (c : Block). All (IsPartThere target m) c.bytes) m → All (IsPartThere target m) bytes
  range_there at size bytes reads all =
      let whole : All Part reads.whole.bytes = all_at (λ (c : Block). All Part c.bytes) m reads.block reads.whole all reads.points.there in
      subst (All Part) (sym reads.same) (All-take Part (reads.start + size - reads.start) (drop reads.start reads.whole.bytes) (All-drop Part reads.start reads.whole.bytes whole))

  pointer_read : (v : Value) (n : ℕ) (bytes : List Byte) → length bytes ≡ suc n → AreRead Ptr bytes v → All Part bytes → PointsThere target m v
  pointer_read (Number v) n bytes size are all = absurd are
  pointer_read Null n bytes size are all = tt
  pointer_read Wild n bytes size are all = tt
  pointer_read (Pointer block offset) n bytes size are all =
      let same : bytes ≡ map (λ k. byte.Part block offset k) (range_with_len 0 (suc n)) = are ∙ ap (λ (k : ℕ). map (λ j. byte.Part block offset j) (range_with_len 0 k)) size in
      all_head Part (byte.Part block offset 0) (map (λ k. byte.Part block offset k) (range_with_len 1 n)) (subst (All Part) same all)

  -- what a load of at least one byte gives
  pub read_there : (t : Ty) (v : Value) (n : ℕ) (bytes : List Byte) → length bytes ≡ suc n → AreRead t bytes v → All (IsPartThere target m) bytes → PointsThere target m v
  read_there (Int t) (Number v) n bytes size are all = tt
  read_there (Int t) Null n bytes size are all = tt
  read_there (Int t) (Pointer block offset) n bytes size are all = absurd are
  read_there (Int t) Wild n bytes size are all = tt
  read_there Ptr v n bytes size are all = pointer_read v n bytes size are all

pub read_lies : (t : Ty) (v : Value) (bytes : List Byte) → AreRead t bytes v → LiesIn t v
read_lies (Int t) (Number v) bytes are = are.of_type
read_lies (Int t) Null bytes are = absurd are
read_lies (Int t) (Pointer block offset) bytes are = absurd are
read_lies (Int t) Wild bytes are = absurd are
read_lies Ptr (Number v) bytes are = absurd are
read_lies Ptr Null bytes are = tt
read_lies Ptr (Pointer block offset) bytes are = tt
read_lies Ptr Wild bytes are = tt

-- ---- as many bytes as are read

pub read_size : (m : List Block) (at : Value) (size : ℕ) (bytes : List Byte) → Reads m at size bytes → OnPointer (Spans (pos 0) (pos size)) m at → length bytes ≡ size
read_size m at size bytes reads spans =
    let inside = room_of m at reads.block reads.start size reads.whole reads.points spans in
    let behind = length-drop reads.start reads.whole.bytes in
    let count : reads.start + size - reads.start ≡ size = omega arith in
    ap length reads.same ∙ (ap (λ (n : ℕ). length (take n (drop reads.start reads.whole.bytes))) count ∙ length-take-le size (drop reads.start reads.whole.bytes) (omega (arith, inside, behind)))
