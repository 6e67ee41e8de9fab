-- What is read from bytes.
use Rattle.std.proofs.Common.{◌≡◌, ◌≤◌, ◌<◌, ◌+◌, ◌*◌, ◌/◌, ◌^◌, ℕ, inl, inr, List, arith, sym, ap, refl, subst, ◌∙◌, length}
use Rattle.std.specs.Prelude.{ℤ, pos, ◌↔◌, Some, Bool, true, false, IsTrue, map, slice_get, get_or, cond, ◌==◌}
use Rattle.std.specs.List.{range_with_len}
use Rattle.std.proofs.lemmas.Int.{ints}
use Rattle.std.proofs.lemmas.Option.{slice_get-get_or, get_or_from_slice_get}
use borrow.Author.Count.{below_more}
use Rattle.po_arith.specs.declared.int_type.IntType.{IntType}
use Rattle.po_arith.specs.declared.target.Target.{Target}
use Rattle.po_arith.specs.declared.target.Target.TheVariants.{L64}
use Rattle.po_arith.specs.Types.{IsIntType, IsWidth, IsOfType, IsWrapped, AreCongruent}
use Rattle.po_arith.proofs.Wrapped.{one_wrapped, spans}
use Rattle.po_ir.specs.declared.instr.Access.{Access}
use Rattle.po_ir.specs.declared.instr.Ty.{Ty}
use Rattle.po_ir.specs.declared.instr.Ty.TheVariants.{Int, Ptr}
use Rattle.po_ir.specs.Types.{size_of}
use Rattle.po_memory.specs.declared.block.Block.{Block}
use Rattle.po_memory.specs.declared.value.Byte.{Byte}
use Rattle.po_memory.specs.declared.value.Byte.TheVariants as byte
use Rattle.po_memory.specs.declared.value.Value.TheVariants.{Pointer}
use Rattle.po_memory.specs.Blocks.{IsLive, Spans, IsAligned, IsFilled, IsWritable, OnBlock}
use Rattle.po_memory.specs.Accesses.{LoadAllowed, StoreAllowed}
use Rattle.po_memory.specs.Bytes.{IsAccess, IsTypeOfTarget, HasSize, IsRead, joined, parts, zeros}
use Rattle.po_memory.specs.Walking.{AreJoined, AreNoNumbers, IsChosenNumber, AllowsLoad, AllowsStore}
use Rattle.po_memory.proofs.General.{from_each, each_of, replicate_each}
use Rattle.po_memory.proofs.Congruent.{through, coarser}
use Rattle.po_memory.proofs.Numbers.{one_list}

-- ---- zeros and parts

each_from_none : {X : Type 0} (f : ℕ → X) (xs : List X) → ((j : ℕ) → j < length xs → slice_get xs j ≡ Some (f j)) → xs ≡ map f (range_with_len 0 (length xs))
each_from_none f xs each = from_each f xs 0 (λ j less. let same : j ≡ 0 + j = omega arith in each j less ∙ ap (λ k. Some (f k)) same)

pub zeros_from : (xs : List Byte) → ((j : ℕ) → j < length xs → slice_get xs j ≡ Some (byte.Number 0)) → xs ≡ zeros (length xs)
zeros_from xs each = each_from_none (λ k. byte.Number 0) xs each ∙ replicate_each (byte.Number 0) (length xs) 0

pub parts_from : (xs : List Byte) (block : ℕ) (offset : ℤ) → ((j : ℕ) → j < length xs → slice_get xs j ≡ Some (byte.Part block offset j)) → xs ≡ parts (length xs) block offset
parts_from xs block offset each = each_from_none (λ k. byte.Part block offset k) xs each

pub part_at : (xs : List Byte) (block : ℕ) (offset : ℤ) (i : ℕ) → i < length xs → xs ≡ parts (length xs) block offset → slice_get xs i ≡ Some (byte.Part block offset i)
part_at xs block offset i less are =
    let same : 0 + i ≡ i = omega arith in
    ap (λ ys. slice_get ys i) are ∙ (each_of (λ k. byte.Part block offset k) 0 (length xs) i less ∙ ap (λ k. Some (byte.Part block offset k)) same)

pub not_parts : (xs : List Byte) (block : ℕ) (offset : ℤ) (i : ℕ) (b : Bool) → i < length xs → (get_or xs i byte.Blank ≡ byte.Part block offset i → IsTrue b) → b ≡ false → xs ≡ parts (length xs) block offset → ⊥
not_parts xs block offset i b less tells is are =
    let t : b ≡ true = tells (get_or_from_slice_get xs i (byte.Part block offset i) byte.Blank (part_at xs block offset i less are)) in
    cc

pub part_more : (xs : List Byte) (block : ℕ) (offset : ℤ) (i : ℕ) → i < length xs → get_or xs i byte.Blank ≡ byte.Part block offset i → ((j : ℕ) → j < i → slice_get xs j ≡ Some (byte.Part block offset j)) → (j : ℕ) → j < i + 1 → slice_get xs j ≡ Some (byte.Part block offset j)
part_more xs block offset i less here below = below_more (λ j. slice_get xs j ≡ Some (byte.Part block offset j)) i below (slice_get-get_or xs i byte.Blank less ∙ ap Some here)

-- ---- numbers

pub chosen : (t : IntType) (bytes : List Byte) (sum : ℕ) (v : ℤ) → AreJoined bytes sum → IsWrapped t (pos sum) v → IsChosenNumber t bytes v
chosen t bytes sum v are wrapped = record {
  of_type = wrapped.0;
  wrapped = λ numbers here. subst (λ n. IsWrapped t (pos n) v) (are.same ∙ ap joined (one_list are.numbers numbers bytes are.are here)) wrapped;
  none = λ none. absurd (none are.numbers are.are);
}

pub chosen_none : (t : IntType) (bytes : List Byte) → IsIntType t → AreNoNumbers bytes → IsChosenNumber t bytes (pos 0)
chosen_none t bytes typed none = let range = spans t typed in record {
  of_type = (range.low, range.high);
  wrapped = λ numbers here. absurd (none numbers here);
  none = λ none. refl;
}

itself : (t : IntType) (v : ℤ) → IsOfType t v → IsWrapped t v v
itself t v of_type = (of_type, (pos 0, omega (arith, ints)))

-- ---- sizes of accesses

width_size : (bits : ℕ) → IsWidth bits → (1 ≤ cond (bits == 1) 1 (bits / 8)) × (cond (bits == 1) 1 (bits / 8) ≤ 8) × (bits ≤ 8 * cond (bits == 1) 1 (bits / 8))
width_size bits (inl h) = rw h (omega arith, omega arith, omega arith)
width_size bits (inr (inl h)) = rw h (omega arith, omega arith, omega arith)
width_size bits (inr (inr (inl h))) = rw h (omega arith, omega arith, omega arith)
width_size bits (inr (inr (inr (inl h)))) = rw h (omega arith, omega arith, omega arith)
width_size bits (inr (inr (inr (inr h)))) = rw h (omega arith, omega arith, omega arith)

type_size : (target : Target) (ty : Ty) → IsTypeOfTarget ty → (1 ≤ size_of target ty) × (size_of target ty ≤ 8) × HasSize ty (size_of target ty)
type_size L64 (Int t) typed = width_size t.bits typed.width
type_size L64 Ptr typed = (omega arith, omega arith, tt)

-- an access takes one to eight bytes, which hold its type's width
pub access_size : (access : Access) → IsAccess access → (1 ≤ access.size) × (access.size ≤ 8) × HasSize access.ty access.size
access_size access is = subst (λ n. (1 ≤ n) × (n ≤ 8) × HasSize access.ty n) (sym is.fits.1.0) (type_size is.fits.0 access.ty is.typed)

-- the chosen number is one that may be read
pub may_be_read : (t : IntType) (bytes : List Byte) (v : ℤ) → IsIntType t → t.bits ≤ 8 * length bytes → IsChosenNumber t bytes v → IsRead t bytes v
may_be_read t bytes v typed few is = record {
  of_type = is.of_type;
  exact = λ w of_type represents.
      let near : AreCongruent (2 ^ t.bits) w (pos (joined represents.0)) = coarser t.bits (8 * length bytes) w (pos (joined represents.0)) few represents.2 in
      let same : IsWrapped t w v = (is.of_type, through (2 ^ t.bits) w (pos (joined represents.0)) v near (is.wrapped represents.0 represents.1).1) in
      one_wrapped t w v w typed same (itself t w of_type);
}

-- ---- a load's block

module _ (IsSo : ℤ → Block → Type 0) (blocks : List Block) (block : ℕ) (offset : ℤ) (c : Block) (there : slice_get blocks block ≡ Some c) where
  pub on_block : IsSo offset c → OnBlock IsSo offset (slice_get blocks block)
  on_block h = subst (λ x. OnBlock IsSo offset x) (sym there) h

  pub of_block : OnBlock IsSo offset (slice_get blocks block) → IsSo offset c
  of_block h = subst (λ x. OnBlock IsSo offset x) there h

pub load_there : (access : Access) (blocks : List Block) (block : ℕ) (offset : ℤ) (c : Block) → slice_get blocks block ≡ Some c → AllowsLoad access offset c ↔ LoadAllowed access blocks (Pointer block offset)
load_there access blocks block offset c there = (
  λ h. record {
    not_null = tt;
    live = on_block IsLive blocks block offset c there h.live;
    span = on_block (Spans (pos 0) (pos access.size)) blocks block offset c there h.span;
    aligned = λ above. on_block (IsAligned access.align) blocks block offset c there (h.aligned above);
    filled = on_block (IsFilled (pos 0) (pos access.size)) blocks block offset c there h.filled;
  },
  λ h. record {
    live = of_block IsLive blocks block offset c there h.live;
    span = of_block (Spans (pos 0) (pos access.size)) blocks block offset c there h.span;
    aligned = λ above. of_block (IsAligned access.align) blocks block offset c there (h.aligned above);
    filled = of_block (IsFilled (pos 0) (pos access.size)) blocks block offset c there h.filled;
  },
)

pub store_there : (access : Access) (blocks : List Block) (block : ℕ) (offset : ℤ) (c : Block) → slice_get blocks block ≡ Some c → AllowsStore access offset c ↔ StoreAllowed access blocks (Pointer block offset)
store_there access blocks block offset c there = (
  λ h. record {
    not_null = tt;
    live = on_block IsLive blocks block offset c there h.live;
    span = on_block (Spans (pos 0) (pos access.size)) blocks block offset c there h.span;
    aligned = λ above. on_block (IsAligned access.align) blocks block offset c there (h.aligned above);
    writable = on_block IsWritable blocks block offset c there h.writable;
  },
  λ h. record {
    live = of_block IsLive blocks block offset c there h.live;
    span = of_block (Spans (pos 0) (pos access.size)) blocks block offset c there h.span;
    aligned = λ above. of_block (IsAligned access.align) blocks block offset c there (h.aligned above);
    writable = of_block IsWritable blocks block offset c there h.writable;
  },
)
