-- A step that moves a pointer, or reads or writes memory, leads from a state that belongs to a project to one that belongs to it.
use Rattle.std.specs.Prelude.{ℕ, suc, ◌+◌, ◌*◌, ◌≡◌, ◌≢◌, ◌≤◌, ◌<◌, ◌⊎◌, true, false, ℤ, pos, ◌+ℤ◌, ◌*ℤ◌, ◌≤ℤ◌, List, [], All, Some, None, Contains, length, slice_get, slice_set, slice_index_or}
use Rattle.std.proofs.Common.{refl, sym, ap, ◌∙◌, subst, arith, inl, inr}
use Rattle.std.proofs.lemmas.Int.{ints}
use Rattle.po_lists.proofs.Places.{all_at, set_elsewhere, item_at}
use Rattle.po_lists.proofs.Options.{one_value}
use Rattle.po_lists.proofs.Members.{contains_head}
use Rattle.po_base.specs.declared.numbers.RegNo.{RegNo}
use Rattle.po_base.specs.declared.numbers.SlotNo.{SlotNo}
use Rattle.po_base.specs.declared.operand.Opnd.{Opnd}
use Rattle.po_base.specs.declared.operand.Opnd.TheVariants as operand
use Rattle.po_arith.specs.declared.target.Target.{Target}
use Rattle.po_arith.specs.declared.target.Target.TheVariants.{L64}
use Rattle.po_ir.specs.declared.graph.Slot.{Slot}
use Rattle.po_ir.specs.declared.instr.Access.{Access}
use Rattle.po_ir.specs.declared.instr.Ty.{Ty}
use Rattle.po_ir.specs.declared.instr.Ty.TheVariants.{Int, Ptr}
use Rattle.po_ir.specs.declared.instr.Instr.{Instr}
use Rattle.po_ir.specs.declared.instr.Instr.TheVariants.{PtrAdd, Load, Store, CopyBytes, Fill}
use Rattle.po_ir.specs.declared.project.Function.{Function}
use Rattle.po_ir.specs.declared.project.Project.{Project}
use Rattle.po_ir.specs.Instructions.{written, entered, followers}
use Rattle.po_ir.specs.Types.{IsKept, size_of}
use Rattle.po_ir.specs.Whole.{Signature, IsWhole, FunctionFits, InstructionFits, greatest_size}
use Rattle.po_core.specs.declared.report.Report.{Report}
use Rattle.po_pred.specs.declared.pred.Pred.{Pred}
use Rattle.po_pred.specs.declared.pred.Rule.{Rule}
use Rattle.po_gen.specs.Asks.{Required, place}
use Rattle.po_memory.specs.declared.block.Block.{Block}
use Rattle.po_memory.specs.declared.frame.Frame.{Frame}
use Rattle.po_memory.specs.declared.value.Byte.{Byte}
use Rattle.po_memory.specs.declared.value.Value.{Value}
use Rattle.po_memory.specs.declared.value.Value.TheVariants.{Number, Null, Pointer, Wild}
use Rattle.po_memory.specs.Accesses.{Writes, overwritten}
use Rattle.po_memory.specs.Blocks.{IsOfWidth, IsWritable, Spans, OnBlock, OnPointer}
use Rattle.po_memory.specs.Bytes.{AreRead, LiesIn, zeros}
use Rattle.po_memory.specs.Since.{Since, StoresKeep, CopiesKeep, FillsKeep}
use Rattle.po_memory.specs.Values.{moved, EachNumber}
use Rattle.po_meaning.specs.Operands.{value_at, put, onward}
use Rattle.po_meaning.specs.States.{State, IsOf, StandsAt}
use Rattle.po_meaning.specs.Local.{Local}
use Rattle.po_meaning.specs.Checks.{AllHold}
use Rattle.po_meaning.specs.Belongs.{static_blocks, PointsThere, IsPartThere, Belongs}
use Rattle.po_meaning.specs.Staying.{AreUnwritten}
use Rattle.po_meaning.proofs.Places.{same_or_not, held_within}
use Rattle.po_meaning.proofs.Frames.{told_at}
use Rattle.po_meaning.proofs.Held.{asks_hold, on_pointer, on_number, load_spans, store_allowed, copy_spans, copy_writes}
use Rattle.po_meaning.proofs.Memory.{Lives, Kept, kept_since, since_at, longer, bytes_still, belongs_after, changed_here, set_all}
use Rattle.po_meaning.proofs.Parts.{stored_there, copied_there, zeros_there, pasted_there, range_there, read_there, read_lies, read_size}
use Rattle.po_meaning.proofs.Plain.{typed_as, fits_before, pointer_lies, pointer_there, put_stays, goes_stays, arrives}
use Rattle.po_meaning.proofs.Results.{kept_value}
use Rattle.po_meaning.proofs.States.{state}

-- ---- what is written

module _ (p : Project) (top : Frame) (rest : List Frame) (m : List Block) (at : Value) (bytes : List Byte) (block start : ℕ) (whole : Block) (there : slice_get m block ≡ Some whole)
    (since : Since false true m (slice_set m block (overwritten whole start bytes))) (may : block < static_blocks p → whole.writable ≡ true) (parts : All (IsPartThere p.target m) bytes) (before : Belongs p (state top rest m)) where
  abbrev now : Block
  now = overwritten whole start bytes

  abbrev after : List Block
  after = slice_set m block now

  unwritten : AreUnwritten (static_blocks p) m after
  unwritten b c static here fixed = by (same_or_not b block)
    where
      by : (b ≡ block) ⊎ (b ≢ block) → (d : Block) × (slice_get after b ≡ Some d) × (d.bytes ≡ c.bytes)
      by (inl same) =
          let known : whole ≡ c = one_value (slice_get m block) whole c there (subst (λ (i : ℕ). slice_get m i ≡ Some c) same here) in
          let writable : whole.writable ≡ true = may (subst (λ (i : ℕ). i < static_blocks p) same static) in
          let clash : true ≡ false = sym writable ∙ (ap (λ (d : Block). d.writable) known ∙ fixed) in
          absurd (cc)
      by (inr other) = (c, set_elsewhere m block b now other ∙ here, refl)

  kept : Kept Lives (static_blocks p) m after
  kept = kept_since (static_blocks p) false true m after since unwritten

  size_kept : length now.bytes ≤ greatest_size
  size_kept =
      let found = since_at false true m after block whole since there in
      let same : found.0 ≡ now = one_value (slice_get after block) found.0 now found.1 (changed_here m block whole now there) in
      let size : length now.bytes ≡ length whole.bytes = ap (λ (d : Block). length d.bytes) (sym same) ∙ found.2.size in
      subst (λ (n : ℕ). n ≤ greatest_size) (sym size) (all_at (λ (c : Block). length c.bytes ≤ greatest_size) m block whole before.sizes there)

  more : length m ≤ length after
  more = longer Lives (static_blocks p) m after kept

  parts_kept : All (λ (c : Block). All (IsPartThere p.target after) c.bytes) after
  parts_kept =
      set_all m block whole now there (λ (c : Block). All (IsPartThere p.target after) c.bytes)
      (λ i c within. bytes_still p.target m after (slice_index_or m i c).bytes more (before.pointers.blocks_point i c within))
      (bytes_still p.target m after now.bytes more (pasted_there p.target m whole.bytes start bytes (all_at (λ (c : Block). All (IsPartThere p.target m) c.bytes) m block whole before.pointers.blocks_point there) parts))

  overwritten_stays : Belongs p (state top rest after)
  overwritten_stays = belongs_after p top rest m after Lives kept before (λ b dies. absurd dies) (λ k slot b has dies. dies)
      (set_all m block whole now there (λ (c : Block). length c.bytes ≤ greatest_size) before.sizes size_kept) parts_kept

written_stays : (p : Project) (top : Frame) (rest : List Frame) (m : List Block) (at : Value) (bytes : List Byte) (after : List Block) (w : Writes m at bytes after) → Since false true m after → (w.block < static_blocks p → w.whole.writable ≡ true) →
    All (IsPartThere p.target m) bytes → Belongs p (state top rest m) → Belongs p (state top rest after)
written_stays p top rest m at bytes l w since may parts before =
    subst (λ (l : List Block). Belongs p (state top rest l)) (sym w.becomes)
    (overwritten_stays p top rest m at bytes w.block w.start w.whole w.points.there (subst (Since false true m) w.becomes since) may parts before)

writable_there : (m : List Block) (at : Value) (bytes : List Byte) (after : List Block) (w : Writes m at bytes after) → OnPointer IsWritable m at → w.whole.writable ≡ true
writable_there m at bytes l w is =
    let on : OnBlock IsWritable (pos w.start) (slice_get m w.block) = subst (OnPointer IsWritable m) w.points.pointer is in
    subst (OnBlock IsWritable (pos w.start)) w.points.there on

-- ---- what is moved

inside_width : (target : Target) (size : ℕ) (offset : ℤ) → size ≤ greatest_size → pos 0 ≤ℤ offset → offset ≤ℤ pos size → IsOfWidth (8 * size_of target Ptr) offset
inside_width L64 size offset small low high = (omega (arith, ints), omega (arith, ints))

moved_there : (p : Project) (m : List Block) (v : Value) (n : ℤ) → All (λ (c : Block). length c.bytes ≤ greatest_size) m → OnPointer (Spans n n) m v → PointsThere p.target m v → PointsThere p.target m (moved v n)
moved_there p m (Number v) n sizes spans there = tt
moved_there p m Null n sizes spans there = tt
moved_there p m Wild n sizes spans there = tt
moved_there p m (Pointer block offset) n sizes spans there =
    let found = item_at m block there.block_there in
    let so : Spans n n offset found.0 = subst (OnBlock (Spans n n) offset) found.1 spans in
    let small = all_at (λ (c : Block). length c.bytes ≤ greatest_size) m block found.0 sizes found.1 in
    record { block_there = there.block_there; offset_fits = inside_width p.target (length found.0.bytes) (offset +ℤ n) small so.0.0 so.0.1 }

moved_lies : (v : Value) (n : ℤ) → LiesIn Ptr v → LiesIn Ptr (moved v n)
moved_lies (Number v) n is = absurd is
moved_lies Null n is = tt
moved_lies (Pointer block offset) n is = tt
moved_lies Wild n is = tt

-- ---- accesses

access_size : (target : Target) (size : ℕ) → size ≡ size_of target Ptr → size ≡ suc 7
access_size L64 size same = same

some_size : (target : Target) (t : Ty) (size : ℕ) → size ≡ size_of target t → t ≡ Ptr → size ≡ suc 7
some_size target t size same pointer = access_size target size (same ∙ ap (size_of target) pointer)

module _ (stores : StoresKeep) (copies : CopiesKeep) (fills : FillsKeep) (required : Required) (library : List Signature) (p : Project) (r : Report Pred Rule) (f : Function) (s u : State) (whole : IsWhole library p) (held : AllHold required p r s) (before : Belongs p s)
    (below : u.rest ≡ s.rest) where
  fits_here : (i : Instr) → StandsAt p s.top f i → InstructionFits library p f i
  fits_here i stands = (all_at (λ (g : Function). FunctionFits library p g) p.functions s.top.function.0 f whole.functions stands.of).instructions s.top.node.0 i stands.node

  -- the next node follows, and the blocks changed
  on_after : (i : Instr) (after : List Block) → StandsAt p s.top f i → Contains (followers s.top.node.0 i) (s.top.node.0 + 1) → written i ≡ None → entered i ≡ None → Belongs p (state s.top s.rest after) → u.top ≡ onward s.top → u.memory ≡ after → Belongs p u
  on_after i after stands next none same belongs top memory =
      arrives p u (onward s.top) s.rest after top below memory
      (goes_stays p f (state s.top s.rest after) stands.of belongs i (record { 0 = s.top.node.0 + 1 }) (record { of = stands.of; node = stands.node }) next none same)

  pub add_stays : (to : RegNo) (base index : Opnd) (factor : ℤ) → StandsAt p s.top f (PtrAdd to base index factor) → Local p f.graph (PtrAdd to base index factor) s.top s.memory u.top u.memory → Belongs p u
  add_stays to base index factor stands (v, i, is, number, top, memory) =
      let asked = asks_hold required p r s f (PtrAdd to base index factor) stands held in
      let all = on_pointer s.top base v (λ w. EachNumber s.top (place index) (λ lo. EachNumber s.top (place index) (λ hi. OnPointer (Spans (factor *ℤ lo) (factor *ℤ hi)) s.memory w))) is asked.1.1.0 in
      let low = on_number s.top index i (λ lo. EachNumber s.top (place index) (λ hi. OnPointer (Spans (factor *ℤ lo) (factor *ℤ hi)) s.memory v)) number all in
      let spans = on_number s.top index i (λ hi. OnPointer (Spans (factor *ℤ i) (factor *ℤ hi)) s.memory v) number low in
      let fits = fits_here (PtrAdd to base index factor) stands in
      let target = typed_as f.graph to (λ t. IsKept Ptr t) fits.result_fits in
      let lies = pointer_lies p f s stands.of before base v fits.operands_lie.0 is in
      arrives p u (put to (moved v (factor *ℤ i)) s.top) s.rest s.memory top below memory
      (put_stays p f s stands.of before (PtrAdd to base index factor) to (moved v (factor *ℤ i)) target.register stands (contains_head _ []) refl refl target.there
      (kept_value Ptr target.register.ty (moved v (factor *ℤ i)) target.typed (moved_lies v (factor *ℤ i) lies))
      (moved_there p s.memory v (factor *ℤ i) before.sizes spans (pointer_there p f s stands.of before base v is)))

  read_points : (t : Ty) (x : Value) (size : ℕ) (bytes : List Byte) → size ≡ size_of p.target t → length bytes ≡ size → AreRead t bytes x → All (IsPartThere p.target s.memory) bytes → PointsThere p.target s.memory x
  read_points (Int t) x size bytes fits count are parts = read_number x are
    where
      read_number : (y : Value) → AreRead (Int t) bytes y → PointsThere p.target s.memory y
      read_number (Number v) is = tt
      read_number Null is = tt
      read_number (Pointer block offset) is = absurd is
      read_number Wild is = tt
  read_points Ptr x size bytes fits count are parts = read_there p.target s.memory Ptr x 7 bytes (count ∙ access_size p.target size fits) are parts

  pub load_stays : (to : RegNo) (at : Opnd) (access : Access) → StandsAt p s.top f (Load to at access) → Local p f.graph (Load to at access) s.top s.memory u.top u.memory → Belongs p u
  load_stays to at access stands (v, x, is, (bytes, reads, are), top, memory) =
      let asked = asks_hold required p r s f (Load to at access) stands held in
      let fits = fits_here (Load to at access) stands in
      let count = read_size s.memory v access.size bytes reads (load_spans s.top s.memory at v is access asked) in
      let target = typed_as f.graph to (λ t. IsKept access.ty t) fits.result_fits in
      arrives p u (put to x s.top) s.rest s.memory top below memory
      (put_stays p f s stands.of before (Load to at access) to x target.register stands (contains_head _ []) refl refl target.there
      (kept_value access.ty target.register.ty x target.typed (read_lies access.ty x bytes are))
      (read_points access.ty x access.size bytes fits.numbers_fit.0 count are (range_there p.target s.memory v access.size bytes reads before.pointers.blocks_point)))

  value_points : IsOf p s.top f → (t : Ty) (a : Opnd) (x : Value) → value_at s.top t a ≡ Some x → PointsThere p.target s.memory x
  value_points of (Int t) (operand.Reg n) x is = pointer_there p f s of before (operand.Reg n) x is
  value_points of (Int t) (operand.Num n) x is = subst (PointsThere p.target s.memory) (one_value (Some (Number n)) (Number n) x refl is) tt
  value_points of Ptr a x is = pointer_there p f s of before a x is

  pub store_stays : (at value : Opnd) (access : Access) → StandsAt p s.top f (Store at value access) → Local p f.graph (Store at value access) s.top s.memory u.top u.memory → Belongs p u
  store_stays at value access stands (v, x, is, given, (bytes, are, writes), top) =
      let asked = asks_hold required p r s f (Store at value access) stands held in
      let allowed = store_allowed s.top s.memory at v is access asked in
      let since = stores access s.memory v x u.memory allowed (bytes, are, writes) in
      let parts = stored_there p.target s.memory access.size x bytes are (value_points stands.of access.ty value x given) in
      on_after (Store at value access) u.memory stands (contains_head _ []) refl refl
      (written_stays p s.top s.rest s.memory v bytes u.memory writes since (λ static. writable_there s.memory v bytes u.memory writes allowed.writable) parts before) top refl

  pub copy_stays : (to from : Opnd) (size align : ℕ) → StandsAt p s.top f (CopyBytes to from size align) → Local p f.graph (CopyBytes to from size align) s.top s.memory u.top u.memory → Belongs p u
  copy_stays to from size align stands (v, x, is, other, copied, top) =
      let asked = asks_hold required p r s f (CopyBytes to from size align) stands held in
      let since = copies size s.memory v x u.memory (copy_spans s.top s.memory to v is from size align asked) copied in
      let source = range_there p.target s.memory x size copied.source copied.reads before.pointers.blocks_point in
      let parts = copied_there p.target s.memory copied.source copied.old copied.bytes copied.copied source in
      on_after (CopyBytes to from size align) u.memory stands (contains_head _ []) refl refl
      (written_stays p s.top s.rest s.memory v copied.bytes u.memory copied.writes since (λ static. writable_there s.memory v copied.bytes u.memory copied.writes (copy_writes s.top s.memory to v is from size align asked)) parts before) top refl

  slot_spans : (b size : ℕ) (c : Block) → slice_get s.memory b ≡ Some c → size ≤ length c.bytes → OnPointer (Spans (pos 0) (pos size)) s.memory (Pointer b (pos 0))
  slot_spans b size c there small =
      subst (OnBlock (Spans (pos 0) (pos size)) (pos 0)) (sym there) ((omega (arith, ints), omega (arith, ints)), (omega (arith, ints), omega (arith, ints)))

  pub fill_stays : (slot : SlotNo) (size : ℕ) → StandsAt p s.top f (Fill slot size) → Local p f.graph (Fill slot size) s.top s.memory u.top u.memory → Belongs p u
  fill_stays slot size stands (b, is, writes, top) =
      let inside : slot.0 < length f.graph.slots = subst (λ (k : ℕ). slot.0 < k) ((fits_before p f s stands.of before).place.slots) (held_within s.top.slots slot.0 b is) in
      let known = item_at f.graph.slots slot.0 inside in
      let small : size ≤ known.0.size = told_at (slice_get f.graph.slots slot.0) (λ (k : Slot). size ≤ k.size) known.0 known.1 ((fits_here (Fill slot size) stands).numbers_fit) in
      let block = before.slots.blocks s.top f 0 slot.0 b known.0 refl stands.of known.1 is in
      let spans = slot_spans b size block.0 block.1 (subst (λ (k : ℕ). size ≤ k) (sym block.2.size) small) in
      let since = fills size s.memory b u.memory spans writes in
      let same : Pointer b (pos 0) ≡ Pointer writes.block (pos writes.start) = writes.points.pointer in
      let here : b ≡ writes.block = cc in
      let own : static_blocks p ≤ writes.block = subst (λ (k : ℕ). static_blocks p ≤ k) here block.2.own in
      on_after (Fill slot size) u.memory stands (contains_head _ []) refl refl
      (written_stays p s.top s.rest s.memory (Pointer b (pos 0)) (zeros size) u.memory writes since (λ static. absurd (omega (arith, own, static))) (zeros_there p.target s.memory size) before) top refl
