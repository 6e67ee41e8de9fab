-- A step of a plain instruction leads from a state that belongs to a project to one that belongs to it.
use Rattle.std.specs.Prelude.{ℕ, ◌+◌, ◌*◌, ◌≡◌, ◌≢◌, ◌<◌, ◌⊎◌, true, false, cond, ℤ, pos, List, [], ◌∷◌, All, Bool, Option, Some, None, MatchOption, Contains, length, slice_get}
use Rattle.std.proofs.Common.{refl, sym, ◌∙◌, subst, arith, inl, inr}
use Rattle.std.proofs.lemmas.Int.{ints}
use Rattle.std.proofs.lemmas.Option.{slice_get_within, same_Some}
use Rattle.po_lists.proofs.Places.{all_at, all_head, item_at}
use Rattle.po_lists.proofs.Options.{one_value, none_or_some}
use Rattle.po_lists.proofs.Members.{contains_head, contains_second}
use Rattle.po_base.specs.declared.numbers.GlobalNo.{GlobalNo}
use Rattle.po_base.specs.declared.numbers.NodeNo.{NodeNo}
use Rattle.po_base.specs.declared.numbers.SlotNo.{SlotNo}
use Rattle.po_base.specs.declared.numbers.StrNo.{StrNo}
use Rattle.po_arith.specs.declared.target.Target.{Target}
use Rattle.po_arith.specs.declared.target.Target.TheVariants.{L64}
use Rattle.po_base.specs.declared.numbers.RegNo.{RegNo}
use Rattle.po_base.specs.declared.operators.Op.{Op}
use Rattle.po_base.specs.declared.operators.UnOp.{UnOp}
use Rattle.po_base.specs.declared.operand.Opnd.{Opnd}
use Rattle.po_base.specs.declared.operand.Opnd.TheVariants as operand
use Rattle.po_arith.specs.declared.int_type.IntType.{IntType}
use Rattle.po_arith.specs.Types.{IsIntType}
use Rattle.po_interval.specs.Gathering.{BinMembersCover, ResultsAreOfType}
use Rattle.po_ir.specs.declared.graph.Reg.{Reg as Register}
use Rattle.po_ir.specs.declared.graph.Node.{Node}
use Rattle.po_ir.specs.declared.graph.Graph.{Graph}
use Rattle.po_ir.specs.declared.instr.Ty.{Ty}
use Rattle.po_ir.specs.declared.instr.Ty.TheVariants.{Int, Ptr}
use Rattle.po_ir.specs.declared.instr.Instr.{Instr}
use Rattle.po_ir.specs.declared.instr.Instr.TheVariants.{Const, Copy, Bin, Un, Conv, AddrSlot, AddrGlobal, AddrStr, PtrAdd, PtrDiff, Load, Store, CopyBytes, Fill, Enter, Leave, Call, Lib, If, Jump, Return, Never}
use Rattle.po_ir.specs.declared.instr.Local.TheVariants as variable
use Rattle.po_ir.specs.declared.project.Function.{Function}
use Rattle.po_ir.specs.declared.project.Project.{Project}
use Rattle.po_ir.specs.Instructions.{written, entered, followers}
use Rattle.po_ir.specs.Types.{TypeIs, IsKept, IsValue, HasTruth, Lies, is_comparison, size_of}
use Rattle.po_ir.specs.Whole.{Signature, IsWhole, FunctionFits, InstructionFits}
use Rattle.po_memory.specs.declared.block.Block.{Block}
use Rattle.po_memory.specs.declared.frame.Frame.{Frame}
use Rattle.po_memory.specs.declared.value.Value.{Value}
use Rattle.po_memory.specs.declared.value.Value.TheVariants.{Number, Null, Pointer}
use Rattle.po_memory.specs.Blocks.{IsOfWidth}
use Rattle.po_memory.specs.Bytes.{LiesIn}
use Rattle.po_memory.specs.Values.{register_value}
use Rattle.po_ir.specs.IntTypes.{IsTypeOfTarget, types_in, HasTypesOfTarget}
use Rattle.po_meaning.specs.Operands.{pointer_value, as_value, at_node, put, without_value}
use Rattle.po_meaning.specs.States.{State, IsOf, StandsAt}
use Rattle.po_meaning.specs.Local.{IsDistance, Local}
use Rattle.po_meaning.specs.Belongs.{FrameBelongs, PointsThere, FramePoints, Belongs}
use Rattle.po_meaning.specs.Laws.{PlainStepsStay}
use Rattle.po_meaning.proofs.Places.{same_or_not, held_within}
use Rattle.po_meaning.proofs.Frames.{Fits, fits_of, belongs_of, fits_at, fits_put, within, within_regs, fits_without, put_value, put_others, no_value, without_others}
use Rattle.po_meaning.proofs.States.{state, belongs_kept}
use Rattle.po_meaning.proofs.Results.{kept_value, unary_lies, conv_lies, number_fits, comparison_fits}

-- a register whose type is told
pub record Typed (g : Graph) (r : RegNo) (P : Ty → Type 0) : Type 0 where
  pub register : Register
  pub there : slice_get g.regs r.0 ≡ Some register
  pub typed : P register.ty

option_typed : (o : Option Register) (P : Ty → Type 0) → MatchOption o ⊥ (λ (x : Register). P x.ty) → (x : Register) × (o ≡ Some x) × P x.ty
option_typed None P h = absurd h
option_typed (Some x) P h = (x, refl, h)

pub typed_as : (g : Graph) (r : RegNo) (P : Ty → Type 0) → TypeIs g r P → Typed g r P
typed_as g r P h = let found = option_typed (slice_get g.regs r.0) P h in record { register = found.0; there = found.1; typed = found.2 }

-- what is told of the type of a register that is there
pub told_of : (g : Graph) (r : RegNo) (P : Ty → Type 0) (x : Register) → slice_get g.regs r.0 ≡ Some x → TypeIs g r P → P x.ty
told_of g r P x there h = subst (λ (o : Option Register). MatchOption o ⊥ (λ (y : Register). P y.ty)) there h

as_lies : (t : Ty) (n : ℤ) → IsValue t n → LiesIn t (as_value t n)
as_lies (Int t) n is = is
as_lies Ptr n is = tt

module _ (p : Project) (f : Function) (s : State) (of : IsOf p s.top f) (before : Belongs p s) where
  frame_before : FrameBelongs p s.top
  frame_before = all_head (FrameBelongs p) s.top s.rest before.each_frame

  pub points_before : FramePoints p.target s.memory s.top
  points_before = all_head (FramePoints p.target s.memory) s.top s.rest before.pointers.frames_point

  pub fits_before : Fits f s.top
  fits_before = fits_of p f s.top of frame_before

  -- a register's value
  pub register_lies : (r : RegNo) (x : Register) (v : Value) → slice_get f.graph.regs r.0 ≡ Some x → register_value s.top r.0 ≡ Some v → LiesIn x.ty v
  register_lies r x v there is = fits_before.types.registers r.0 x v there is

  -- a pointer that is read
  pub pointer_lies : (a : Opnd) (v : Value) → Lies f.graph Ptr a → pointer_value s.top a ≡ Some v → LiesIn Ptr v
  pointer_lies (operand.Reg r) v lies is = let reg = typed_as f.graph r (λ t. IsKept t Ptr) lies in kept_value reg.register.ty Ptr v reg.typed (register_lies r reg.register v reg.there is)
  pointer_lies (operand.Num n) v lies is = subst (LiesIn Ptr) (same_Some Null v is) tt

  pub pointer_there : (a : Opnd) (v : Value) → pointer_value s.top a ≡ Some v → PointsThere p.target s.memory v
  pointer_there (operand.Reg r) v is = points_before.registers r.0 v is
  pointer_there (operand.Num n) v is = subst (PointsThere p.target s.memory) (same_Some Null v is) tt

  -- the next node follows, and a register gets a value
  pub put_stays : (i : Instr) (to : RegNo) (v : Value) (x : Register) → StandsAt p s.top f i → Contains (followers s.top.node.0 i) (s.top.node.0 + 1) → written i ≡ Some to → entered i ≡ None →
      slice_get f.graph.regs to.0 ≡ Some x → LiesIn x.ty v → PointsThere p.target s.memory v → Belongs p (state (put to v s.top) s.rest s.memory)
  put_stays i to v x stands next is none there lies points =
      belongs_kept p s.top (put to v s.top) s.rest s.memory refl refl
      (belongs_of p f (put to v s.top) of (fits_put f s.top to v x there fits_before i stands.node next is none lies))
      (record { registers = λ r w has. points_put r w has (same_or_not r to.0); arguments = points_before.arguments })
      before
    where
      points_put : (r : ℕ) (w : Value) → register_value (put to v s.top) r ≡ Some w → (r ≡ to.0) ⊎ (r ≢ to.0) → PointsThere p.target s.memory w
      points_put r w has (inl same) = subst (PointsThere p.target s.memory) (one_value _ v w (put_value s.top to v (within f s.top to v x there fits_before)) (subst (λ (j : ℕ). register_value (put to v s.top) j ≡ Some w) same has)) points
      points_put r w has (inr other) = points_before.registers r w (sym (put_others s.top to v r other) ∙ has)

  -- a named node follows, and no register changes
  pub goes_stays : (i : Instr) (m : NodeNo) → StandsAt p s.top f i → Contains (followers s.top.node.0 i) m.0 → written i ≡ None → entered i ≡ None → Belongs p (state (at_node m s.top) s.rest s.memory)
  goes_stays i m stands next is none =
      belongs_kept p s.top (at_node m s.top) s.rest s.memory refl refl
      (belongs_of p f (at_node m s.top) of (fits_at f s.top i m stands.node next is none fits_before))
      (record { registers = points_before.registers; arguments = points_before.arguments })
      before

-- the state is the one that was told
pub arrives : (p : Project) (u : State) (now : Frame) (rest : List Frame) (m : List Block) → u.top ≡ now → u.rest ≡ rest → u.memory ≡ m → Belongs p (state now rest m) → Belongs p u
arrives p u now rest m top below memory belongs =
    subst (λ (fr : Frame). Belongs p (state fr u.rest u.memory)) (sym top)
    (subst (λ (l : List Frame). Belongs p (state now l u.memory)) (sym below)
    (subst (λ (l : List Block). Belongs p (state now rest l)) (sym memory) belongs))

module _ (of_type : ResultsAreOfType) (cover : (o : Op) → BinMembersCover o) (library : List Signature) (p : Project) (f : Function) (s u : State) (whole : IsWhole library p) (before : Belongs p s) (below : u.rest ≡ s.rest) where
  fits_in : IsOf p s.top f → FunctionFits library p f
  fits_in of = all_at (FunctionFits library p) p.functions s.top.function.0 f whole.functions of

  instr_fits : (i : Instr) → StandsAt p s.top f i → InstructionFits library p f i
  instr_fits i stands = (fits_in stands.of).instructions s.top.node.0 i stands.node

  -- the types at which the instruction computes
  types_of : (i : Instr) → StandsAt p s.top f i → All IsTypeOfTarget (types_in i)
  types_of i stands =
      let all : HasTypesOfTarget f.graph = (fits_in stands.of).types in
      subst (λ (j : Instr). All IsTypeOfTarget (types_in j)) stands.node.2 (all_at (λ (n : Node). All IsTypeOfTarget (types_in n.instr)) f.graph.nodes s.top.node.0 stands.node.0 all.instructions stands.node.1)

  -- a register gets a value, and the blocks stay
  put_done : (i : Instr) (to : RegNo) (v : Value) (x : Register) → StandsAt p s.top f i → Contains (followers s.top.node.0 i) (s.top.node.0 + 1) → written i ≡ Some to → entered i ≡ None →
      slice_get f.graph.regs to.0 ≡ Some x → LiesIn x.ty v → PointsThere p.target s.memory v → u.top ≡ put to v s.top → u.memory ≡ s.memory → Belongs p u
  put_done i to v x stands next is none there lies points top memory =
      arrives p u (put to v s.top) s.rest s.memory top below memory (put_stays p f s stands.of before i to v x stands next is none there lies points)

  goes_done : (i : Instr) (m : NodeNo) → StandsAt p s.top f i → Contains (followers s.top.node.0 i) m.0 → written i ≡ None → entered i ≡ None → u.top ≡ at_node m s.top → u.memory ≡ s.memory → Belongs p u
  goes_done i m stands next is none top memory = arrives p u (at_node m s.top) s.rest s.memory top below memory (goes_stays p f s stands.of before i m stands next is none)

  value_there : (t : Ty) (n : ℤ) → PointsThere p.target s.memory (as_value t n)
  value_there (Int t) n = tt
  value_there Ptr n = tt

  pub const_stays : (to : RegNo) (value : ℤ) → StandsAt p s.top f (Const to value) → Local p f.graph (Const to value) s.top s.memory u.top u.memory → Belongs p u
  const_stays to value stands (t, typed, top, memory) =
      let fits = typed_as f.graph to (λ r. IsValue r value) ((instr_fits (Const to value) stands).result_fits) in
      let same : fits.register.ty ≡ t = told_of f.graph to (λ r. r ≡ t) fits.register fits.there typed in
      put_done (Const to value) to (as_value t value) fits.register stands (contains_head _ []) refl refl fits.there
      (subst (λ (r : Ty). LiesIn fits.register.ty (as_value r value)) same (as_lies fits.register.ty value fits.typed)) (value_there t value) top memory

  pub copy_stays : (to from : RegNo) → StandsAt p s.top f (Copy to from) → Local p f.graph (Copy to from) s.top s.memory u.top u.memory → Belongs p u
  copy_stays to from stands (v, is, top, memory) =
      let source = typed_as f.graph from (λ r. TypeIs f.graph to (λ t. IsKept r t)) ((instr_fits (Copy to from) stands).result_fits) in
      let target = typed_as f.graph to (λ t. IsKept source.register.ty t) source.typed in
      put_done (Copy to from) to v target.register stands (contains_head _ []) refl refl target.there
      (kept_value source.register.ty target.register.ty v target.typed (register_lies p f s stands.of before from source.register v source.there is))
      ((points_before p f s stands.of before).registers from.0 v is) top memory

  pub bin_stays : (to : RegNo) (o : Op) (ty : Ty) (a b : Opnd) → StandsAt p s.top f (Bin to o ty a b) → Local p f.graph (Bin to o ty a b) s.top s.memory u.top u.memory → Belongs p u
  bin_stays to o (Int t) a b stands (x, (v, w, y, one, other, is, same), top, memory) =
      let int : IsIntType t = all_head IsTypeOfTarget (Int t) [] (types_of (Bin to o (Int t) a b) stands) in
      let target = typed_as f.graph to (λ r. cond (is_comparison o) (HasTruth r) (IsKept (Int t) r)) ((instr_fits (Bin to o (Int t) a b) stands).result_fits) in
      put_done (Bin to o (Int t) a b) to x target.register stands (contains_head _ []) refl refl target.there
      (subst (LiesIn target.register.ty) (sym same) (number_fits of_type cover o t target.register.ty v w y int target.typed is))
      (subst (PointsThere p.target s.memory) (sym same) tt) top memory
  bin_stays to o Ptr a b stands (x, (holds, (v, w, one, other, may), same), top, memory) =
      let target = typed_as f.graph to (λ r. cond (is_comparison o) (HasTruth r) (IsKept Ptr r)) ((instr_fits (Bin to o Ptr a b) stands).result_fits) in
      put_done (Bin to o Ptr a b) to x target.register stands (contains_head _ []) refl refl target.there
      (subst (LiesIn target.register.ty) (sym same) (comparison_fits o target.register.ty v w holds target.typed may))
      (subst (PointsThere p.target s.memory) (sym same) tt) top memory

  pub un_stays : (to : RegNo) (o : UnOp) (t : IntType) (a : Opnd) → StandsAt p s.top f (Un to o t a) → Local p f.graph (Un to o t a) s.top s.memory u.top u.memory → Belongs p u
  un_stays to o t a stands (v, x, one, is, top, memory) =
      let target = typed_as f.graph to (λ r. IsKept (Int t) r) ((instr_fits (Un to o t a) stands).result_fits) in
      put_done (Un to o t a) to (Number x) target.register stands (contains_head _ []) refl refl target.there
      (kept_value (Int t) target.register.ty (Number x) target.typed (unary_lies of_type o t v x is)) tt top memory

  pub conv_stays : (to : RegNo) (from : Opnd) (ty : Ty) (align : ℕ) → StandsAt p s.top f (Conv to from ty align) → Local p f.graph (Conv to from ty align) s.top s.memory u.top u.memory → Belongs p u
  conv_stays to from (Int t) align stands (x, (v, y, one, is, same), top, memory) =
      let target = typed_as f.graph to (λ r. IsKept (Int t) r) ((instr_fits (Conv to from (Int t) align) stands).result_fits) in
      put_done (Conv to from (Int t) align) to x target.register stands (contains_head _ []) refl refl target.there
      (subst (LiesIn target.register.ty) (sym same) (kept_value (Int t) target.register.ty (Number y) target.typed (conv_lies of_type t v y is)))
      (subst (PointsThere p.target s.memory) (sym same) tt) top memory
  conv_stays to from Ptr align stands (x, is, top, memory) =
      let target = typed_as f.graph to (λ r. IsKept Ptr r) ((instr_fits (Conv to from Ptr align) stands).result_fits) in
      put_done (Conv to from Ptr align) to x target.register stands (contains_head _ []) refl refl target.there
      (kept_value Ptr target.register.ty x target.typed (pointer_lies p f s stands.of before from x ((instr_fits (Conv to from Ptr align) stands).operands_lie) is))
      (pointer_there p f s stands.of before from x is) top memory

  distance_lies : (size : ℕ) (a b : Opnd) (t : Ty) (v : Value) → IsDistance size s.top a b t v → LiesIn t v × PointsThere p.target s.memory v
  distance_lies size a b (Int t) x (v, w, n, y, one, other, away, wrapped, same) = (subst (LiesIn (Int t)) (sym same) wrapped.0, subst (PointsThere p.target s.memory) (sym same) tt)
  distance_lies size a b Ptr x none = absurd none

  pub difference_stays : (to : RegNo) (a b : Opnd) (size : ℕ) → StandsAt p s.top f (PtrDiff to a b size) → Local p f.graph (PtrDiff to a b size) s.top s.memory u.top u.memory → Belongs p u
  difference_stays to a b size stands (v, is, top, memory) =
      let target = typed_as f.graph to (λ t. IsDistance size s.top a b t v) is in
      let lies = distance_lies size a b target.register.ty v target.typed in
      put_done (PtrDiff to a b size) to v target.register stands (contains_head _ []) refl refl target.there lies.0 lies.1 top memory

  pub if_stays : (o : Op) (ty : Ty) (a b : Opnd) (one other : NodeNo) → StandsAt p s.top f (If o ty a b one other) → Local p f.graph (If o ty a b one other) s.top s.memory u.top u.memory → Belongs p u
  if_stays o ty a b one other stands (holds, test, top, memory) = goes_done (If o ty a b one other) (cond holds one other) stands (side holds) refl refl top memory
    where
      side : (h : Bool) → Contains (one.0 ∷ (other.0 ∷ [])) ((cond h one other).0)
      side true = contains_head one.0 (other.0 ∷ [])
      side false = contains_second one.0 other.0 []

  pub jump_stays : (next : NodeNo) → StandsAt p s.top f (Jump next) → Local p f.graph (Jump next) s.top s.memory u.top u.memory → Belongs p u
  jump_stays next stands (top, memory) = goes_done (Jump next) next stands (contains_head next.0 []) refl refl top memory

  start_fits : (target : Target) → IsOfWidth (8 * size_of target Ptr) (pos 0)
  start_fits L64 = (omega (arith, ints), omega (arith, ints))

  -- a pointer to the start of a block that is there
  start_there : (b : ℕ) (c : Block) → slice_get s.memory b ≡ Some c → PointsThere p.target s.memory (Pointer b (pos 0))
  start_there b c there = record { block_there = slice_get_within s.memory b c there; offset_fits = start_fits p.target }

  address_stays : (i : Instr) (to : RegNo) (b : ℕ) (c : Block) → StandsAt p s.top f i → Contains (followers s.top.node.0 i) (s.top.node.0 + 1) → written i ≡ Some to → entered i ≡ None →
      TypeIs f.graph to (λ t. IsKept Ptr t) → slice_get s.memory b ≡ Some c → u.top ≡ put to (Pointer b (pos 0)) s.top → u.memory ≡ s.memory → Belongs p u
  address_stays i to b c stands next is none fits there top memory =
      let target = typed_as f.graph to (λ t. IsKept Ptr t) fits in
      put_done i to (Pointer b (pos 0)) target.register stands next is none target.there (kept_value Ptr target.register.ty (Pointer b (pos 0)) target.typed tt) (start_there b c there) top memory

  pub global_stays : (to : RegNo) (n : GlobalNo) → StandsAt p s.top f (AddrGlobal to n) → Local p f.graph (AddrGlobal to n) s.top s.memory u.top u.memory → Belongs p u
  global_stays to n stands (top, memory) =
      let global = item_at p.globals n.0 ((instr_fits (AddrGlobal to n) stands).callees_fit) in
      let block = before.statics.globals n.0 global.0 global.1 in
      address_stays (AddrGlobal to n) to n.0 block.0 stands (contains_head _ []) refl refl ((instr_fits (AddrGlobal to n) stands).result_fits) block.1 top memory

  pub literal_stays : (to : RegNo) (n : StrNo) → StandsAt p s.top f (AddrStr to n) → Local p f.graph (AddrStr to n) s.top s.memory u.top u.memory → Belongs p u
  literal_stays to n stands (top, memory) =
      let text = item_at p.texts n.0 ((instr_fits (AddrStr to n) stands).callees_fit) in
      let block = before.statics.literals n.0 text.0 text.1 in
      address_stays (AddrStr to n) to (length p.globals + n.0) block.0 stands (contains_head _ []) refl refl ((instr_fits (AddrStr to n) stands).result_fits) block.1 top memory

  pub slot_stays : (to : RegNo) (n : SlotNo) → StandsAt p s.top f (AddrSlot to n) → Local p f.graph (AddrSlot to n) s.top s.memory u.top u.memory → Belongs p u
  slot_stays to n stands (b, is, top, memory) =
      let inside : n.0 < length f.graph.slots = subst (λ (k : ℕ). n.0 < k) ((fits_before p f s stands.of before).place.slots) (held_within s.top.slots n.0 b is) in
      let slot = item_at f.graph.slots n.0 inside in
      let block = before.slots.blocks s.top f 0 n.0 b slot.0 refl stands.of slot.1 is in
      address_stays (AddrSlot to n) to b block.0 stands (contains_head _ []) refl refl ((instr_fits (AddrSlot to n) stands).result_fits) block.1 top memory

  -- a register that loses its value
  pub register_stays : (r : RegNo) → StandsAt p s.top f (Enter (variable.Reg r)) → Local p f.graph (Enter (variable.Reg r)) s.top s.memory u.top u.memory → Belongs p u
  register_stays r stands (top, memory) =
      let i : Instr = Enter (variable.Reg r) in
      let is = (instr_fits (Enter (variable.Reg r)) stands).opens_variables in
      let now : Frame = without_value r s.top in
      arrives p u now s.rest s.memory top below memory
      (belongs_kept p s.top now s.rest s.memory refl refl
      (belongs_of p f now stands.of (fits_without f s.top r is (variable_within (slice_get f.graph.regs r.0) f.graph.regs r.0 refl is) (fits_before p f s stands.of before) (Enter (variable.Reg r)) stands.node (contains_head _ []) refl refl))
      (record { registers = λ j w has. points_left j w has (same_or_not j r.0); arguments = (points_before p f s stands.of before).arguments })
      before)
    where
      variable_within : (o : Option Register) (xs : List Register) (j : ℕ) → slice_get xs j ≡ o → MatchOption o ⊥ (λ (x : Register). (x.param ≡ false) × (x.name ≢ None)) → j < length xs
      variable_within None xs j same is = absurd is
      variable_within (Some x) xs j same is = slice_get_within xs j x same

      points_left : (j : ℕ) (w : Value) → register_value (without_value r s.top) j ≡ Some w → (j ≡ r.0) ⊎ (j ≢ r.0) → PointsThere p.target s.memory w
      points_left j w has (inl same) =
          let inside : r.0 < length s.top.regs = within_regs f s.top r ((instr_fits (Enter (variable.Reg r)) stands).opens_variables) (variable_within (slice_get f.graph.regs r.0) f.graph.regs r.0 refl ((instr_fits (Enter (variable.Reg r)) stands).opens_variables)) (fits_before p f s stands.of before) in
          absurd (none_or_some _ w (no_value s.top r inside) (subst (λ (k : ℕ). register_value (without_value r s.top) k ≡ Some w) same has))
      points_left j w has (inr other) = (points_before p f s stands.of before).registers j w (sym (without_others s.top r j other) ∙ has)

pub plain_steps_stay : ResultsAreOfType → ((o : Op) → BinMembersCover o) → PlainStepsStay
plain_steps_stay of_type cover library p f (Const to value) s u whole stands plain step below before = const_stays of_type cover library p f s u whole before below to value stands step
plain_steps_stay of_type cover library p f (Copy to from) s u whole stands plain step below before = copy_stays of_type cover library p f s u whole before below to from stands step
plain_steps_stay of_type cover library p f (Bin to o ty a b) s u whole stands plain step below before = bin_stays of_type cover library p f s u whole before below to o ty a b stands step
plain_steps_stay of_type cover library p f (Un to o t a) s u whole stands plain step below before = un_stays of_type cover library p f s u whole before below to o t a stands step
plain_steps_stay of_type cover library p f (Conv to from ty align) s u whole stands plain step below before = conv_stays of_type cover library p f s u whole before below to from ty align stands step
plain_steps_stay of_type cover library p f (AddrSlot to n) s u whole stands plain step below before = slot_stays of_type cover library p f s u whole before below to n stands step
plain_steps_stay of_type cover library p f (AddrGlobal to n) s u whole stands plain step below before = global_stays of_type cover library p f s u whole before below to n stands step
plain_steps_stay of_type cover library p f (AddrStr to n) s u whole stands plain step below before = literal_stays of_type cover library p f s u whole before below to n stands step
plain_steps_stay of_type cover library p f (PtrDiff to a b size) s u whole stands plain step below before = difference_stays of_type cover library p f s u whole before below to a b size stands step
plain_steps_stay of_type cover library p f (Enter (variable.Reg r)) s u whole stands plain step below before = register_stays of_type cover library p f s u whole before below r stands step
plain_steps_stay of_type cover library p f (If o ty a b one other) s u whole stands plain step below before = if_stays of_type cover library p f s u whole before below o ty a b one other stands step
plain_steps_stay of_type cover library p f (Jump next) s u whole stands plain step below before = jump_stays of_type cover library p f s u whole before below next stands step
plain_steps_stay of_type cover library p f (PtrAdd to base index factor) s u whole stands plain step below before = absurd plain
plain_steps_stay of_type cover library p f (Load to at access) s u whole stands plain step below before = absurd plain
plain_steps_stay of_type cover library p f (Store at value access) s u whole stands plain step below before = absurd plain
plain_steps_stay of_type cover library p f (CopyBytes to from size align) s u whole stands plain step below before = absurd plain
plain_steps_stay of_type cover library p f (Fill slot size) s u whole stands plain step below before = absurd plain
plain_steps_stay of_type cover library p f (Enter (variable.Slot n)) s u whole stands plain step below before = absurd plain
plain_steps_stay of_type cover library p f (Leave slot) s u whole stands plain step below before = absurd plain
plain_steps_stay of_type cover library p f (Call to callee args strings) s u whole stands plain step below before = absurd plain
plain_steps_stay of_type cover library p f (Lib to lib args strings) s u whole stands plain step below before = absurd plain
plain_steps_stay of_type cover library p f (Return value) s u whole stands plain step below before = absurd plain
plain_steps_stay of_type cover library p f (Never reason) s u whole stands plain step below before = absurd plain
