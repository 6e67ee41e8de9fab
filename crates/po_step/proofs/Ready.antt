-- What an instruction finds of its operands where all obligations at its node hold in a state that belongs to a whole project.
use Rattle.std.specs.Prelude.{ℕ, ◌≡◌, ◌≤◌, ltb, false, true, cond, Bool, ℤ, pos, ◌*ℤ◌, List, [], ◌∷◌, All, Option, Some, None, MatchOption, length, slice_get}
use Rattle.std.proofs.Common.{refl, subst, arith}
use Rattle.std.proofs.lemmas.Bool.{lt-ltb}
use Rattle.po_base.specs.declared.numbers.SlotNo.{SlotNo}
use Rattle.po_base.specs.declared.operators.Op.{Op}
use Rattle.po_base.specs.declared.operators.Op.TheVariants as op
use Rattle.po_base.specs.declared.operand.Opnd.{Opnd}
use Rattle.po_arith.specs.declared.int_type.IntType.{IntType}
use Rattle.po_interval.specs.Ranges.{takes_count}
use Rattle.po_ir.specs.declared.graph.Node.{Node}
use Rattle.po_ir.specs.declared.graph.Reg.{Reg as Register}
use Rattle.po_ir.specs.declared.graph.Slot.{Slot}
use Rattle.po_ir.specs.declared.instr.Access.{Access}
use Rattle.po_ir.specs.declared.instr.Ty.{Ty}
use Rattle.po_ir.specs.declared.instr.Ty.TheVariants.{Int, Ptr}
use Rattle.po_ir.specs.declared.instr.Instr.{Instr}
use Rattle.po_ir.specs.declared.instr.Instr.TheVariants.{Const, Copy, Bin, Un, Conv, AddrSlot, AddrGlobal, AddrStr, PtrAdd, PtrDiff, Load, Store, CopyBytes, Fill, Enter, Leave, Call, Lib, If, Jump, Return, Never}
use Rattle.po_ir.specs.declared.project.Function.{Function}
use Rattle.po_ir.specs.declared.project.Project.{Project}
use Rattle.po_ir.specs.IntTypes as ir
use Rattle.po_ir.specs.IntTypes.{types_in}
use Rattle.po_ir.specs.Types.{Lies, LiesAmongIntegers, is_shift}
use Rattle.po_ir.specs.Whole.{Signature, FunctionFits, InstructionFits, AccessFits}
use Rattle.po_pred.specs.declared.pred.Pred.TheVariants.{Aligned}
use Rattle.po_gen.specs.Asks.{Required, asks, place, number, alignment, is_filled, load}
use Rattle.po_memory.specs.declared.block.Block.{Block}
use Rattle.po_memory.specs.declared.frame.Frame.{Frame}
use Rattle.po_memory.specs.declared.value.Value.{Value}
use Rattle.po_memory.specs.declared.value.Value.TheVariants.{Number}
use Rattle.po_memory.specs.Accesses.{LoadAllowed}
use Rattle.po_memory.specs.Blocks.{IsAligned, IsFilled, IsLive, IsNotNull, OnPointer}
use Rattle.po_memory.specs.Bytes as stored_bytes
use Rattle.po_memory.specs.Bytes.{IsAccess}
use Rattle.po_memory.specs.Holding.{Holds}
use Rattle.po_memory.specs.Values.{EachNumber}
use Rattle.po_meaning.specs.Operands.{pointer_value, slot_block}
use Rattle.po_meaning.specs.States.{State}
use Rattle.po_meaning.specs.Belongs.{IsOfSlot}
use Rattle.po_meaning.proofs.Calls.{value_lies}
use Rattle.po_meaning.proofs.Held.{Each, asks_hold, each_first, each_last, on_pointer, spanned, store_allowed, on_constant}
use Rattle.po_lists.proofs.Integers.{once}
use Rattle.po_lists.proofs.Places.{all_at, all_head}
use Rattle.po_meaning.proofs.Slots.{entered_block}
use Rattle.po_operate.specs.Ready.{IsNumberOf, IsReady}
use Rattle.po_step.specs.Stepping.{IsReadyAt}

no_shift : (o : Op) → takes_count o ≡ false → is_shift o ≡ false
no_shift op.Add is = refl
no_shift op.Sub is = refl
no_shift op.Mul is = refl
no_shift op.Div is = refl
no_shift op.Rem is = refl
no_shift op.And is = refl
no_shift op.Or is = refl
no_shift op.Xor is = refl
no_shift op.Shl is = absurd (cc)
no_shift op.Shr is = absurd (cc)
no_shift op.Eq is = refl
no_shift op.Ne is = refl
no_shift op.Lt is = refl
no_shift op.Le is = refl
no_shift op.Gt is = refl
no_shift op.Ge is = refl

same_words : (t : Ty) → ir.IsTypeOfTarget t → stored_bytes.IsTypeOfTarget t
same_words (Int t) is = is
same_words Ptr is = tt

-- ---- what a load asks

module _ (fr : Frame) (m : List Block) (a : Opnd) (v : Value) (is : pointer_value fr a ≡ Some v) where
  aligned_in : (align : ℕ) (b : Bool) → b ≡ true → Each (Holds fr m) (cond b (Aligned (place a) align ∷ []) []) → OnPointer (IsAligned align) m v
  aligned_in align true is_true h = on_pointer fr a v (OnPointer (IsAligned align) m) is h.0
  aligned_in align false is_true h = absurd (cc)

  load_allowed : (access : Access) → Each (Holds fr m) (load (place a) access) → LoadAllowed access m v
  load_allowed access h = record {
    not_null = on_pointer fr a v IsNotNull is h.0;
    live = on_pointer fr a v (OnPointer IsLive m) is h.1.0;
    span = spanned fr m a v is access.size h.1.1.0;
    aligned = λ above. aligned_in access.align (ltb 1 access.align) (lt-ltb 1 access.align above) (each_first (Holds fr m) (alignment (place a) access.align) (is_filled (place a) access.size ∷ []) h.1.1.1);
    filled = filled access.size (each_last (Holds fr m) (alignment (place a) access.align) (is_filled (place a) access.size ∷ []) h.1.1.1).0;
  }
    where
      filled : (size : ℕ) → Holds fr m (is_filled (place a) size) → OnPointer (IsFilled (pos 0) (pos size)) m v
      filled size h =
          let all = on_pointer fr a v (λ u. EachNumber fr (number (pos 0)) (λ lo. EachNumber fr (number (pos size)) (λ hi. OnPointer (IsFilled (pos 1 *ℤ lo) (pos 1 *ℤ hi)) m u))) is h in
          let from = on_constant fr (pos 0) (λ lo. EachNumber fr (number (pos size)) (λ hi. OnPointer (IsFilled (pos 1 *ℤ lo) (pos 1 *ℤ hi)) m v)) all in
          subst (λ hi. OnPointer (IsFilled (pos 0) hi) m v) (once (pos size))
          (subst (λ lo. OnPointer (IsFilled lo (pos 1 *ℤ pos size)) m v) (once (pos 0))
          (on_constant fr (pos size) (λ hi. OnPointer (IsFilled (pos 1 *ℤ pos 0) (pos 1 *ℤ hi)) m v) from))

-- ---- instructions

module _ (required : Required) (library : List Signature) (p : Project) (f : Function) (i : Instr) (s : State) (at : IsReadyAt required library p f i s) where
  function : FunctionFits library p f
  function = all_at (FunctionFits library p) p.functions s.top.function.0 f at.whole.functions at.stands.of

  fits : InstructionFits library p f i
  fits = function.instructions s.top.node.0 i at.stands.node

  types : All ir.IsTypeOfTarget (types_in i)
  types = subst (λ (j : Instr). All ir.IsTypeOfTarget (types_in j)) at.stands.node.2 (all_at (λ (n : Node). All ir.IsTypeOfTarget (types_in n.instr)) f.graph.nodes s.top.node.0 at.stands.node.0 function.types.instructions at.stands.node.1)

  pub held_asks : Each (Holds s.top s.memory) (asks required f.graph i)
  held_asks = asks_hold required p at.report s f i at.stands at.held

  number_of : (t : IntType) (a : Opnd) → Lies f.graph (Int t) a → IsNumberOf t s.top a
  number_of t a lies v is = value_lies p f s at.stands.of at.belongs (Int t) a (Number v) lies is

  -- the block of a slot that is entered
  slot_of : (slot : SlotNo) (b : ℕ) → slot_block s.top slot.0 ≡ Some b → (is : Slot) → slice_get f.graph.slots slot.0 ≡ Some is → (c : Block) × (slice_get s.memory b ≡ Some c) × IsOfSlot p is b c
  slot_of slot b entered is there = at.belongs.slots.blocks s.top f 0 slot.0 b is refl at.stands.of there entered

is_access : (required : Required) (library : List Signature) (p : Project) (f : Function) (i : Instr) (s : State) (at : IsReadyAt required library p f i s) (access : Access) (more : List Ty) → types_in i ≡ access.ty ∷ more → AccessFits p.target access → IsAccess access
is_access required library p f i s at access more first fit = record {
  typed = same_words access.ty (all_head ir.IsTypeOfTarget access.ty more (subst (All ir.IsTypeOfTarget) first (types required library p f i s at)));
  fits = (p.target, fit);
}

pub ready : (required : Required) (library : List Signature) (p : Project) (f : Function) (i : Instr) (s : State) → IsReadyAt required library p f i s → IsReady f.graph i s.top s.memory
ready required library p f (Bin to o (Int t) a b) s at =
    let i : Instr = Bin to o (Int t) a b in
    let lie = (fits required library p f i s at).operands_lie in
    record {
      typed = all_head ir.IsTypeOfTarget (Int t) [] (types required library p f i s at);
      first = number_of required library p f i s at t a lie.0;
      second = λ plain. number_of required library p f i s at t b (subst (λ (c : Bool). cond c (LiesAmongIntegers f.graph b) (Lies f.graph (Int t) b)) (no_shift o plain) lie.1);
    }
ready required library p f (Bin to o Ptr a b) s at = tt
ready required library p f (Un to o t a) s at =
    let i : Instr = Un to o t a in
    (all_head ir.IsTypeOfTarget (Int t) [] (types required library p f i s at), number_of required library p f i s at t a (fits required library p f i s at).operands_lie)
ready required library p f (Conv to from ty align) s at = all_head ir.IsTypeOfTarget ty [] (types required library p f (Conv to from ty align) s at)
ready required library p f (PtrDiff to a b size) s at =
    let i : Instr = PtrDiff to a b size in
    ((fits required library p f i s at).numbers_fit, λ register there. all_at (λ (x : Register). ir.IsTypeOfTarget x.ty) f.graph.regs to.0 register (function required library p f i s at).types.registers there)
ready required library p f (Load to a access) s at =
    let i : Instr = Load to a access in
    (is_access required library p f i s at access [] refl (fits required library p f i s at).numbers_fit, λ v is. load_allowed s.top s.memory a v is access (held_asks required library p f i s at))
ready required library p f (Store a value access) s at =
    let i : Instr = Store a value access in
    (is_access required library p f i s at access [] refl (fits required library p f i s at).numbers_fit, λ v is. store_allowed s.top s.memory a v is access (held_asks required library p f i s at))
ready required library p f (CopyBytes to from size align) s at =
    let i : Instr = CopyBytes to from size align in
    let h = held_asks required library p f i s at in
    (λ v is. spanned s.top s.memory to v is size h.1.1.1.1.0, λ v is. spanned s.top s.memory from v is size h.1.1.1.1.1.0)
ready required library p f (Fill slot size) s at = λ b entered. at_slot (slice_get f.graph.slots slot.0) refl (fits required library p f (Fill slot size) s at).numbers_fit b entered
  where
    at_slot : (o : Option Slot) → slice_get f.graph.slots slot.0 ≡ o → MatchOption o ⊥ (λ (x : Slot). size ≤ x.size) → (b : ℕ) → slot_block s.top slot.0 ≡ Some b → (c : Block) × (slice_get s.memory b ≡ Some c) × (size ≤ length c.bytes)
    at_slot None there fit b entered = absurd fit
    at_slot (Some x) there fit b entered =
        let block = slot_of required library p f (Fill slot size) s at slot b entered x there in
        let long = block.2.size in
        (block.0, block.1, omega (arith, fit, long))
ready required library p f (Leave slot) s at = λ b entered. let block = entered_block p s at.belongs 0 slot.0 b (s.top, refl, entered) in (block.1, block.2, tt)
ready required library p f (Const to value) s at = tt
ready required library p f (Copy to from) s at = tt
ready required library p f (AddrSlot to slot) s at = tt
ready required library p f (AddrGlobal to global) s at = tt
ready required library p f (AddrStr to text) s at = tt
ready required library p f (PtrAdd to base index factor) s at = tt
ready required library p f (Enter what) s at = tt
ready required library p f (Call to callee args strings) s at = tt
ready required library p f (Lib to lib args strings) s at = tt
ready required library p f (If o ty a b yes_side no_side) s at = tt
ready required library p f (Jump next) s at = tt
ready required library p f (Return value) s at = tt
ready required library p f (Never reason) s at = tt
