-- Where all obligations hold in a state that belongs to a project, a state follows or the run ends.
use Rattle.std.specs.Prelude.{ℕ, ◌+◌, ◌≡◌, ◌<◌, ◌⊎◌, ◌&&◌, true, false, not, cond, int_le, Bool, ℤ, pos, ◌≤ℤ◌, ◌-ℤ◌, ◌*ℤ◌, int_div, List, [], ◌∷◌, ◌++◌, All, Option, Some, None, MatchOption, length, replicate, slice_get}
use Rattle.std.proofs.Common.{refl, sym, ◌∙◌, subst, arith, inl, inr}
use Rattle.std.proofs.lemmas.Bool.{and_parts}
use Rattle.std.proofs.lemmas.Int.{ints}
use Rattle.std.proofs.lemmas.Option.{slice_get_within}
use Rattle.po_lists.proofs.Places.{all_at, all_tail, all_head, item_at}
use Rattle.po_memory.proofs.General.{one_number}
use Rattle.po_base.specs.declared.numbers.FunNo.{FunNo}
use Rattle.po_base.specs.declared.numbers.LibNo.{LibNo}
use Rattle.po_base.specs.declared.numbers.NodeNo.{NodeNo}
use Rattle.po_base.specs.declared.numbers.RegNo.{RegNo}
use Rattle.po_base.specs.declared.numbers.SlotNo.{SlotNo}
use Rattle.po_base.specs.declared.operators.Op.{Op}
use Rattle.po_base.specs.declared.operators.Op.TheVariants as op
use Rattle.po_base.specs.declared.operators.UnOp.{UnOp}
use Rattle.po_base.specs.declared.operand.Opnd.{Opnd}
use Rattle.po_base.specs.declared.operand.Opnd.TheVariants as operand
use Rattle.po_arith.specs.declared.int_type.IntType.{IntType}
use Rattle.po_arith.specs.Types.{IsIntType, IsOfType, least, greatest}
use Rattle.po_arith.proofs.Comparing.{le_tells}
use Rattle.po_interval.specs.Results.{truth}
use Rattle.po_ir.specs.declared.graph.Node.{Node}
use Rattle.po_ir.specs.declared.graph.Reg.{Reg as Register}
use Rattle.po_ir.specs.declared.instr.Access.{Access}
use Rattle.po_ir.specs.declared.instr.Callee.TheVariants.{Fun, Extern as Undefined}
use Rattle.po_ir.specs.declared.instr.Ty.{Ty}
use Rattle.po_ir.specs.declared.instr.Ty.TheVariants.{Int, Ptr}
use Rattle.po_ir.specs.declared.instr.Instr.{Instr}
use Rattle.po_ir.specs.declared.instr.Instr.TheVariants.{Const, Copy, Bin, Un, Conv, AddrSlot, AddrGlobal, AddrStr, PtrAdd, PtrDiff, Load, Store, CopyBytes, Fill, Enter, Leave, Call, Lib, If, Jump, Return, Never}
use Rattle.po_ir.specs.declared.instr.Local.TheVariants as variable
use Rattle.po_ir.specs.declared.project.Function.{Function}
use Rattle.po_ir.specs.declared.project.Project.{Project}
use Rattle.po_ir.specs.IntTypes.{types_in}
use Rattle.po_ir.specs.IntTypes as ir
use Rattle.po_ir.specs.Instructions.{operands, used}
use Rattle.po_ir.specs.Types.{TypeIs, IsKept, IsValue, IsInteger, Lies, LiesAmongIntegers, is_comparison, is_shift}
use Rattle.po_ir.specs.Valid.{IsThere, NamesParts}
use Rattle.po_ir.specs.Whole.{Signature, IsWhole, FunctionFits, InstructionFits, AccessFits, LibraryCallFits, Passes, Gives, parameter_types}
use Rattle.po_core.specs.declared.report.Report.{Report}
use Rattle.po_pred.specs.declared.pred.Pred.{Pred}
use Rattle.po_pred.specs.declared.pred.Rule.{Rule}
use Rattle.po_gen.specs.Asks.{Required, asks, place, pair, comparison, keeps, keeps_type, keeps_register, is_of_type, in_type}
use Rattle.po_memory.specs.declared.block.Block.{Block}
use Rattle.po_memory.specs.declared.frame.Frame.{Frame}
use Rattle.po_memory.specs.declared.value.Byte.TheVariants.{Blank}
use Rattle.po_memory.specs.declared.value.Value.{Value}
use Rattle.po_memory.specs.declared.value.Value.TheVariants.{Number, Pointer}
use Rattle.po_memory.specs.Blocks.{IsNotNull, IsLive, IntoOne, OnPointer}
use Rattle.po_memory.specs.Bytes as stored_bytes
use Rattle.po_memory.specs.Bytes.{IsAccess, LiesIn, zeros}
use Rattle.po_memory.specs.Holding.{Holds}
use Rattle.po_memory.specs.Passing.{HasValue}
use Rattle.po_memory.specs.Values.{moved, EachPointer}
use Rattle.po_meaning.specs.Operands.{as_value, block_held, slot_block, at_node, onward, put, without_value, with_block, receive, value_at, pointer_value, Is, ArePassed}
use Rattle.po_meaning.specs.Pointers.{compares}
use Rattle.po_meaning.specs.States.{State, StandsAt, start_frame}
use Rattle.po_meaning.specs.Local.{Tests, AreAway, IsDistance}
use Rattle.po_meaning.specs.Steps.{Returned}
use Rattle.po_meaning.specs.Checks.{AllHold}
use Rattle.po_meaning.specs.Belongs.{HasSome, Calls, Wait, Belongs}
use Rattle.po_meaning.specs.Following.{Follows, IsPassedTo, StatesFollow, LibraryCallsPass}
use Rattle.po_meaning.proofs.Arithmetic.{conv_some, binary_some, unary_some}
use Rattle.po_meaning.proofs.Choices.{wrapped_some, InOne, in_one, IsOrder, compare_some, located, read_some, write_some, value_read, stored_some, copied_some, kill_some, kills_some}
use Rattle.po_meaning.proofs.Entry.{lie_in}
use Rattle.po_meaning.proofs.Having.{In, register_set, operand_value, operand_number, operand_integer, operand_pointer}
use Rattle.po_meaning.proofs.Held.{Each, asks_hold, on_pointer, on_number, spanned}
use Rattle.po_meaning.proofs.Parts.{read_size}
use Rattle.po_meaning.proofs.Plain.{typed_as, fits_before, register_lies}
use Rattle.po_meaning.proofs.Slots.{entered_block}
use Rattle.po_meaning.proofs.States.{state}

none_or_more : (frames : List Frame) → (frames ≡ []) ⊎ ((first : Frame) × (others : List Frame) × (frames ≡ first ∷ others))
none_or_more [] = inl refl
none_or_more (first ∷ others) = inr (first, others, refl)

in_all : {X : Type 0} (P : X → Type 0) (xs : List X) (x : X) → All P xs → In xs x → P x
in_all P [] x all among = absurd among
in_all P (y ∷ xs) x all (inl same) = subst P same (all_head P y xs all)
in_all P (y ∷ xs) x all (inr among) = in_all P xs x (all_tail P y xs all) among

module _ (required : Required) (library : List Signature) (p : Project) (r : Report Pred Rule) (f : Function) (s : State) (whole : IsWhole library p) (held : AllHold required p r s) (before : Belongs p s) where
  abbrev H : Pred → Type 0
  H q = Holds s.top s.memory q

  module _ (i : Instr) (stands : StandsAt p s.top f i) where
    function : FunctionFits library p f
    function = all_at (FunctionFits library p) p.functions s.top.function.0 f whole.functions stands.of

    fits : InstructionFits library p f i
    fits = function.instructions s.top.node.0 i stands.node

    asked : Each (Holds s.top s.memory) (asks required f.graph i)
    asked = asks_hold required p r s f i stands held

    names : NamesParts f.graph i
    names = subst (NamesParts f.graph) stands.node.2 (all_at (λ (n : Node). NamesParts f.graph n.instr) f.graph.nodes s.top.node.0 stands.node.0 function.valid.0 stands.node.1)

    types : All ir.IsTypeOfTarget (types_in i)
    types = subst (λ (j : Instr). All ir.IsTypeOfTarget (types_in j)) stands.node.2 (all_at (λ (n : Node). All ir.IsTypeOfTarget (types_in n.instr)) f.graph.nodes s.top.node.0 stands.node.0 function.types.instructions stands.node.1)

    int_of : (t : IntType) → In (types_in i) (Int t) → IsIntType t
    int_of t among = in_all ir.IsTypeOfTarget (types_in i) (Int t) types among

    slot_of : (n : SlotNo) → used i ≡ Some n → HasSome (slot_block s.top n.0)
    slot_of n uses = (fits_before p f s stands.of before).slots n (0, (i, stands.node, uses))

    there : (b : ℕ) (n : SlotNo) → slot_block s.top n.0 ≡ Some b → b < length s.memory
    there b n is = let block = entered_block p s before 0 n.0 b (s.top, refl, is) in slice_get_within s.memory b block.1 block.2

    pointer_of : (a : Opnd) → In (operands i) a → Lies f.graph Ptr a → (v : Value) × (pointer_value s.top a ≡ Some v) × LiesIn Ptr v
    pointer_of = operand_pointer required p r f i s stands held before

    number_of : (t : IntType) (a : Opnd) → In (operands i) a → Lies f.graph (Int t) a → (n : ℤ) × Is s.top a n × IsOfType t n
    number_of = operand_number required p r f i s stands held before

    integer_of : (a : Opnd) → In (operands i) a → LiesAmongIntegers f.graph a → (n : ℤ) × Is s.top a n
    integer_of = operand_integer required p r f i s stands held before

    value_of : (t : Ty) (a : Opnd) → In (operands i) a → Lies f.graph t a → HasSome (value_at s.top t a)
    value_of = operand_value required p r f i s stands held before

  type_is : (to : RegNo) (x : Register) (P : Ty → Type 0) → slice_get f.graph.regs to.0 ≡ Some x → P x.ty → TypeIs f.graph to P
  type_is to x P here is = subst (λ (o : Option Register). MatchOption o ⊥ (λ (y : Register). P y.ty)) (sym here) is

  -- ---- numbers

  const_follows : (to : RegNo) (value : ℤ) → StandsAt p s.top f (Const to value) → Follows p f (Const to value) s
  const_follows to value stands =
      let target = typed_as f.graph to (λ t. IsValue t value) (fits (Const to value) stands).result_fits in
      inl (state (put to (as_value target.register.ty value) s.top) s.rest s.memory, ((target.register.ty, type_is to target.register (λ t. t ≡ target.register.ty) target.there refl, refl, refl), refl))

  copy_follows : (to from : RegNo) → StandsAt p s.top f (Copy to from) → Follows p f (Copy to from) s
  copy_follows to from stands =
      let source = typed_as f.graph from (λ k. TypeIs f.graph to (λ t. IsKept k t)) (fits (Copy to from) stands).result_fits in
      let value = register_set required p r f (Copy to from) s stands held before from source.register source.there (inl refl) in
      inl (state (put to value.0 s.top) s.rest s.memory, ((value.0, value.1, refl, refl), refl))

  second_of : (i : Instr) (o : Op) (t : IntType) (b : Opnd) (c : Bool) → StandsAt p s.top f i → In (operands i) b → is_shift o ≡ c → cond c (LiesAmongIntegers f.graph b) (Lies f.graph (Int t) b) → (w : ℤ) × Is s.top b w × (is_shift o ≡ false → IsOfType t w)
  second_of i o t b true stands among kind lies = let found = integer_of i stands b among lies in (found.0, found.1, λ clash. absurd (let both : true ≡ false = sym kind ∙ clash in cc))
  second_of i o t b false stands among kind lies = let found = number_of i stands t b among lies in (found.0, found.1, λ is. found.2)

  bin_follows : (to : RegNo) (o : Op) (t : IntType) (a b : Opnd) → StandsAt p s.top f (Bin to o (Int t) a b) → Follows p f (Bin to o (Int t) a b) s
  bin_follows to o t a b stands =
      let i : Instr = Bin to o (Int t) a b in
      let lie = (fits i stands).operands_lie in
      let one = number_of i stands t a (inl refl) lie.0 in
      let other = second_of i o t b (is_shift o) stands (inr (inl refl)) refl lie.1 in
      let result = binary_some s.top s.memory t (int_of i stands t (inl refl)) a one.0 one.1 one.2 b other.0 other.1 o other.2 (asked i stands) in
      inl (state (put to (Number result.0) s.top) s.rest s.memory, ((Number result.0, (one.0, other.0, result.0, one.1, other.1, result.1, refl), refl, refl), refl))

  un_follows : (to : RegNo) (o : UnOp) (t : IntType) (a : Opnd) → StandsAt p s.top f (Un to o t a) → Follows p f (Un to o t a) s
  un_follows to o t a stands =
      let i : Instr = Un to o t a in
      let one = number_of i stands t a (inl refl) (fits i stands).operands_lie in
      let result = unary_some s.top s.memory t (int_of i stands t (inl refl)) a one.0 one.1 one.2 o (asked i stands) in
      inl (state (put to (Number result.0) s.top) s.rest s.memory, ((one.0, result.0, one.1, result.1, refl, refl), refl))

  -- ---- conversions

  is_between_type : (t : IntType) (v : ℤ) → is_of_type t v ≡ true → IsOfType t v
  is_between_type t v is = let parts = and_parts (int_le (least t) v) (int_le v (greatest t)) is in (le_tells (least t) v parts.0, le_tells v (greatest t) parts.1)

  kept_number : (t : IntType) (k : Ty) (v : ℤ) → keeps_type t k ≡ true → LiesIn k (Number v) → IsOfType t v
  kept_number t (Int k) v is lies =
      let parts = and_parts (is_of_type t (least k)) (is_of_type t (greatest k)) is in
      let low = is_between_type t (least k) parts.0 in
      let high = is_between_type t (greatest k) parts.1 in
      let first = low.0 in
      let last = high.1 in
      let from = lies.0 in
      let to = lies.1 in
      (omega (arith, ints, first, from), omega (arith, ints, last, to))
  kept_number t Ptr v is lies = absurd (cc)

  keeps_number : (i : Instr) (t : IntType) (a : Opnd) (v : ℤ) → StandsAt p s.top f i → LiesAmongIntegers f.graph a → Is s.top a v → keeps f.graph t a ≡ true → IsOfType t v
  keeps_number i t (operand.Reg n) v stands lies has kept =
      let reg = typed_as f.graph n IsInteger lies in
      kept_number t reg.register.ty v (subst (λ (o : Option Register). keeps_register t o ≡ true) reg.there kept) (register_lies p f s stands.of before n reg.register (Number v) reg.there has)
  keeps_number i t (operand.Num n) v stands lies has kept = let same : n ≡ v = one_number n v has in subst (IsOfType t) same (is_between_type t n kept)

  in_range : (t : IntType) (a : Opnd) (v : ℤ) (c : Bool) → Is s.top a v → t.signed ≡ true → (c ≡ true → IsOfType t v) → Each H (cond (t.signed && not c) (in_type t (place a) ∷ []) []) → IsOfType t v
  in_range t a v true has signed kept h = kept refl
  in_range t a v false has signed kept h =
      let asked_one : Each H (in_type t (place a) ∷ []) = subst (λ (b : Bool). Each H (cond (b && true) (in_type t (place a) ∷ []) [])) signed h in
      on_number s.top a v (λ z. (least t ≤ℤ z) × (z ≤ℤ greatest t)) has asked_one.0

  conv_follows : (to : RegNo) (from : Opnd) (ty : Ty) (align : ℕ) → StandsAt p s.top f (Conv to from ty align) → Follows p f (Conv to from ty align) s
  conv_follows to from (Int t) align stands =
      let i : Instr = Conv to from (Int t) align in
      let lies : LiesAmongIntegers f.graph from = (fits i stands).operands_lie in
      let one = integer_of i stands from (inl refl) lies in
      let result = conv_some t one.0 (λ signed. in_range t from one.0 (keeps f.graph t from) one.1 signed (keeps_number i t from one.0 stands lies one.1) (asked i stands)) in
      inl (state (put to (Number result.0) s.top) s.rest s.memory, ((Number result.0, (one.0, result.0, one.1, result.1, refl), refl, refl), refl))
  conv_follows to from Ptr align stands =
      let i : Instr = Conv to from Ptr align in
      let one = pointer_of i stands from (inl refl) (fits i stands).operands_lie in
      inl (state (put to one.0 s.top) s.rest s.memory, ((one.0, one.1, refl, refl), refl))

  -- ---- pointers

  in_one_block : (a b : Opnd) (v w : Value) → pointer_value s.top a ≡ Some v → pointer_value s.top b ≡ Some w → Each H (pair (place a) (place b)) → InOne v w
  in_one_block a b v w one other h =
      let same = on_pointer s.top a v (λ x. EachPointer s.top (place b) (λ y. IntoOne x y)) one h.1.1.1.1.0 in
      in_one s.memory v w (on_pointer s.top a v IsNotNull one h.0) (on_pointer s.top b w IsNotNull other h.1.0) (on_pointer s.top a v (OnPointer IsLive s.memory) one h.1.1.0) (on_pointer s.top b w (OnPointer IsLive s.memory) other h.1.1.1.0)
      (on_pointer s.top b w (λ y. IntoOne v y) other same)

  ordered : (o : Op) (a b : Opnd) (v w : Value) → pointer_value s.top a ≡ Some v → pointer_value s.top b ≡ Some w → Each H (comparison o (place a) (place b)) → IsOrder o → InOne v w
  ordered op.Lt a b v w one other h order = in_one_block a b v w one other h
  ordered op.Le a b v w one other h order = in_one_block a b v w one other h
  ordered op.Gt a b v w one other h order = in_one_block a b v w one other h
  ordered op.Ge a b v w one other h order = in_one_block a b v w one other h
  ordered op.Add a b v w one other h order = absurd order
  ordered op.Sub a b v w one other h order = absurd order
  ordered op.Mul a b v w one other h order = absurd order
  ordered op.Div a b v w one other h order = absurd order
  ordered op.Rem a b v w one other h order = absurd order
  ordered op.And a b v w one other h order = absurd order
  ordered op.Or a b v w one other h order = absurd order
  ordered op.Xor a b v w one other h order = absurd order
  ordered op.Shl a b v w one other h order = absurd order
  ordered op.Shr a b v w one other h order = absurd order
  ordered op.Eq a b v w one other h order = absurd order
  ordered op.Ne a b v w one other h order = absurd order

  pointer_test : (i : Instr) (o : Op) (a b : Opnd) → StandsAt p s.top f i → In (operands i) a → In (operands i) b → Lies f.graph Ptr a → Lies f.graph Ptr b → is_comparison o ≡ true → Each H (comparison o (place a) (place b)) → (holds : Bool) × Tests o Ptr s.top a b holds
  pointer_test i o a b stands among also lies lie compares h =
      let one = pointer_of i stands a among lies in
      let other = pointer_of i stands b also lie in
      let found = compare_some o one.0 other.0 compares one.2 other.2 (ordered o a b one.0 other.0 one.1 other.1 h) in
      (found.0, (one.0, other.0, one.1, other.1, found.1))

  compare_follows : (to : RegNo) (o : Op) (a b : Opnd) → StandsAt p s.top f (Bin to o Ptr a b) → Follows p f (Bin to o Ptr a b) s
  compare_follows to o a b stands =
      let i : Instr = Bin to o Ptr a b in
      let found = pointer_test i o a b stands (inl refl) (inr (inl refl)) (fits i stands).operands_lie.0 (second (is_shift o) refl (fits i stands).operands_lie.1) (fits i stands).compares_pointers (asked i stands) in
      inl (state (put to (Number (truth found.0)) s.top) s.rest s.memory, ((Number (truth found.0), (found.0, found.1, refl), refl, refl), refl))
    where
      no_shift : (o : Op) → is_comparison o ≡ true → is_shift o ≡ true → ⊥
      no_shift op.Add one other = absurd (cc)
      no_shift op.Sub one other = absurd (cc)
      no_shift op.Mul one other = absurd (cc)
      no_shift op.Div one other = absurd (cc)
      no_shift op.Rem one other = absurd (cc)
      no_shift op.And one other = absurd (cc)
      no_shift op.Or one other = absurd (cc)
      no_shift op.Xor one other = absurd (cc)
      no_shift op.Shl one other = absurd (cc)
      no_shift op.Shr one other = absurd (cc)
      no_shift op.Eq one other = absurd (cc)
      no_shift op.Ne one other = absurd (cc)
      no_shift op.Lt one other = absurd (cc)
      no_shift op.Le one other = absurd (cc)
      no_shift op.Gt one other = absurd (cc)
      no_shift op.Ge one other = absurd (cc)

      second : (c : Bool) → is_shift o ≡ c → cond c (LiesAmongIntegers f.graph b) (Lies f.graph Ptr b) → Lies f.graph Ptr b
      second true is lies = absurd (no_shift o (fits (Bin to o Ptr a b) stands).compares_pointers is)
      second false is lies = lies

  add_follows : (to : RegNo) (base index : Opnd) (factor : ℤ) → StandsAt p s.top f (PtrAdd to base index factor) → Follows p f (PtrAdd to base index factor) s
  add_follows to base index factor stands =
      let i : Instr = PtrAdd to base index factor in
      let one = pointer_of i stands base (inl refl) (fits i stands).operands_lie.0 in
      let other = integer_of i stands index (inr (inl refl)) (fits i stands).operands_lie.1 in
      inl (state (put to (moved one.0 (factor *ℤ other.0)) s.top) s.rest s.memory, ((one.0, other.0, one.1, other.1, refl, refl), refl))

  distance_some : (size : ℕ) (a b : Opnd) (v w : Value) (t : Ty) → pointer_value s.top a ≡ Some v → pointer_value s.top b ≡ Some w → InOne v w → IsInteger t → ir.IsTypeOfTarget t → (x : Value) × IsDistance size s.top a b t x
  distance_some size a b v w Ptr one other into integer typed = absurd integer
  distance_some size a b v w (Int t) one other into integer typed =
      let result = wrapped_some t (int_div (into.first -ℤ into.second) (pos size)) typed in
      (Number result.0, (v, w, int_div (into.first -ℤ into.second) (pos size), result.0, one, other, away, result.1, refl))
    where
      away : AreAway size v w (int_div (into.first -ℤ into.second) (pos size))
      away =
          subst (λ (x : Value). AreAway size x w (int_div (into.first -ℤ into.second) (pos size))) (sym into.one)
          (subst (λ (y : Value). AreAway size (Pointer into.block into.first) y (int_div (into.first -ℤ into.second) (pos size))) (sym into.other) (refl, refl))

  difference_follows : (to : RegNo) (a b : Opnd) (size : ℕ) → StandsAt p s.top f (PtrDiff to a b size) → Follows p f (PtrDiff to a b size) s
  difference_follows to a b size stands =
      let i : Instr = PtrDiff to a b size in
      let one = pointer_of i stands a (inl refl) (fits i stands).operands_lie.0 in
      let other = pointer_of i stands b (inr (inl refl)) (fits i stands).operands_lie.1 in
      let target = typed_as f.graph to IsInteger (fits i stands).result_fits in
      let typed = all_at (λ (x : Register). ir.IsTypeOfTarget x.ty) f.graph.regs to.0 target.register (function i stands).types.registers target.there in
      let result = distance_some size a b one.0 other.0 target.register.ty one.1 other.1 (in_one_block a b one.0 other.0 one.1 other.1 (asked i stands)) target.typed typed in
      inl (state (put to result.0 s.top) s.rest s.memory, ((result.0, type_is to target.register (λ t. IsDistance size s.top a b t result.0) target.there result.1, refl, refl), refl))

  address_follows : (to : RegNo) (n : SlotNo) → StandsAt p s.top f (AddrSlot to n) → Follows p f (AddrSlot to n) s
  address_follows to n stands = let block = slot_of (AddrSlot to n) stands n refl in inl (state (put to (Pointer block.0 (pos 0)) s.top) s.rest s.memory, ((block.0, block.1, refl, refl), refl))

  -- ---- memory

  is_access : (i : Instr) (access : Access) → StandsAt p s.top f i → In (types_in i) access.ty → AccessFits p.target access → IsAccess access
  is_access i access stands among fit = record { typed = same_words access.ty (in_all ir.IsTypeOfTarget (types_in i) access.ty (types i stands) among); fits = (p.target, fit) }
    where
      same_words : (t : Ty) → ir.IsTypeOfTarget t → stored_bytes.IsTypeOfTarget t
      same_words (Int t) is = is
      same_words Ptr is = tt

  load_follows : (to : RegNo) (at : Opnd) (access : Access) → StandsAt p s.top f (Load to at access) → Follows p f (Load to at access) s
  load_follows to at access stands =
      let i : Instr = Load to at access in
      let one = pointer_of i stands at (inl refl) (fits i stands).operands_lie in
      let h = asked i stands in
      let spans = spanned s.top s.memory at one.0 one.1 access.size h.1.1.0 in
      let bytes = read_some s.memory one.0 access.size (located s.memory one.0 access.size (on_pointer s.top at one.0 IsNotNull one.1 h.0) spans) in
      let value = value_read access bytes.0 (is_access i access stands (inl refl) (fits i stands).numbers_fit) (read_size s.memory one.0 access.size bytes.0 bytes.1 spans) in
      inl (state (put to value.0 s.top) s.rest s.memory, ((one.0, value.0, one.1, (bytes.0, bytes.1, value.1), refl, refl), refl))

  store_follows : (at value : Opnd) (access : Access) → StandsAt p s.top f (Store at value access) → Follows p f (Store at value access) s
  store_follows at value access stands =
      let i : Instr = Store at value access in
      let one = pointer_of i stands at (inl refl) (fits i stands).operands_lie.0 in
      let stored = value_of i stands access.ty value (inr (inl refl)) (fits i stands).operands_lie.1 in
      let h = asked i stands in
      let spans = spanned s.top s.memory at one.0 one.1 access.size h.1.1.0 in
      let bytes = stored_some access stored.0 (is_access i access stands (inl refl) (fits i stands).numbers_fit) in
      let after = write_some s.memory one.0 access.size bytes.0 (located s.memory one.0 access.size (on_pointer s.top at one.0 IsNotNull one.1 h.0) spans) in
      inl (state (onward s.top) s.rest after.0, ((one.0, stored.0, one.1, stored.1, (bytes.0, bytes.1, after.1), refl), refl))

  move_follows : (to from : Opnd) (size align : ℕ) → StandsAt p s.top f (CopyBytes to from size align) → Follows p f (CopyBytes to from size align) s
  move_follows to from size align stands =
      let i : Instr = CopyBytes to from size align in
      let one = pointer_of i stands to (inl refl) (fits i stands).operands_lie.0 in
      let other = pointer_of i stands from (inr (inl refl)) (fits i stands).operands_lie.1 in
      let h = asked i stands in
      let spans = spanned s.top s.memory to one.0 one.1 size h.1.1.1.1.0 in
      let spans_from = spanned s.top s.memory from other.0 other.1 size h.1.1.1.1.1.0 in
      let at = located s.memory one.0 size (on_pointer s.top to one.0 IsNotNull one.1 h.0) spans in
      let old = read_some s.memory one.0 size at in
      let source = read_some s.memory other.0 size (located s.memory other.0 size (on_pointer s.top from other.0 IsNotNull other.1 h.1.0) spans_from) in
      let same = read_size s.memory other.0 size source.0 source.1 spans_from ∙ sym (read_size s.memory one.0 size old.0 old.1 spans) in
      let bytes = copied_some source.0 old.0 same in
      let after = write_some s.memory one.0 size bytes.0 at in
      inl (state (onward s.top) s.rest after.0, ((one.0, other.0, one.1, other.1, record { source = source.0; old = old.0; bytes = bytes.0; reads = source.1; onto = old.1; copied = bytes.1; writes = after.1 }, refl), refl))

  fill_follows : (n : SlotNo) (size : ℕ) → StandsAt p s.top f (Fill n size) → Follows p f (Fill n size) s
  fill_follows n size stands =
      let i : Instr = Fill n size in
      let block = slot_of i stands n refl in
      let c = item_at s.memory block.0 (there i stands block.0 n block.1) in
      let after = write_some s.memory (Pointer block.0 (pos 0)) size (zeros size) (record { block = block.0; start = 0; whole = c.0; points = record { pointer = refl; there = c.1 } }) in
      inl (state (onward s.top) s.rest after.0, ((block.0, block.1, after.1, refl), refl))

  enter_follows : (n : SlotNo) → StandsAt p s.top f (Enter (variable.Slot n)) → Follows p f (Enter (variable.Slot n)) s
  enter_follows n stands =
      let slot = item_at f.graph.slots n.0 (names (Enter (variable.Slot n)) stands).1.0 in
      let c : Block = record { bytes = replicate slot.0.size Blank; align = slot.0.align; alive = true; writable = not slot.0.constant; heap = false } in
      inl (state (with_block n (Some (length s.memory)) s.top) s.rest (s.memory ++ c ∷ []), ((slot.0, c, slot.1, record { bytes = refl; align = omega arith; alive = refl; writable = refl; heap = refl }, refl, refl), refl))

  leave_follows : (n : SlotNo) → StandsAt p s.top f (Leave n) → Follows p f (Leave n) s
  leave_follows n stands =
      let block = slot_of (Leave n) stands n refl in
      let after = kill_some s.memory block.0 (there (Leave n) stands block.0 n block.1) in
      inl (state (with_block n None s.top) s.rest after.0, ((block.0, block.1, after.1, refl), refl))

  -- ---- tests

  if_follows : (o : Op) (ty : Ty) (a b : Opnd) (yes_side no_side : NodeNo) → StandsAt p s.top f (If o ty a b yes_side no_side) → Follows p f (If o ty a b yes_side no_side) s
  if_follows o (Int t) a b yes_side no_side stands =
      let i : Instr = If o (Int t) a b yes_side no_side in
      let one = number_of i stands t a (inl refl) (fits i stands).operands_lie.0 in
      let other = number_of i stands t b (inr (inl refl)) (fits i stands).operands_lie.1 in
      inl (state (at_node (cond (compares o one.0 other.0) yes_side no_side) s.top) s.rest s.memory, ((compares o one.0 other.0, (one.0, other.0, one.1, other.1, refl), refl, refl), refl))
  if_follows o Ptr a b yes_side no_side stands =
      let i : Instr = If o Ptr a b yes_side no_side in
      let found = pointer_test i o a b stands (inl refl) (inr (inl refl)) (fits i stands).operands_lie.0 (fits i stands).operands_lie.1 (fits i stands).compares_pointers (asked i stands) in
      inl (state (at_node (cond found.0 yes_side no_side) s.top) s.rest s.memory, ((found.0, found.1, refl, refl), refl))

  -- ---- calls

  module _ (i : Instr) (stands : StandsAt p s.top f i) where
    untyped_value : (a : Opnd) → In (operands i) a → (v : Value) × HasValue s.top a v
    untyped_value (operand.Reg n) among =
        let inside : IsThere (length f.graph.regs) (operand.Reg n) = in_all (IsThere (length f.graph.regs)) (operands i) (operand.Reg n) (names i stands).0.1 among in
        let reg = item_at f.graph.regs n.0 inside in
        register_set required p r f i s stands held before n reg.0 reg.1 among
    untyped_value (operand.Num n) among = (Number n, inl refl)

    pub passed_some : (more : Bool) (types : List Ty) (args : List Opnd) → ((t : Ty) (rest : List Ty) → types ≡ t ∷ rest → Passes f.graph more types args) → ((a : Opnd) → In args a → In (operands i) a) → (values : List Value) × ArePassed s.top types args values
    passed_some more [] [] lie among = ([], tt)
    passed_some more [] (a ∷ args) lie among =
        let first = untyped_value a (among a (inl refl)) in
        let rest = passed_some more [] args (λ t others same. absurd (cc)) (λ x is. among x (inr is)) in
        (first.0 ∷ rest.0, (first.1, rest.1))
    passed_some more (t ∷ types) [] lie among = absurd (lie t types refl)
    passed_some more (t ∷ types) (a ∷ args) lie among =
        let lies : Lies f.graph t a × Passes f.graph more types args = lie t types refl in
        let first = value_of i stands t a (among a (inl refl)) lies.0 in
        let rest = passed_some more types args (λ k others same. lies.1) (λ x is. among x (inr is)) in
        (first.0 ∷ rest.0, (first.1, rest.1))

  callee_there : (o : Option Function) (P : Function → Type 0) → MatchOption o ⊥ P → (callee : Function) × (o ≡ Some callee)
  callee_there None P is = absurd is
  callee_there (Some callee) P is = (callee, refl)

  call_follows : (to : Option RegNo) (n : FunNo) (args : List Opnd) (strings : List ℕ) → StandsAt p s.top f (Call to (Fun n) args strings) → Follows p f (Call to (Fun n) args strings) s
  call_follows to n args strings stands =
      let i : Instr = Call to (Fun n) args strings in
      let callee = callee_there (slice_get p.functions n.0) _ (fits i stands).callees_fit in
      let values = passed_some i stands false (parameter_types callee.0) args (lie_in library p f to n args strings s.top callee.0 whole stands callee.1) (λ a among. among) in
      inl (state (start_frame n callee.0 values.0) (s.top ∷ s.rest) s.memory, record { callee = callee.0; is_there = callee.1; values = values.0; passed = values.1; top = refl; rest = refl; memory = refl })

  signature_there : (o : Option Signature) (P : Signature → Type 0) → MatchOption o ⊥ P → (signature : Signature) × (o ≡ Some signature) × P signature
  signature_there None P is = absurd is
  signature_there (Some signature) P is = (signature, refl, is)

  pub library_passes : (to : Option RegNo) (lib : LibNo) (args : List Opnd) (strings : List ℕ) → StandsAt p s.top f (Lib to lib args strings) → IsPassedTo library s.top lib args
  library_passes to lib args strings stands =
      let i : Instr = Lib to lib args strings in
      let found = signature_there (slice_get library lib.0) (λ (x : Signature). LibraryCallFits f.graph to args strings x) (fits i stands).callees_fit in
      let values = passed_some i stands found.0.variadic found.0.params args (λ t rest same. found.2.passes) (λ a among. among) in
      record { signature = found.0; is_there = found.1; values = values.0; passed = values.1 }

  returned_some : (value : Option Opnd) → StandsAt p s.top f (Return value) → Gives f value → (result : Option Value) × Returned f s.top value result
  returned_some None stands gives = (None, refl)
  returned_some (Some a) stands (t, spells, lies) = let found = value_of (Return (Some a)) stands t a (inl refl) lies in (Some found.0, (t, found.0, spells, found.1, refl))

  return_follows : (value : Option Opnd) → StandsAt p s.top f (Return value) → Follows p f (Return value) s
  return_follows value stands = by (none_or_more s.rest)
    where
      slot_there : (j b : ℕ) → slice_get s.top.slots j ≡ Some (Some b) → b < length s.memory
      slot_there j b here = there (Return value) stands b (record { 0 = j }) (subst (λ (o : Option (Option ℕ)). block_held o ≡ Some b) (sym here) refl)

      by : (s.rest ≡ []) ⊎ ((first : Frame) × (others : List Frame) × (s.rest ≡ first ∷ others)) → Follows p f (Return value) s
      by (inl alone) = inr alone
      by (inr (caller, below, waiting)) =
          let waits : Calls p caller s.top.function = (subst (Wait p s.top.function) waiting before.waiting).0 in
          let result = returned_some value stands (fits (Return value) stands).return_fits in
          let after = kills_some s.top.slots s.memory slot_there in
          inl (
            state (receive waits.1 result.0 caller) below after.0,
            record {
              caller = caller;
              below = below;
              waiting = waiting;
              calling = waits.0;
              to = waits.1;
              callee = Fun s.top.function;
              args = waits.2;
              strings = waits.3;
              calls = waits.4;
              result = result.0;
              is_result = result.1;
              top = refl;
              rest = refl;
              memory = after.1;
            },
          )

pub states_follow : StatesFollow
states_follow required library p r f (Const to value) s whole stands held before none = const_follows required library p r f s whole held before to value stands
states_follow required library p r f (Copy to from) s whole stands held before none = copy_follows required library p r f s whole held before to from stands
states_follow required library p r f (Bin to o (Int t) a b) s whole stands held before none = bin_follows required library p r f s whole held before to o t a b stands
states_follow required library p r f (Bin to o Ptr a b) s whole stands held before none = compare_follows required library p r f s whole held before to o a b stands
states_follow required library p r f (Un to o t a) s whole stands held before none = un_follows required library p r f s whole held before to o t a stands
states_follow required library p r f (Conv to from ty align) s whole stands held before none = conv_follows required library p r f s whole held before to from ty align stands
states_follow required library p r f (AddrSlot to n) s whole stands held before none = address_follows required library p r f s whole held before to n stands
states_follow required library p r f (AddrGlobal to n) s whole stands held before none = inl (state (put to (Pointer n.0 (pos 0)) s.top) s.rest s.memory, ((refl, refl), refl))
states_follow required library p r f (AddrStr to n) s whole stands held before none = inl (state (put to (Pointer (length p.globals + n.0) (pos 0)) s.top) s.rest s.memory, ((refl, refl), refl))
states_follow required library p r f (PtrAdd to base index factor) s whole stands held before none = add_follows required library p r f s whole held before to base index factor stands
states_follow required library p r f (PtrDiff to a b size) s whole stands held before none = difference_follows required library p r f s whole held before to a b size stands
states_follow required library p r f (Load to at access) s whole stands held before none = load_follows required library p r f s whole held before to at access stands
states_follow required library p r f (Store at value access) s whole stands held before none = store_follows required library p r f s whole held before at value access stands
states_follow required library p r f (CopyBytes to from size align) s whole stands held before none = move_follows required library p r f s whole held before to from size align stands
states_follow required library p r f (Fill n size) s whole stands held before none = fill_follows required library p r f s whole held before n size stands
states_follow required library p r f (Enter (variable.Reg n)) s whole stands held before none = inl (state (without_value n s.top) s.rest s.memory, ((refl, refl), refl))
states_follow required library p r f (Enter (variable.Slot n)) s whole stands held before none = enter_follows required library p r f s whole held before n stands
states_follow required library p r f (Leave n) s whole stands held before none = leave_follows required library p r f s whole held before n stands
states_follow required library p r f (Call to (Fun n) args strings) s whole stands held before none = call_follows required library p r f s whole held before to n args strings stands
states_follow required library p r f (Call to (Undefined name) args strings) s whole stands held before none = absurd (asks_hold required p r s f (Call to (Undefined name) args strings) stands held).0
states_follow required library p r f (Lib to lib args strings) s whole stands held before none = absurd (none tt)
states_follow required library p r f (If o ty a b one other) s whole stands held before none = if_follows required library p r f s whole held before o ty a b one other stands
states_follow required library p r f (Jump next) s whole stands held before none = inl (state (at_node next s.top) s.rest s.memory, ((refl, refl), refl))
states_follow required library p r f (Return value) s whole stands held before none = return_follows required library p r f s whole held before value stands
states_follow required library p r f (Never reason) s whole stands held before none = absurd (asks_hold required p r s f (Never reason) stands held).0

pub library_calls_pass : LibraryCallsPass
library_calls_pass required library p r f to lib args strings s whole stands held before = library_passes required library p r f s whole held before to lib args strings stands
