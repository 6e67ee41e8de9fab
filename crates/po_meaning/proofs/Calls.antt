-- A call leads from a state that belongs to a project to one that belongs to it.
use Rattle.std.specs.Prelude.{ℕ, zero, suc, ◌-◌, ◌≡◌, ◌≤◌, ◌<◌, false, List, [], ◌∷◌, ◌++◌, All, Option, Some, None, Contains, length, map, take, replicate, slice_get}
use Rattle.std.proofs.Common.{refl, sym, ap, ◌∙◌, subst, arith, inl, inr, length-append}
use Rattle.std.proofs.lemmas.List.{length-map, length-replicate, length-take-le}
use Rattle.std.proofs.lemmas.List.Elements.{All-nil, All-cons}
use Rattle.po_lists.proofs.Places.{all_at}
use Rattle.po_base.specs.declared.numbers.FunNo.{FunNo}
use Rattle.po_base.specs.declared.numbers.RegNo.{RegNo}
use Rattle.po_base.specs.declared.operand.Opnd.{Opnd}
use Rattle.po_base.specs.declared.operand.Opnd.TheVariants as operand
use Rattle.po_ir.specs.declared.graph.Reg.{Reg as Register}
use Rattle.po_ir.specs.declared.graph.Slot.{Slot}
use Rattle.po_ir.specs.declared.graph.Graph.{Graph}
use Rattle.po_ir.specs.declared.instr.Ty.{Ty}
use Rattle.po_ir.specs.declared.instr.Ty.TheVariants.{Int, Ptr}
use Rattle.po_ir.specs.declared.instr.Callee.TheVariants.{Fun}
use Rattle.po_ir.specs.declared.instr.Instr.{Instr}
use Rattle.po_ir.specs.declared.instr.Instr.TheVariants.{Call}
use Rattle.po_ir.specs.declared.project.Function.{Function}
use Rattle.po_ir.specs.declared.project.Project.{Project}
use Rattle.po_ir.specs.Instructions.{operands, written}
use Rattle.po_ir.specs.Paths.{Path, start, step, IsWritten}
use Rattle.po_ir.specs.Types.{Lies, IsKept}
use Rattle.po_ir.specs.Whole.{Signature, IsWhole, IsUnread, IsTemporary, FunctionFits, CallFits, Passes, type_of, parameter_types}
use Rattle.po_memory.specs.declared.block.Block.{Block}
use Rattle.po_memory.specs.declared.frame.Frame.{Frame}
use Rattle.po_memory.specs.declared.value.Value.{Value}
use Rattle.po_memory.specs.declared.value.Value.TheVariants.{Number}
use Rattle.po_memory.specs.Bytes.{LiesIn}
use Rattle.po_memory.specs.Passing.{HasValue}
use Rattle.po_memory.specs.Values.{held}
use Rattle.po_meaning.specs.Operands.{block_held, slot_block, value_at, ArePassed}
use Rattle.po_meaning.specs.States.{State, IsOf, StandsAt, start_registers, start_frame}
use Rattle.po_meaning.specs.Steps.{Enters}
use Rattle.po_meaning.specs.Needs.{Needs}
use Rattle.po_meaning.specs.Belongs.{HasSome, FrameBelongs, HasEntered, IsOfSlot, PointsThere, FramePoints, Belongs}
use Rattle.po_meaning.proofs.Frames.{Fits, belongs_of, told_at}
use Rattle.po_meaning.proofs.Entry.{LieIn, lie_in}
use Rattle.po_meaning.proofs.Plain.{typed_as, pointer_lies, pointer_there, register_lies, arrives}
use Rattle.po_meaning.proofs.Results.{kept_value}
use Rattle.po_meaning.proofs.Slots.{needed_entered}
use Rattle.po_meaning.proofs.States.{state, some_same}

-- ---- what is passed

pub passed_types : (frame : Frame) (types : List Ty) (args : List Opnd) (values : List Value) → ArePassed frame types args values → length types ≤ length values
passed_types frame [] args values are = omega arith
passed_types frame (t ∷ types) [] values are = absurd are
passed_types frame (t ∷ types) (a ∷ args) [] are = absurd are
passed_types frame (t ∷ types) (a ∷ args) (v ∷ values) are = let rest = passed_types frame types args values are.1 in omega (arith, rest)

passed_values : (frame : Frame) (types : List Ty) (args : List Opnd) (values : List Value) → ArePassed frame types args values → length values ≡ length args
passed_values frame [] [] [] are = refl
passed_values frame [] [] (v ∷ values) are = absurd are
passed_values frame [] (a ∷ args) [] are = absurd are
passed_values frame [] (a ∷ args) (v ∷ values) are = ap suc (passed_values frame [] args values are.1)
passed_values frame (t ∷ types) [] values are = absurd are
passed_values frame (t ∷ types) (a ∷ args) [] are = absurd are
passed_values frame (t ∷ types) (a ∷ args) (v ∷ values) are = ap suc (passed_values frame types args values are.1)

passes_all : (g : Graph) (types : List Ty) (args : List Opnd) → Passes g false types args → length args ≡ length types
passes_all g [] [] passes = refl
passes_all g [] (a ∷ args) passes = absurd (cc)
passes_all g (t ∷ types) [] passes = absurd passes
passes_all g (t ∷ types) (a ∷ args) passes = ap suc (passes_all g types args passes.1)

module _ (p : Project) (f : Function) (s : State) (of : IsOf p s.top f) (before : Belongs p s) where
  pub value_lies : (t : Ty) (a : Opnd) (v : Value) → Lies f.graph t a → value_at s.top t a ≡ Some v → LiesIn t v
  value_lies (Int t) (operand.Reg r) v lies is = let reg = typed_as f.graph r (λ k. IsKept k (Int t)) lies in kept_value reg.register.ty (Int t) v reg.typed (register_lies p f s of before r reg.register v reg.there is)
  value_lies (Int t) (operand.Num n) v lies is = subst (LiesIn (Int t)) (some_same v (Number n) (sym is)) lies
  value_lies Ptr a v lies is = pointer_lies p f s of before a v lies is

  pub value_there : (t : Ty) (a : Opnd) (v : Value) → value_at s.top t a ≡ Some v → PointsThere p.target s.memory v
  value_there (Int t) (operand.Reg r) v is = pointer_there p f s of before (operand.Reg r) v is
  value_there (Int t) (operand.Num n) v is = subst (PointsThere p.target s.memory) (some_same v (Number n) (sym is)) tt
  value_there Ptr a v is = pointer_there p f s of before a v is

  has_there : (a : Opnd) (v : Value) → HasValue s.top a v → PointsThere p.target s.memory v
  has_there (operand.Reg r) v is = pointer_there p f s of before (operand.Reg r) v is
  has_there (operand.Num n) v (inl is) = subst (PointsThere p.target s.memory) (sym is) tt
  has_there (operand.Num n) v (inr is) = subst (PointsThere p.target s.memory) (sym is.1) tt

  pub passed_there : (types : List Ty) (args : List Opnd) (values : List Value) → ArePassed s.top types args values → All (PointsThere p.target s.memory) values
  passed_there [] [] [] are = All-nil (PointsThere p.target s.memory)
  passed_there [] [] (v ∷ values) are = absurd are
  passed_there [] (a ∷ args) [] are = absurd are
  passed_there [] (a ∷ args) (v ∷ values) are = All-cons (PointsThere p.target s.memory) v values (has_there a v are.0) (passed_there [] args values are.1)
  passed_there (t ∷ types) [] values are = absurd are
  passed_there (t ∷ types) (a ∷ args) [] are = absurd are
  passed_there (t ∷ types) (a ∷ args) (v ∷ values) are = All-cons (PointsThere p.target s.memory) v values (value_there t a v are.0) (passed_there types args values are.1)

  passed_lies : (types : List Ty) (args : List Opnd) (values : List Value) → LieIn f.graph types args → ArePassed s.top types args values → (i : ℕ) (t : Ty) (v : Value) → slice_get types i ≡ Some t → slice_get values i ≡ Some v → LiesIn t v
  passed_lies [] args values lie are i t v here there = absurd (cc)
  passed_lies (k ∷ types) [] values lie are i t v here there = absurd are
  passed_lies (k ∷ types) (a ∷ args) [] lie are i t v here there = absurd are
  passed_lies (k ∷ types) (a ∷ args) (w ∷ values) lie are zero t v here there =
      subst (λ (x : Ty). LiesIn x v) (some_same t k (sym here)) (subst (LiesIn k) (some_same v w (sym there)) (value_lies k a w (lie k types refl).0 are.0))
  passed_lies (k ∷ types) (a ∷ args) (w ∷ values) lie are (suc i) t v here there = passed_lies types args values (λ x rest same. (lie k types refl).1) are.1 i t v here there

-- ---- the registers of a frame at the start of its function

no_value_held : (n r : ℕ) (v : Value) → held (slice_get (replicate n None) r) ≡ Some v → ⊥
no_value_held zero r v is = absurd (cc)
no_value_held (suc n) zero v is = absurd (cc)
no_value_held (suc n) (suc r) v is = no_value_held n r v is

pub no_block_held : (n r b : ℕ) → block_held (slice_get (replicate n None) r) ≡ Some b → ⊥
no_block_held zero r b is = absurd (cc)
no_block_held (suc n) zero b is = absurd (cc)
no_block_held (suc n) (suc r) b is = no_block_held n r b is

start_value : (params more : ℕ) (values : List Value) (r : ℕ) (v : Value) → params ≤ length values → held (slice_get (map Some (take params values) ++ replicate more None) r) ≡ Some v → (r < params) × (slice_get values r ≡ Some v)
start_value zero more values r v inside is = absurd (no_value_held more r v is)
start_value (suc params) more [] r v inside is = absurd (omega (arith, inside))
start_value (suc params) more (x ∷ values) zero v inside is = (omega arith, is)
start_value (suc params) more (x ∷ values) (suc r) v inside is = let rest = start_value params more values r v (omega (arith, inside)) is in let less = rest.0 in (omega (arith, less), rest.1)

start_has : (params more : ℕ) (values : List Value) (r : ℕ) → params ≤ length values → r < params → HasSome (held (slice_get (map Some (take params values) ++ replicate more None) r))
start_has zero more values r inside less = absurd (omega (arith, less))
start_has (suc params) more [] r inside less = absurd (omega (arith, inside))
start_has (suc params) more (x ∷ values) zero inside less = (x, refl)
start_has (suc params) more (x ∷ values) (suc r) inside less = start_has params more values r (omega (arith, inside)) (omega (arith, less))

parameter_type : (params : ℕ) (regs : List Register) (r : ℕ) (x : Register) → r < params → slice_get regs r ≡ Some x → slice_get (map type_of (take params regs)) r ≡ Some x.ty
parameter_type zero regs r x less here = absurd (omega (arith, less))
parameter_type (suc params) [] r x less here = absurd (cc)
parameter_type (suc params) (y ∷ regs) zero x less here = ap (λ (z : Register). Some z.ty) (some_same x y (sym here))
parameter_type (suc params) (y ∷ regs) (suc r) x less here = parameter_type params regs r x (omega (arith, less)) here

-- what some way on reads is written on each way here
needed_written : (library : List Signature) (p : Project) (f : Function) → FunctionFits library p f → (r : RegNo) → IsTemporary f.graph r → (k n : ℕ) (back : List Instr) → Path f.graph 0 back n →
    Needs (λ i. Contains (operands i) (operand.Reg r)) (λ i. written i ≡ Some r) f.graph k n → IsWritten r back
needed_written library p f fits r temporary zero n back path (i, at, uses) = fits.written_before_read back n i r path at uses temporary
needed_written library p f fits r temporary (suc k) n back path (i, m, at, other, to, needs) = behind (needed_written library p f fits r temporary k m (i ∷ back) (step back n m i path at to) needs)
  where
    behind : IsWritten r (i ∷ back) → IsWritten r back
    behind (inl same) = absurd (other same)
    behind (inr is) = is

abbrev no_value : Option Value
no_value = None

-- ---- the step

module _ (library : List Signature) (p : Project) (f : Function) (s u : State) (whole : IsWhole library p) (before : Belongs p s) (to : Option RegNo) (n : FunNo) (args : List Opnd) (strings : List ℕ) (stands : StandsAt p s.top f (Call to (Fun n) args strings))
    (enters : Enters p n args s u) where
  abbrev callee : Function
  callee = enters.callee

  abbrev values : List Value
  values = enters.values

  abbrev now : Frame
  now = start_frame n callee values

  called : FunctionFits library p callee
  called = all_at (FunctionFits library p) p.functions n.0 callee whole.functions enters.is_there

  type_count : length (parameter_types callee) ≡ callee.graph.params
  type_count = length-map (take callee.graph.params callee.graph.regs) type_of ∙ length-take-le callee.graph.params callee.graph.regs called.parameters.there

  enough : callee.graph.params ≤ length values
  enough = let some = passed_types s.top (parameter_types callee) args values enters.passed in let same = type_count in omega (arith, some, same)

  all_lie : (i : ℕ) (t : Ty) (v : Value) → slice_get (parameter_types callee) i ≡ Some t → slice_get values i ≡ Some v → LiesIn t v
  all_lie = passed_lies p f s stands.of before (parameter_types callee) args values (lie_in library p f to n args strings s.top callee whole stands enters.is_there) enters.passed

  all_there : All (PointsThere p.target s.memory) values
  all_there = passed_there p f s stands.of before (parameter_types callee) args values enters.passed

  abbrev rest_count : ℕ
  rest_count = length callee.graph.regs - callee.graph.params

  register_count : length (start_registers callee values) ≡ length callee.graph.regs
  register_count =
      let all = length-append (map Some (take callee.graph.params values)) (replicate rest_count None) in
      let first = length-map (take callee.graph.params values) Some ∙ length-take-le callee.graph.params values enough in
      let others = length-replicate rest_count no_value in
      let there = called.parameters.there in
      omega (arith, all, first, others, there)

  call_fits : (IsUnread callee → ⊥) → CallFits f.graph to args callee
  call_fits = told_at (slice_get p.functions n.0) (λ (c : Function). (IsUnread c → ⊥) → CallFits f.graph to args c) callee enters.is_there
      (((all_at (FunctionFits library p) p.functions s.top.function.0 f whole.functions stands.of).instructions s.top.node.0 (Call to (Fun n) args strings) stands.node).callees_fit)

  argument_count : (IsUnread callee → ⊥) → length values ≡ callee.graph.params
  argument_count isnt = passed_values s.top (parameter_types callee) args values enters.passed ∙ (passes_all f.graph (parameter_types callee) args (call_fits isnt).passes ∙ type_count)

  fits_now : Fits callee now
  fits_now = record {
    place = record { node = ([], start); registers = register_count; slots = length-replicate (length callee.graph.slots) None; arguments = argument_count };
    types = record {
      registers = λ r x v here has. let found = start_value callee.graph.params rest_count values r v enough has in all_lie r x.ty v (parameter_type callee.graph.params callee.graph.regs r x found.0 here) found.1;
      arguments = all_lie;
    };
    values = record {
      parameters = λ r x here param. start_has callee.graph.params rest_count values r enough ((called.parameters.first r x here).0 param);
      temporaries = λ r temporary needs. absurd (needed_written library p callee called r temporary needs.0 0 [] start needs.1);
    };
    slots = λ t needs. absurd (needed_entered library p callee called t needs.0 0 [] start needs.1);
  }

  points_now : FramePoints p.target s.memory now
  points_now = record {
    registers = λ r v has. let found = start_value callee.graph.params rest_count values r v enough has in all_at (PointsThere p.target s.memory) values r v all_there found.1;
    arguments = all_there;
  }

  none_entered : (frame : Frame) (t b : ℕ) → Some now ≡ Some frame → slot_block frame t ≡ Some b → ⊥
  none_entered frame t b here has = no_block_held (length callee.graph.slots) t b (subst (λ (fr : Frame). slot_block fr t ≡ Some b) (some_same now frame here) has)

  blocks_now : (frame : Frame) (g : Function) (k t b : ℕ) (x : Slot) → slice_get (now ∷ (s.top ∷ s.rest)) k ≡ Some frame → IsOf p frame g → slice_get g.graph.slots t ≡ Some x → slot_block frame t ≡ Some b →
      (c : Block) × (slice_get s.memory b ≡ Some c) × IsOfSlot p x b c
  blocks_now frame g zero t b x here of is has = absurd (none_entered frame t b here has)
  blocks_now frame g (suc k) t b x here of is has = before.slots.blocks frame g k t b x here of is has

  apart_now : (k l t other b : ℕ) → HasEntered (state now (s.top ∷ s.rest) s.memory) k t b → HasEntered (state now (s.top ∷ s.rest) s.memory) l other b → (k ≡ l) × (t ≡ other)
  apart_now zero l t other b (frame, here, has) two = absurd (none_entered frame t b here has)
  apart_now (suc k) zero t other b one (frame, here, has) = absurd (none_entered frame other b here has)
  apart_now (suc k) (suc l) t other b one two = let same = before.slots.apart k l t other b one two in (ap suc same.0, same.1)

  pub call_stays : Belongs p u
  call_stays = arrives p u now (s.top ∷ s.rest) s.memory enters.top enters.rest enters.memory (record {
    each_frame = All-cons (FrameBelongs p) now (s.top ∷ s.rest) (belongs_of p callee now enters.is_there fits_now) before.each_frame;
    waiting = ((f, to, args, strings, stands), before.waiting);
    slots = record { blocks = blocks_now; apart = apart_now };
    sizes = before.sizes;
    statics = before.statics;
    pointers = record {
      frames_point = All-cons (FramePoints p.target s.memory) now (s.top ∷ s.rest) points_now before.pointers.frames_point;
      blocks_point = before.pointers.blocks_point;
    };
  })
