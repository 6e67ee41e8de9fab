-- Whole projects: what the meaning of a project, its analysis and the proof that both agree may rely on.
use Rattle.std.specs.Prelude.{ℕ, ◌+◌, ◌-◌, ◌^◌, ◌≡◌, ◌≢◌, ◌<◌, ◌≤◌, ◌↔◌, pos, neg_ℤ, ◌≤ℤ◌, List, [], ◌∷◌, All, Bool, true, false, cond, IsTrue, Option, Some, None, MatchOption, Contains, length, map, take, slice_get}
use Rattle.po_base.specs.declared.numbers.RegNo.{RegNo}
use Rattle.po_base.specs.declared.numbers.SlotNo.{SlotNo}
use Rattle.po_base.specs.declared.operand.Opnd.{Opnd}
use Rattle.po_base.specs.declared.operand.Opnd.TheVariants as operand
use Rattle.po_arith.specs.declared.target.Target.{Target}
use Rattle.po_ir.specs.declared.instr.Ty.{Ty}
use Rattle.po_ir.specs.declared.instr.Ty.TheVariants.{Int, Ptr}
use Rattle.po_ir.specs.declared.instr.Access.{Access}
use Rattle.po_ir.specs.declared.instr.Callee.TheVariants.{Fun}
use Rattle.po_ir.specs.declared.instr.Reason.TheVariants.{Unread}
use Rattle.po_ir.specs.declared.instr.Instr.{Instr}
use Rattle.po_ir.specs.declared.instr.Instr.TheVariants.{Const, Copy, Bin, Un, Conv, AddrSlot, AddrGlobal, AddrStr, PtrAdd, PtrDiff, Load, Store, CopyBytes, Fill, Call, Lib, If, Return, Never}
use Rattle.po_ir.specs.declared.graph.Node.{Node}
use Rattle.po_ir.specs.declared.graph.Reg.{Reg as Register}
use Rattle.po_ir.specs.declared.graph.Slot.{Slot}
use Rattle.po_ir.specs.declared.graph.Graph.{Graph}
use Rattle.po_ir.specs.declared.project.Effects.{Effects}
use Rattle.po_ir.specs.declared.project.Global.{Global}
use Rattle.po_ir.specs.declared.project.Function.{Function}
use Rattle.po_ir.specs.declared.project.Project.{Project}
use Rattle.po_ir.specs.Instructions.{operands, opened, used}
use Rattle.po_ir.specs.Paths.{NodeAt, Path, IsWritten, IsEntered}
use Rattle.po_ir.specs.Valid.{IsValid}
use Rattle.po_ir.specs.IntTypes.{HasTypesOfTarget}
use Rattle.po_ir.specs.Types.{TypeIs, IsKept, IsValue, IsInteger, HasTruth, Lies, LiesAmongIntegers, is_comparison, is_shift, size_of, IsResultType}
use Rattle.po_ir.specs.Reaching.{LibraryEffects, AreEffects}

-- the greatest size of an object, the greatest ptrdiff_t (7.18.3)
abbrev pub greatest_size : ℕ
greatest_size = 2 ^ 63 - 1

-- a function of the C library: the types of its parameters, whether further arguments of any type follow them, the type of its
-- result, and what a call of it may do to memory
pub record Signature : Type 0 where
  pub params : List Ty
  pub variadic : Bool
  pub result : Option Ty
  pub effects : Effects

abbrev pub effects_of : Option Signature → Effects
effects_of None = record { frees = true; writes = true }
effects_of (Some signature) = signature.effects

abbrev pub library_effects : List Signature → LibraryEffects
library_effects library lib = effects_of (slice_get library lib.0)

-- the operands lie in the types at which the instruction uses them; the count of a shift, the index of a PtrAdd and the source of
-- a Conv to an integer type may have any integer type
abbrev pub OperandsLie : Graph → Instr → Type 0
OperandsLie g (Bin to op ty a b) = Lies g ty a × cond (is_shift op) (LiesAmongIntegers g b) (Lies g ty b)
OperandsLie g (Un to op ty a) = Lies g (Int ty) a
OperandsLie g (Conv to from (Int t) align) = LiesAmongIntegers g from
OperandsLie g (Conv to from Ptr align) = Lies g Ptr from
OperandsLie g (PtrAdd to base index factor) = Lies g Ptr base × LiesAmongIntegers g index
OperandsLie g (PtrDiff to a b size) = Lies g Ptr a × Lies g Ptr b
OperandsLie g (Load to at access) = Lies g Ptr at
OperandsLie g (Store at value access) = Lies g Ptr at × Lies g access.ty value
OperandsLie g (CopyBytes to from size align) = Lies g Ptr to × Lies g Ptr from
OperandsLie g (If op ty a b true_side false_side) = Lies g ty a × Lies g ty b
OperandsLie g _ = Unit {0}

-- pointers are compared, and nothing else is computed of two of them (6.5.8, 6.5.9)
abbrev pub ComparesPointers : Instr → Type 0
ComparesPointers (Bin to op Ptr a b) = is_comparison op ≡ true
ComparesPointers (If op Ptr a b true_side false_side) = is_comparison op ≡ true
ComparesPointers _ = Unit {0}

-- the result register holds every result; that of a PtrDiff has any integer type, to which the result is wrapped
abbrev pub ResultFits : Graph → Instr → Type 0
ResultFits g (Const to value) = TypeIs g to (λ t. IsValue t value)
ResultFits g (Copy to from) = TypeIs g from (λ s. TypeIs g to (λ t. IsKept s t))
ResultFits g (Bin to op ty a b) = TypeIs g to (λ t. cond (is_comparison op) (HasTruth t) (IsKept ty t))
ResultFits g (Un to op ty a) = TypeIs g to (λ t. IsKept (Int ty) t)
ResultFits g (Conv to from ty align) = TypeIs g to (λ t. IsKept ty t)
ResultFits g (AddrSlot to slot) = TypeIs g to (λ t. IsKept Ptr t)
ResultFits g (AddrGlobal to global) = TypeIs g to (λ t. IsKept Ptr t)
ResultFits g (AddrStr to text) = TypeIs g to (λ t. IsKept Ptr t)
ResultFits g (PtrAdd to base index factor) = TypeIs g to (λ t. IsKept Ptr t)
ResultFits g (PtrDiff to a b size) = TypeIs g to IsInteger
ResultFits g (Load to at access) = TypeIs g to (λ t. IsKept access.ty t)
ResultFits g _ = Unit {0}

-- an access has its type's size, and an alignment
abbrev pub AccessFits : Target → Access → Type 0
AccessFits target access = (access.size ≡ size_of target access.ty) × (1 ≤ access.align)

-- sizes, alignments and factors are in their ranges
abbrev pub NumbersFit : Target → Graph → Instr → Type 0
NumbersFit target g (Load to at access) = AccessFits target access
NumbersFit target g (Store at value access) = AccessFits target access
NumbersFit target g (CopyBytes to from size align) = 1 ≤ align
NumbersFit target g (Conv to from ty align) = 1 ≤ align
NumbersFit target g (PtrDiff to a b size) = 1 ≤ size
NumbersFit target g (PtrAdd to base index factor) = neg_ℤ (pos greatest_size) ≤ℤ factor
NumbersFit target g (Fill slot size) = MatchOption (slice_get g.slots slot.0) ⊥ (λ (s : Slot). size ≤ s.size)
NumbersFit target g _ = Unit {0}

-- the function stands for one whose body isn't read
abbrev pub IsUnread : Function → Type 0
IsUnread f = (n : Node) × (f.graph.nodes ≡ n ∷ []) × (n.instr ≡ Never Unread)

-- the operands are one value for each parameter, of its type, and further ones where there may be
abbrev pub Passes : Graph → Bool → List Ty → List Opnd → Type 0
Passes g more [] [] = Unit {0}
Passes g more [] (a ∷ rest) = more ≡ true
Passes g more (t ∷ ts) [] = ⊥
Passes g more (t ∷ ts) (a ∷ rest) = Lies g t a × Passes g more ts rest

abbrev pub type_of : Register → Ty
type_of register = register.ty

-- the types of a function's parameters, which are its first registers
abbrev pub parameter_types : Function → List Ty
parameter_types f = map type_of (take f.graph.params f.graph.regs)

-- a register gets what a function returns
abbrev pub Receives : Graph → Option RegNo → (Ty → Type 0) → Type 0
Receives g None P = Unit {0}
Receives g (Some to) P = TypeIs g to P

-- a call passes one operand for each parameter, and its register has the type of the result
pub record CallFits (g : Graph) (to : Option RegNo) (args : List Opnd) (callee : Function) : Type 0 where
  pub passes : Passes g false (parameter_types callee) args
  pub result : Receives g to (λ t. IsResultType callee.result.text (Some t))

abbrev pub HoldsResult : Option Ty → Ty → Type 0
HoldsResult None t = ⊥
HoldsResult (Some s) t = IsKept s t

-- a call of a library function has the operands that its signature names; the texts that a format reads are pointers among them
pub record LibraryCallFits (g : Graph) (to : Option RegNo) (args : List Opnd) (strings : List ℕ) (signature : Signature) : Type 0 where
  pub passes : Passes g signature.variadic signature.params args
  pub texts : All (λ (k : ℕ). MatchOption (slice_get args k) ⊥ (Lies g Ptr)) strings
  pub no_texts : signature.variadic ≡ false → strings ≡ []
  pub result : Receives g to (λ t. HoldsResult signature.result t)

-- every global, literal, function and library function is there, and the calls of them fit
abbrev pub CalleesFit : List Signature → Project → Graph → Instr → Type 0
CalleesFit library p g (AddrGlobal to global) = global.0 < length p.globals
CalleesFit library p g (AddrStr to text) = text.0 < length p.texts
CalleesFit library p g (Call to (Fun f) args strings) = MatchOption (slice_get p.functions f.0) ⊥ (λ (callee : Function). (IsUnread callee → ⊥) → CallFits g to args callee)
CalleesFit library p g (Lib to lib args strings) = MatchOption (slice_get library lib.0) ⊥ (λ (signature : Signature). LibraryCallFits g to args strings signature)
CalleesFit library p g _ = Unit {0}

-- a return gives a value of the result's type, or none where that is void (6.8.6.4p1)
abbrev pub Gives : Function → Option Opnd → Type 0
Gives f None = IsResultType f.result.text None
Gives f (Some value) = (t : Ty) × IsResultType f.result.text (Some t) × Lies f.graph t value

abbrev pub ReturnFits : Function → Instr → Type 0
ReturnFits f (Return value) = Gives f value
ReturnFits f _ = Unit {0}

-- a variable: neither a parameter nor a temporary
abbrev pub IsVariable : Graph → Option RegNo → Type 0
IsVariable g None = Unit {0}
IsVariable g (Some r) = MatchOption (slice_get g.regs r.0) ⊥ (λ (register : Register). (register.param ≡ false) × (register.name ≢ None))

-- a temporary: a register without a name that is no parameter
abbrev pub IsTemporary : Graph → RegNo → Type 0
IsTemporary g r = MatchOption (slice_get g.regs r.0) ⊥ (λ (register : Register). (register.param ≡ false) × (register.name ≡ None))

-- the parameters are the first registers
pub record AreParametersFirst (g : Graph) : Type 0 where
  pub there : g.params ≤ length g.regs
  pub first : (r : ℕ) (register : Register) → slice_get g.regs r ≡ Some register → IsTrue register.param ↔ (r < g.params)

-- what holds of each instruction of a function
pub record InstructionFits (library : List Signature) (p : Project) (f : Function) (i : Instr) : Type 0 where
  pub operands_lie : OperandsLie f.graph i
  pub compares_pointers : ComparesPointers i
  pub result_fits : ResultFits f.graph i
  pub numbers_fit : NumbersFit p.target f.graph i
  pub callees_fit : CalleesFit library p f.graph i
  pub return_fits : ReturnFits f i
  pub opens_variables : IsVariable f.graph (opened i)

-- what holds of each function
pub record FunctionFits (library : List Signature) (p : Project) (f : Function) : Type 0 where
  pub valid : IsValid f.graph
  pub parameters : AreParametersFirst f.graph
  pub types : HasTypesOfTarget f.graph
  pub instructions : (n : ℕ) (i : Instr) → NodeAt f.graph n i → InstructionFits library p f i
  pub written_before_read : (back : List Instr) (n : ℕ) (i : Instr) (r : RegNo) → Path f.graph 0 back n → NodeAt f.graph n i → Contains (operands i) (operand.Reg r) → IsTemporary f.graph r → IsWritten r back
  pub entered_before_used : (back : List Instr) (n : ℕ) (i : Instr) (s : SlotNo) → Path f.graph 0 back n → NodeAt f.graph n i → used i ≡ Some s → IsEntered s back
  pub slots : All (λ (s : Slot). (s.size ≤ greatest_size) × (1 ≤ s.align)) f.graph.slots
  pub unread_has_nothing : IsUnread f → (f.graph.regs ≡ []) × (f.graph.slots ≡ [])

-- a whole project over a library of these functions
pub record IsWhole (library : List Signature) (p : Project) : Type 0 where
  pub functions : All (FunctionFits library p) p.functions
  pub globals : All (λ (g : Global). (g.size ≤ greatest_size) × (1 ≤ g.align)) p.globals
  pub texts : All (λ (text : List ℕ). length text + 1 ≤ greatest_size) p.texts
  pub effects : AreEffects (library_effects library) p p.effects
