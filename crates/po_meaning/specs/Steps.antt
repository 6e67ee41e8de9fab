-- The next states of an instruction.
use Rattle.std.specs.Prelude.{ℕ, ◌≡◌, List, [], ◌∷◌, Option, Some, None, slice_get}
use Rattle.po_base.specs.declared.numbers.FunNo.{FunNo}
use Rattle.po_base.specs.declared.numbers.LibNo.{LibNo}
use Rattle.po_base.specs.declared.numbers.RegNo.{RegNo}
use Rattle.po_base.specs.declared.operand.Opnd.{Opnd}
use Rattle.po_ir.specs.declared.instr.Callee.{Callee}
use Rattle.po_ir.specs.declared.instr.Callee.TheVariants.{Fun, Extern as Undefined}
use Rattle.po_ir.specs.declared.instr.Ty.{Ty}
use Rattle.po_ir.specs.declared.instr.Instr.{Instr}
use Rattle.po_ir.specs.declared.instr.Instr.TheVariants.{Call, Lib, Return, Never}
use Rattle.po_ir.specs.declared.project.Function.{Function}
use Rattle.po_ir.specs.declared.project.Project.{Project}
use Rattle.po_ir.specs.Types.{IsResultType}
use Rattle.po_ir.specs.Whole.{Signature, parameter_types}
use Rattle.po_memory.specs.declared.block.Block.{Block}
use Rattle.po_memory.specs.declared.frame.Frame.{Frame}
use Rattle.po_memory.specs.declared.value.Value.{Value}
use Rattle.po_memory.specs.Accesses.{Kills}
use Rattle.po_meaning.specs.Operands.{value_at, ArePassed, receive}
use Rattle.po_meaning.specs.declared.state.Ending.{Ending}
use Rattle.po_meaning.specs.declared.state.Ending.TheVariants.{Next}
use Rattle.po_meaning.specs.Library.{Library}
use Rattle.po_meaning.specs.States.{State, StandsAt, start_frame}
use Rattle.po_meaning.specs.Local.{Local}

-- a call of the function n: a new frame runs on the values of the arguments, and its caller waits (6.5.2.2p4, p10)
pub record Enters (p : Project) (n : FunNo) (args : List Opnd) (s u : State) : Type 0 where
  pub callee : Function
  pub is_there : slice_get p.functions n.0 ≡ Some callee
  pub values : List Value
  pub passed : ArePassed s.top (parameter_types callee) args values
  pub top : u.top ≡ start_frame n callee values
  pub rest : u.rest ≡ s.top ∷ s.rest
  pub memory : u.memory ≡ s.memory

-- what a function's frame returns, as a value of the result's type (6.8.6.4p3)
abbrev pub Returned : Function → Frame → Option Opnd → Option Value → Type 0
Returned f frame None result = result ≡ None
Returned f frame (Some a) result = (t : Ty) × (v : Value) × IsResultType f.result.text (Some t) × (value_at frame t a ≡ Some v) × (result ≡ Some v)

-- the blocks of the slots that are entered end (6.2.4p5)
abbrev pub KillsAll : List (Option ℕ) → List Block → List Block → Type 0
KillsAll [] m w = w ≡ m
KillsAll (None ∷ slots) m w = KillsAll slots m w
KillsAll (Some b ∷ slots) m w = (between : List Block) × Kills m b between × KillsAll slots between w

-- a return to the frame that waits, whose register gets the value (6.8.6.4p3)
pub record Returns (p : Project) (f : Function) (value : Option Opnd) (s u : State) : Type 0 where
  pub caller : Frame
  pub below : List Frame
  pub waiting : s.rest ≡ caller ∷ below
  pub calling : Function
  pub to : Option RegNo
  pub callee : Callee
  pub args : List Opnd
  pub strings : List ℕ
  pub calls : StandsAt p caller calling (Call to callee args strings)
  pub result : Option Value
  pub is_result : Returned f s.top value result
  pub top : u.top ≡ receive to result caller
  pub rest : u.rest ≡ below
  pub memory : KillsAll s.top.slots s.memory u.memory

-- a call of a library function ends so, with these blocks
pub record LibraryEnds (l : Library) (lib : LibNo) (args : List Opnd) (s : State) (ending : Ending) (after : List Block) : Type 0 where
  pub signature : Signature
  pub is_there : slice_get l.signatures lib.0 ≡ Some signature
  pub values : List Value
  pub passed : ArePassed s.top signature.params args values
  pub may : l.outcomes lib values s.memory ending after

-- and goes on
pub record LibraryReturns (l : Library) (to : Option RegNo) (lib : LibNo) (args : List Opnd) (s u : State) : Type 0 where
  pub result : Option Value
  pub ends : LibraryEnds l lib args s (Next result) u.memory
  pub top : u.top ≡ receive to result s.top
  pub rest : u.rest ≡ s.rest

-- from the state s, whose running frame is one of the function f and stands at the instruction, the state u may follow; no library
-- function is called
abbrev pub Moves : Project → Function → Instr → State → State → Type 0
Moves p f (Call to (Fun n) args strings) s u = Enters p n args s u
Moves p f (Call to (Undefined name) args strings) s u = ⊥
Moves p f (Lib to lib args strings) s u = ⊥
Moves p f (Return value) s u = Returns p f value s u
Moves p f (Never reason) s u = ⊥
Moves p f i s u = Local p f.graph i s.top s.memory u.top u.memory × (u.rest ≡ s.rest)

-- the state u may follow
abbrev pub StepOf : Library → Project → Function → Instr → State → State → Type 0
StepOf l p f (Lib to lib args strings) s u = LibraryReturns l to lib args s u
StepOf l p f i s u = Moves p f i s u

-- a return for which no frame waits ends the run (6.8.6.4p3, 5.1.2.2.3p1)
abbrev pub IsLast : Instr → State → Type 0
IsLast (Return value) s = s.rest ≡ []
IsLast i s = ⊥
