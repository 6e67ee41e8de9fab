-- An instruction that is carried out is a step of its kind.
use Rattle.std.specs.Prelude.{ℕ, ◌≡◌, ◌⊎◌, Result, Ok, Err, IfOk, OnOk, List, [], Option, Some, slice_get}
use Rattle.std.proofs.Common.{refl, sym, ap, subst, inl, inr}
use Rattle.po_base.specs.declared.numbers.FunNo.{FunNo}
use Rattle.po_base.specs.declared.numbers.RegNo.{RegNo}
use Rattle.po_base.specs.declared.operand.Opnd.{Opnd}
use Rattle.po_ir.specs.declared.instr.Callee.TheVariants.{Fun, Extern as Undefined}
use Rattle.po_ir.specs.declared.instr.Instr.{Instr}
use Rattle.po_ir.specs.declared.instr.Instr.TheVariants.{Const, Copy, Bin, Un, Conv, AddrSlot, AddrGlobal, AddrStr, PtrAdd, PtrDiff, Load, Store, CopyBytes, Fill, Enter, Leave, Call, Lib, If, Jump, Return, Never}
use Rattle.po_ir.specs.declared.project.Function.{Function}
use Rattle.po_ir.specs.declared.project.Project.{Project}
use Rattle.po_ir.specs.Whole.{Signature, parameter_types}
use Rattle.po_gen.specs.Asks.{Required}
use Rattle.po_memory.specs.declared.block.Block.{Block}
use Rattle.po_memory.specs.declared.frame.Frame.{Frame}
use Rattle.po_meaning.specs.Local.{Local}
use Rattle.po_meaning.specs.Library.{Library}
use Rattle.po_meaning.specs.Operands.{block_held}
use Rattle.po_meaning.specs.States.{State}
use Rattle.po_meaning.specs.Steps.{Enters, IsLast, Moves, Returns, StepOf}
use Rattle.po_meaning.specs.Following.{CallsLibrary, Follows, StatesFollow}
use Rattle.po_meaning.specs.Staying.{StepsStay}
use Rattle.po_meaning.proofs.Slots.{entered_block}
use Rattle.std.proofs.lemmas.Option.{slice_get_within}
use Rattle.po_step.specs.Passing.{CanPass, CanReturn, HaveBlocks}
use Rattle.po_step.specs.Stepping.{Carries, IsReadyAt, Moved, StaysInFrame, state_of}
use Rattle.po_step.specs.declared.step.Step.TheVariants.{Next}

-- ---- instructions that stay in their frame

no_call : (i : Instr) → StaysInFrame i → CallsLibrary i → ⊥
no_call (Lib to lib args strings) stays calls = stays
no_call (Const to value) stays calls = calls
no_call (Copy to from) stays calls = calls
no_call (Bin to o ty a b) stays calls = calls
no_call (Un to o t a) stays calls = calls
no_call (Conv to from ty align) stays calls = calls
no_call (AddrSlot to slot) stays calls = calls
no_call (AddrGlobal to global) stays calls = calls
no_call (AddrStr to text) stays calls = calls
no_call (PtrAdd to base index factor) stays calls = calls
no_call (PtrDiff to a b size) stays calls = calls
no_call (Load to at access) stays calls = calls
no_call (Store at value access) stays calls = calls
no_call (CopyBytes to from size align) stays calls = calls
no_call (Fill slot size) stays calls = calls
no_call (Enter what) stays calls = calls
no_call (Leave slot) stays calls = calls
no_call (If o ty a b yes_side no_side) stays calls = calls
no_call (Jump next) stays calls = calls
no_call (Call to callee args strings) stays calls = calls
no_call (Return value) stays calls = calls
no_call (Never reason) stays calls = calls

local_moves : (p : Project) (f : Function) (i : Instr) (s u : State) → Local p f.graph i s.top s.memory u.top u.memory → u.rest ≡ s.rest → Moves p f i s u
local_moves p f (Const to value) s u goes below = (goes, below)
local_moves p f (Copy to from) s u goes below = (goes, below)
local_moves p f (Bin to o ty a b) s u goes below = (goes, below)
local_moves p f (Un to o t a) s u goes below = (goes, below)
local_moves p f (Conv to from ty align) s u goes below = (goes, below)
local_moves p f (AddrSlot to slot) s u goes below = (goes, below)
local_moves p f (AddrGlobal to global) s u goes below = (goes, below)
local_moves p f (AddrStr to text) s u goes below = (goes, below)
local_moves p f (PtrAdd to base index factor) s u goes below = (goes, below)
local_moves p f (PtrDiff to a b size) s u goes below = (goes, below)
local_moves p f (Load to at access) s u goes below = (goes, below)
local_moves p f (Store at value access) s u goes below = (goes, below)
local_moves p f (CopyBytes to from size align) s u goes below = (goes, below)
local_moves p f (Fill slot size) s u goes below = (goes, below)
local_moves p f (Enter what) s u goes below = (goes, below)
local_moves p f (Leave slot) s u goes below = (goes, below)
local_moves p f (If o ty a b yes_side no_side) s u goes below = (goes, below)
local_moves p f (Jump next) s u goes below = (goes, below)
local_moves p f (Call to callee args strings) s u goes below = absurd goes
local_moves p f (Lib to lib args strings) s u goes below = absurd goes
local_moves p f (Return value) s u goes below = absurd goes
local_moves p f (Never reason) s u goes below = absurd goes

moves_local : (p : Project) (f : Function) (i : Instr) (s u : State) → StaysInFrame i → Moves p f i s u → Local p f.graph i s.top s.memory u.top u.memory
moves_local p f (Const to value) s u stays moves = moves.0
moves_local p f (Copy to from) s u stays moves = moves.0
moves_local p f (Bin to o ty a b) s u stays moves = moves.0
moves_local p f (Un to o t a) s u stays moves = moves.0
moves_local p f (Conv to from ty align) s u stays moves = moves.0
moves_local p f (AddrSlot to slot) s u stays moves = moves.0
moves_local p f (AddrGlobal to global) s u stays moves = moves.0
moves_local p f (AddrStr to text) s u stays moves = moves.0
moves_local p f (PtrAdd to base index factor) s u stays moves = moves.0
moves_local p f (PtrDiff to a b size) s u stays moves = moves.0
moves_local p f (Load to at access) s u stays moves = moves.0
moves_local p f (Store at value access) s u stays moves = moves.0
moves_local p f (CopyBytes to from size align) s u stays moves = moves.0
moves_local p f (Fill slot size) s u stays moves = moves.0
moves_local p f (Enter what) s u stays moves = moves.0
moves_local p f (Leave slot) s u stays moves = moves.0
moves_local p f (If o ty a b yes_side no_side) s u stays moves = moves.0
moves_local p f (Jump next) s u stays moves = moves.0
moves_local p f (Call to callee args strings) s u stays moves = absurd stays
moves_local p f (Lib to lib args strings) s u stays moves = absurd stays
moves_local p f (Return value) s u stays moves = absurd stays
moves_local p f (Never reason) s u stays moves = absurd moves

no_last : (i : Instr) (s : State) → StaysInFrame i → IsLast i s → ⊥
no_last (Const to value) s stays last = last
no_last (Copy to from) s stays last = last
no_last (Bin to o ty a b) s stays last = last
no_last (Un to o t a) s stays last = last
no_last (Conv to from ty align) s stays last = last
no_last (AddrSlot to slot) s stays last = last
no_last (AddrGlobal to global) s stays last = last
no_last (AddrStr to text) s stays last = last
no_last (PtrAdd to base index factor) s stays last = last
no_last (PtrDiff to a b size) s stays last = last
no_last (Load to at access) s stays last = last
no_last (Store at value access) s stays last = last
no_last (CopyBytes to from size align) s stays last = last
no_last (Fill slot size) s stays last = last
no_last (Enter what) s stays last = last
no_last (Leave slot) s stays last = last
no_last (If o ty a b yes_side no_side) s stays last = last
no_last (Jump next) s stays last = last
no_last (Never reason) s stays last = last
no_last (Call to callee args strings) s stays last = stays
no_last (Lib to lib args strings) s stays last = stays
no_last (Return value) s stays last = stays

-- a step by a library call is none of these
moves_step : (l : Library) (p : Project) (f : Function) (i : Instr) (s u : State) → Moves p f i s u → StepOf l p f i s u
moves_step l p f (Const to value) s u moves = moves
moves_step l p f (Copy to from) s u moves = moves
moves_step l p f (Bin to o ty a b) s u moves = moves
moves_step l p f (Un to o t a) s u moves = moves
moves_step l p f (Conv to from ty align) s u moves = moves
moves_step l p f (AddrSlot to slot) s u moves = moves
moves_step l p f (AddrGlobal to global) s u moves = moves
moves_step l p f (AddrStr to text) s u moves = moves
moves_step l p f (PtrAdd to base index factor) s u moves = moves
moves_step l p f (PtrDiff to a b size) s u moves = moves
moves_step l p f (Load to at access) s u moves = moves
moves_step l p f (Store at value access) s u moves = moves
moves_step l p f (CopyBytes to from size align) s u moves = moves
moves_step l p f (Fill slot size) s u moves = moves
moves_step l p f (Enter what) s u moves = moves
moves_step l p f (Leave slot) s u moves = moves
moves_step l p f (If o ty a b yes_side no_side) s u moves = moves
moves_step l p f (Jump next) s u moves = moves
moves_step l p f (Call to callee args strings) s u moves = moves
moves_step l p f (Return value) s u moves = moves
moves_step l p f (Never reason) s u moves = moves
moves_step l p f (Lib to lib args strings) s u moves = absurd moves

pub moved_carries : (l : Library) (p : Project) (f : Function) (i : Instr) (s u : State) → Moved p f i s u → Carries l p f i s Next u
moved_carries l p f i s u moved = (moves_step l p f i s u moved.0, moved.1)

module _ (follow : StatesFollow) (stay : StepsStay) (required : Required) (library : List Signature) (p : Project) (f : Function) where
  pub moved : (i : Instr) (s u : State) → IsReadyAt required library p f i s → Moves p f i s u → Moved p f i s u
  moved i s u at moves = (moves, stay required library p at.report f i s u at.whole at.stands at.held moves at.belongs)

  follows : (i : Instr) (s : State) → IsReadyAt required library p f i s → (CallsLibrary i → ⊥) → Follows p f i s
  follows i s at no_library = follow required library p at.report f i s at.whole at.stands at.held at.belongs no_library

  pub local_moved : (i : Instr) (top now : Frame) (waiting : List Frame) (m w : List Block) → IsReadyAt required library p f i (state_of top waiting m) → Local p f.graph i top m now w → Moved p f i (state_of top waiting m) (state_of now waiting w)
  local_moved i top now waiting m w at goes = moved i (state_of top waiting m) (state_of now waiting w) at (local_moves p f i (state_of top waiting m) (state_of now waiting w) goes refl)

  pub never_stuck : (i : Instr) (s : State) → IsReadyAt required library p f i s → StaysInFrame i → ((u : Frame) (w : List Block) → Local p f.graph i s.top s.memory u w → ⊥) → ⊥
  never_stuck i s at stays none = by (follows i s at (no_call i stays))
    where
      by : Follows p f i s → ⊥
      by (inl goes) = none goes.0.top goes.0.memory (moves_local p f i s goes.0 stays goes.1)
      by (inr last) = no_last i s stays last

  -- ---- calls and returns

  pub call_enters : (to : Option RegNo) (n : FunNo) (args : List Opnd) (strings : List ℕ) (s : State) → IsReadyAt required library p f (Call to (Fun n) args strings) s →
      (callee : Function) × (slice_get p.functions n.0 ≡ Some callee) × CanPass s.top (parameter_types callee) args
  call_enters to n args strings s at = by (follows (Call to (Fun n) args strings) s at (λ none. none))
    where
      by : Follows p f (Call to (Fun n) args strings) s → (callee : Function) × (slice_get p.functions n.0 ≡ Some callee) × CanPass s.top (parameter_types callee) args
      by (inl goes) = let enters : Enters p n args s goes.0 = goes.1 in (enters.callee, enters.is_there, (enters.values, enters.passed))
      by (inr last) = absurd last

  pub call_is_defined : (to : Option RegNo) (name : List ℕ) (args : List Opnd) (strings : List ℕ) (s : State) → IsReadyAt required library p f (Call to (Undefined name) args strings) s → ⊥
  call_is_defined to name args strings s at = by (follows (Call to (Undefined name) args strings) s at (λ none. none))
    where
      by : Follows p f (Call to (Undefined name) args strings) s → ⊥
      by (inl goes) = goes.1
      by (inr last) = last

  pub can_return : (value : Option Opnd) (s : State) → IsReadyAt required library p f (Return value) s → (s.rest ≡ []) ⊎ CanReturn f s.top value
  can_return value s at = by (follows (Return value) s at (λ none. none))
    where
      by : Follows p f (Return value) s → (s.rest ≡ []) ⊎ CanReturn f s.top value
      by (inl goes) = let returns : Returns p f value s goes.0 = goes.1 in inr (returns.result, returns.is_result)
      by (inr last) = inl last

  pub have_blocks : (i : Instr) (s : State) → IsReadyAt required library p f i s → HaveBlocks s.top.slots s.memory
  have_blocks i s at slot b here = let block = entered_block p s at.belongs 0 slot b (s.top, refl, ap block_held here) in slice_get_within s.memory b block.1 block.2

  pub returns_moved : (i : Instr) (value : Option Opnd) (s u : State) → i ≡ Return value → IsReadyAt required library p f i s → Returns p f value s u → Moved p f i s u
  returns_moved i value s u is at returns =
      subst (λ (j : Instr). Moved p f j s u) (sym is) (moved (Return value) s u (subst (λ (j : Instr). IsReadyAt required library p f j s) is at) returns)

  pub enters_moved : (i : Instr) (to : Option RegNo) (n : FunNo) (args : List Opnd) (strings : List ℕ) (s u : State) → i ≡ Call to (Fun n) args strings → IsReadyAt required library p f i s → Enters p n args s u → Moved p f i s u
  enters_moved i to n args strings s u is at enters =
      subst (λ (j : Instr). Moved p f j s u) (sym is) (moved (Call to (Fun n) args strings) s u (subst (λ (j : Instr). IsReadyAt required library p f j s) is at) enters)

pub on_ok_if : {T E : Type 0} (r : Result T E) (P Q : Type 0) → (P → Q) → OnOk r P → IfOk r (λ (x : T). Q)
on_ok_if (Ok x) P Q then is = then is
on_ok_if (Err e) P Q then is = tt
