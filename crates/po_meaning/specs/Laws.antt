-- Laws on what is violated first, on calls, and on the states that belong to a project.
use Rattle.std.specs.Prelude.{ℕ, ◌≡◌, ◌↔◌, List, Option}
use Rattle.po_base.specs.declared.numbers.FunNo.{FunNo}
use Rattle.po_base.specs.declared.numbers.RegNo.{RegNo}
use Rattle.po_base.specs.declared.operand.Opnd.{Opnd}
use Rattle.po_ir.specs.declared.instr.Callee.TheVariants.{Fun}
use Rattle.po_ir.specs.declared.instr.Local.TheVariants as variable
use Rattle.po_ir.specs.declared.instr.Instr.{Instr}
use Rattle.po_ir.specs.declared.instr.Instr.TheVariants.{Const, Copy, Bin, Un, Conv, AddrSlot, AddrGlobal, AddrStr, PtrDiff, Enter, If, Jump, Call}
use Rattle.po_ir.specs.declared.project.Function.{Function}
use Rattle.po_ir.specs.declared.project.Project.{Project}
use Rattle.po_ir.specs.Whole.{Signature, IsWhole}
use Rattle.po_core.specs.declared.obl.Obl.{Obl}
use Rattle.po_core.specs.declared.report.Report.{Report}
use Rattle.po_pred.specs.declared.pred.Pred.{Pred}
use Rattle.po_pred.specs.declared.pred.Rule.{Rule}
use Rattle.po_pred.specs.Subst.{put_in}
use Rattle.po_memory.specs.Holding.{Holds}
use Rattle.po_memory.specs.Passing.{IsPointerPlace, IsNumberPlace, PlacesAre}
use Rattle.po_gen.specs.Asks.{Required}
use Rattle.po_meaning.specs.States.{State, StandsAt}
use Rattle.po_meaning.specs.Local.{Local}
use Rattle.po_meaning.specs.Steps.{Enters}
use Rattle.po_meaning.specs.Checks.{AllHold, FirstViolated}
use Rattle.po_meaning.specs.Belongs.{Belongs}

-- one obligation at most is violated first
abbrev pub OneIsFirst : Type 0
OneIsFirst = (required : Required) (p : Project) (r : Report Pred Rule) (s : State) (o q : Obl Pred) → FirstViolated required p r s o → FirstViolated required p r s q → o ≡ q

-- and none where all hold, so none where a step is taken or the run ends
abbrev pub NoneIsFirst : Type 0
NoneIsFirst = (required : Required) (p : Project) (r : Report Pred Rule) (s : State) (o : Obl Pred) → FirstViolated required p r s o → AllHold required p r s → ⊥

-- a predicate on its parameters holds where a called function is entered exactly where it holds of its caller with the arguments of
-- the call put in
abbrev pub EntryKeepsHolds : Type 0
EntryKeepsHolds =
    (library : List Signature) (p : Project) (f : Function) (to : Option RegNo) (n : FunNo) (args : List Opnd) (strings : List ℕ) (s u : State) (q : Pred) → IsWhole library p →
    StandsAt p s.top f (Call to (Fun n) args strings) → Enters p n args s u → PlacesAre (IsPointerPlace u.top) (IsNumberPlace u.top) q → Holds u.top u.memory q ↔ Holds s.top s.memory (put_in q args)

-- instructions that write a register at most, and neither move nor follow a pointer
abbrev pub IsPlain : Instr → Type 0
IsPlain (Const to value) = Unit {0}
IsPlain (Copy to from) = Unit {0}
IsPlain (Bin to o ty a b) = Unit {0}
IsPlain (Un to o t a) = Unit {0}
IsPlain (Conv to from ty align) = Unit {0}
IsPlain (AddrSlot to slot) = Unit {0}
IsPlain (AddrGlobal to global) = Unit {0}
IsPlain (AddrStr to text) = Unit {0}
IsPlain (PtrDiff to a b size) = Unit {0}
IsPlain (Enter (variable.Reg r)) = Unit {0}
IsPlain (If o ty a b true_side false_side) = Unit {0}
IsPlain (Jump next) = Unit {0}
IsPlain _ = ⊥

-- a step of such an instruction from a state that belongs to a whole project leads to one that belongs to it
abbrev pub PlainStepsStay : Type 0
PlainStepsStay =
    (library : List Signature) (p : Project) (f : Function) (i : Instr) (s u : State) → IsWhole library p → StandsAt p s.top f i → IsPlain i →
    Local p f.graph i s.top s.memory u.top u.memory → u.rest ≡ s.rest → Belongs p s → Belongs p u
