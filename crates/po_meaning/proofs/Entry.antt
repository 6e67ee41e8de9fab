-- A predicate on its parameters at the entry of a called function.
use Rattle.std.specs.Prelude.{ℕ, ◌≡◌, ◌↔◌, false, List, [], ◌∷◌, Option, Some, MatchOption, map, take, slice_get}
use Rattle.std.proofs.Common.{refl, sym, ap, ◌∙◌, subst, inl, inr}
use Rattle.std.specs.List.{AllZip}
use Rattle.std.proofs.Math.Seq.{take-nil}
use Rattle.po_lists.proofs.Places.{all_at}
use Rattle.po_base.specs.declared.numbers.FunNo.{FunNo}
use Rattle.po_base.specs.declared.numbers.RegNo.{RegNo}
use Rattle.po_base.specs.declared.operand.Opnd.{Opnd}
use Rattle.po_base.specs.declared.operand.Opnd.TheVariants as operand
use Rattle.po_ir.specs.declared.graph.Reg.{Reg as Register}
use Rattle.po_ir.specs.declared.graph.Graph.{Graph}
use Rattle.po_ir.specs.declared.instr.Ty.{Ty}
use Rattle.po_ir.specs.declared.instr.Ty.TheVariants.{Int, Ptr}
use Rattle.po_ir.specs.declared.instr.Callee.TheVariants.{Fun}
use Rattle.po_ir.specs.declared.instr.Instr.TheVariants.{Call}
use Rattle.po_ir.specs.declared.project.Function.{Function}
use Rattle.po_ir.specs.declared.project.Project.{Project}
use Rattle.po_ir.specs.Types.{Lies}
use Rattle.po_ir.specs.Whole.{Signature, IsWhole, IsUnread, FunctionFits, CallFits, Passes, type_of, parameter_types}
use Rattle.po_memory.specs.declared.frame.Frame.{Frame}
use Rattle.po_memory.specs.declared.value.Value.{Value}
use Rattle.po_memory.specs.declared.value.Value.TheVariants.{Number, Null}
use Rattle.po_memory.specs.declared.block.Block.{Block}
use Rattle.po_memory.specs.Holding.{Holds}
use Rattle.po_memory.specs.Passing.{HasValue, SubstKeepsHolds}
use Rattle.po_pred.specs.Subst.{put_in}
use Rattle.po_meaning.specs.Operands.{value_at, ArePassed}
use Rattle.po_meaning.specs.States.{StandsAt}
use Rattle.po_meaning.specs.Laws.{EntryKeepsHolds}

same_value : (v w : Value) → Some v ≡ Some w → w ≡ v
same_value v w same = cc

has_value : (g : Graph) (caller : Frame) (t : Ty) (a : Opnd) (v : Value) → Lies g t a → value_at caller t a ≡ Some v → HasValue caller a v
has_value g caller (Int t) (operand.Reg r) v lies is = is
has_value g caller (Int t) (operand.Num n) v lies is = inl (same_value (Number n) v is)
has_value g caller Ptr (operand.Reg r) v lies is = is
has_value g caller Ptr (operand.Num n) v lies is = inr (lies, same_value Null v is)

-- the operands lie in the types of the parameters, where there are any
abbrev pub LieIn : Graph → List Ty → List Opnd → Type 0
LieIn g types args = (t : Ty) (rest : List Ty) → types ≡ t ∷ rest → Passes g false types args

passed : (g : Graph) (caller : Frame) (types : List Ty) (args : List Opnd) (values : List Value) → LieIn g types args → ArePassed caller types args values → AllZip (HasValue caller) args values
passed g caller [] [] [] lie are = tt
passed g caller [] [] (v ∷ values) lie are = absurd are
passed g caller [] (a ∷ args) [] lie are = absurd are
passed g caller [] (a ∷ args) (v ∷ values) lie are = (are.0, passed g caller [] args values (λ t rest same. absurd (cc)) are.1)
passed g caller (t ∷ types) [] values lie are = absurd are
passed g caller (t ∷ types) (a ∷ args) [] lie are = absurd are
passed g caller (t ∷ types) (a ∷ args) (v ∷ values) lie are =
    let lies : Lies g t a × Passes g false types args = lie t types refl in
    (has_value g caller t a v lies.0 are.0, passed g caller types args values (λ s rest same. lies.1) are.1)

no_types : (f : Function) (t : Ty) (rest : List Ty) → f.graph.regs ≡ [] → parameter_types f ≡ t ∷ rest → ⊥
no_types f t rest none some =
    let empty : take f.graph.params f.graph.regs ≡ [] = ap (λ (xs : List Register). take f.graph.params xs) none ∙ take-nil f.graph.params in
    let all : parameter_types f ≡ [] = ap (map type_of) empty in
    absurd (cc)

-- what is asked of calls, at the function that is called
fits_at : (x : Option Function) (P : Function → Type 0) (callee : Function) → x ≡ Some callee → MatchOption x ⊥ P → P callee
fits_at x P callee there given = subst (λ (o : Option Function). MatchOption o ⊥ P) there given

pub lie_in : (library : List Signature) (p : Project) (f : Function) (to : Option RegNo) (n : FunNo) (args : List Opnd) (strings : List ℕ) (caller : Frame) (callee : Function) →
    IsWhole library p → StandsAt p caller f (Call to (Fun n) args strings) → slice_get p.functions n.0 ≡ Some callee → LieIn f.graph (parameter_types callee) args
lie_in library p f to n args strings caller callee whole stands there t rest same =
    let fits : FunctionFits library p f = all_at (FunctionFits library p) p.functions caller.function.0 f whole.functions stands.of in
    let called : FunctionFits library p callee = all_at (FunctionFits library p) p.functions n.0 callee whole.functions there in
    let call : CallFits f.graph to args callee = fits_at (slice_get p.functions n.0) (λ (c : Function). (IsUnread c → ⊥) → CallFits f.graph to args c) callee there
    ((fits.instructions caller.node.0 _ stands.node).callees_fit) (λ unread. no_types callee t rest (called.unread_has_nothing unread).0 same) in
    call.passes

pub entry_keeps_holds : SubstKeepsHolds → EntryKeepsHolds
entry_keeps_holds keeps library p f to n args strings s u q whole stands enters places =
    let lie : LieIn f.graph (parameter_types enters.callee) args = lie_in library p f to n args strings s.top enters.callee whole stands enters.is_there in
    let are : AllZip (HasValue s.top) args u.top.args = subst (λ (fr : Frame). AllZip (HasValue s.top) args fr.args) (sym enters.top) (passed f.graph s.top (parameter_types enters.callee) args enters.values lie enters.passed) in
    subst (λ (m : List Block). Holds u.top u.memory q ↔ Holds s.top m (put_in q args)) enters.memory (keeps args s.top u.top u.memory q are places)
