-- A call of a library function that keeps what it has to keep leads from a state that belongs to a project to one that belongs to it.
use Rattle.std.specs.Prelude.{ℕ, ◌+◌, ◌≡◌, true, List, [], Option, Some, None, slice_get}
use Rattle.std.proofs.Common.{refl, sym, subst}
use Rattle.po_lists.proofs.Places.{all_at}
use Rattle.po_lists.proofs.Options.{one_value}
use Rattle.po_lists.proofs.Members.{contains_head}
use Rattle.po_base.specs.declared.numbers.LibNo.{LibNo}
use Rattle.po_base.specs.declared.numbers.RegNo.{RegNo}
use Rattle.po_base.specs.declared.operand.Opnd.{Opnd}
use Rattle.po_ir.specs.declared.instr.Ty.{Ty}
use Rattle.po_ir.specs.declared.instr.Instr.TheVariants.{Lib}
use Rattle.po_ir.specs.declared.project.Function.{Function}
use Rattle.po_ir.specs.declared.project.Project.{Project}
use Rattle.po_ir.specs.Whole.{Signature, FunctionFits, LibraryCallFits, Receives, HoldsResult}
use Rattle.po_memory.specs.declared.value.Value.{Value}
use Rattle.po_meaning.specs.Operands.{receive}
use Rattle.po_meaning.specs.States.{State, StandsAt}
use Rattle.po_meaning.specs.Belongs.{static_blocks, Belongs}
use Rattle.po_meaning.specs.Staying.{IsOutcome, LibraryStepsStay}
use Rattle.po_meaning.proofs.Frames.{told_at}
use Rattle.po_meaning.proofs.Memory.{Lives, kept_since, belongs_after}
use Rattle.po_meaning.proofs.Plain.{typed_as, put_stays, goes_stays, arrives}
use Rattle.po_meaning.proofs.Results.{kept_value}
use Rattle.po_meaning.proofs.States.{state}

module _ (p : Project) (f : Function) (s : State) (lib : LibNo) (args : List Opnd) (strings : List ℕ) (before : Belongs p s) where
  received : (o : Option Ty) (to : Option RegNo) (result : Option Value) → StandsAt p s.top f (Lib to lib args strings) → Receives f.graph to (λ t. HoldsResult o t) → IsOutcome p.target o s.memory result → Belongs p (state (receive to result s.top) s.rest s.memory)
  received None (Some to) result stands typed is = absurd (let register = typed_as f.graph to (λ t. HoldsResult None t) typed in register.typed)
  received (Some t) (Some to) None stands typed (v, clash, lies, there) = absurd (cc)
  received (Some t) (Some to) (Some w) stands typed (v, same, lies, there) =
      let register = typed_as f.graph to (λ k. HoldsResult (Some t) k) typed in
      let known : v ≡ w = one_value (Some v) v w refl (sym same) in
      subst (λ (x : Value). Belongs p (state (receive (Some to) (Some x) s.top) s.rest s.memory)) known
      (put_stays p f s stands.of before (Lib (Some to) lib args strings) to v register.register stands (contains_head _ []) refl refl register.there (kept_value t register.register.ty v register.typed lies) there)
  received o None (Some v) stands typed is = goes_stays p f s stands.of before (Lib None lib args strings) (record { 0 = s.top.node.0 + 1 }) stands (contains_head _ []) refl refl
  received o None None stands typed is = goes_stays p f s stands.of before (Lib None lib args strings) (record { 0 = s.top.node.0 + 1 }) stands (contains_head _ []) refl refl

pub library_steps_stay : LibraryStepsStay
library_steps_stay library p f to lib args strings signature result s u whole stands there fits top below before =
    let after : Belongs p (state s.top s.rest u.memory) = belongs_after p s.top s.rest s.memory u.memory Lives (kept_since (static_blocks p) true true s.memory u.memory fits.since fits.unwritten) before (λ b dies. absurd dies) (λ k slot b has dies. dies) fits.sizes fits.parts in
    let function : FunctionFits library p f = all_at (FunctionFits library p) p.functions s.top.function.0 f whole.functions stands.of in
    let call : LibraryCallFits f.graph to args strings signature = told_at (slice_get library lib.0) (λ (x : Signature). LibraryCallFits f.graph to args strings x) signature there ((function.instructions s.top.node.0 (Lib to lib args strings) stands.node).callees_fit) in
    arrives p u (receive to result s.top) s.rest u.memory top below refl
    (received p f (state s.top s.rest u.memory) lib args strings after signature.result to result (record { of = stands.of; node = stands.node }) call.result fits.value)
