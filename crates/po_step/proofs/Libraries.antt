-- A call of a library function that is carried out is a step, or ends the run.
use Rattle.std.specs.Prelude.{◌≡◌, List, [], Option, Some, MatchOption, slice_get}
use Rattle.std.proofs.Common.{refl, sym, ap, subst}
use Rattle.po_base.specs.declared.numbers.LibNo.{LibNo}
use Rattle.po_base.specs.declared.numbers.RegNo.{RegNo}
use Rattle.po_base.specs.declared.operand.Opnd.{Opnd}
use Rattle.po_ir.specs.declared.instr.Instr.TheVariants.{Lib}
use Rattle.po_ir.specs.declared.instr.Ty.{Ty}
use Rattle.po_ir.specs.declared.project.Function.{Function}
use Rattle.po_ir.specs.declared.project.Project.{Project}
use Rattle.po_ir.specs.Whole.{Signature}
use Rattle.po_gen.specs.Asks.{Required}
use Rattle.po_memory.specs.declared.block.Block.{Block}
use Rattle.po_memory.specs.declared.frame.Frame.{Frame}
use Rattle.po_memory.specs.declared.value.Value.{Value}
use Rattle.po_memory.specs.Holding.{Holds}
use Rattle.po_meaning.specs.declared.state.Ending.{Ending}
use Rattle.po_meaning.specs.declared.state.Ending.TheVariants.{Next, Stop}
use Rattle.po_meaning.specs.Library.{Outcomes}
use Rattle.po_meaning.specs.Operands.{ArePassed, receive}
use Rattle.po_meaning.specs.Steps.{LibraryEnds, LibraryReturns}
use Rattle.po_meaning.specs.Belongs.{Belongs}
use Rattle.po_meaning.specs.Following.{IsPassedTo, LibraryCallsPass}
use Rattle.po_meaning.specs.Staying.{LibraryStepsStay}
use Rattle.po_meaning.proofs.Held.{each_all}
use Rattle.po_step.specs.Outcomes.{IsCalled, Keeps}
use Rattle.po_step.specs.Passing.{CanPass}
use Rattle.po_step.specs.Stepping.{IsReadyAt, library_of, state_of}
use Rattle.po_step.proofs.Ready.{held_asks}

abbrev pub ParametersAre : List Signature → LibNo → List Ty → Type 0
ParametersAre signatures lib types = MatchOption (slice_get signatures lib.0) (types ≡ []) (λ (s : Signature). types ≡ s.params)

types_are : (o : Option Signature) (signature : Signature) (types : List Ty) → o ≡ Some signature → MatchOption o (types ≡ []) (λ (s : Signature). types ≡ s.params) → types ≡ signature.params
types_are o signature types there are = subst (λ (x : Option Signature). MatchOption x (types ≡ []) (λ (s : Signature). types ≡ s.params)) there are

module _ (pass : LibraryCallsPass) (required : Required) (signatures : List Signature) (p : Project) (f : Function) (to : Option RegNo) (lib : LibNo) (args : List Opnd) (strings : List _) (top : Frame) (waiting : List Frame) (m : List Block)
    (at : IsReadyAt required signatures p f (Lib to lib args strings) (state_of top waiting m)) (types : List Ty) (are : ParametersAre signatures lib types) where
  pub passed_to : IsPassedTo signatures top lib args
  passed_to = pass required signatures p at.report f to lib args strings (state_of top waiting m) at.whole at.stands at.held at.belongs

  of_signature : types ≡ passed_to.signature.params
  of_signature = types_are (slice_get signatures lib.0) passed_to.signature types passed_to.is_there are

  pub can_pass : CanPass top types args
  can_pass = (passed_to.values, subst (λ (list : List Ty). ArePassed top list args passed_to.values) (sym of_signature) passed_to.passed)

  module _ (values : List Value) (passed : ArePassed top types args values) where
    pub at_signature : ArePassed top passed_to.signature.params args values
    at_signature = subst (λ (list : List Ty). ArePassed top list args values) of_signature passed

    abbrev pub called : IsCalled required signatures p lib values m
    called = record {
      state = state_of top waiting m;
      belongs = at.belongs;
      memory = refl;
      signature = passed_to.signature;
      is_there = passed_to.is_there;
      args = args;
      strings = strings;
      passed = at_signature;
      held = each_all (Holds top m) (required lib args strings) (held_asks required signatures p f (Lib to lib args strings) (state_of top waiting m) at);
    }

    module _ (outcomes : Outcomes) (after : List Block) (ending : Ending) (may : outcomes lib values m ending after)
        (keeps : (q : Project) (call : IsCalled required signatures q lib values m) → Keeps q call.signature m ending after) where
      kept : Keeps p passed_to.signature m ending after
      kept = keeps p called

      ends_as : (e : Ending) → ending ≡ e → LibraryEnds (library_of signatures required outcomes) lib args (state_of top waiting m) e after
      ends_as e is = record { signature = passed_to.signature; is_there = passed_to.is_there; values = values; passed = at_signature; may = subst (λ (x : Ending). outcomes lib values m x after) is may }

      pub stops : ending ≡ Stop → (state_of top waiting after ≡ state_of top waiting m) × ((w : List Block) × LibraryEnds (library_of signatures required outcomes) lib args (state_of top waiting m) Stop w)
      stops is = (ap (λ (l : List Block). state_of top waiting l) (subst (λ (x : Ending). Keeps p passed_to.signature m x after) is kept), (after, ends_as Stop is))

      pub returns_with : LibraryStepsStay → (result : Option Value) (now : Frame) → ending ≡ Next result → now ≡ receive to result top →
          LibraryReturns (library_of signatures required outcomes) to lib args (state_of top waiting m) (state_of now waiting after) × Belongs p (state_of now waiting after)
      returns_with stay result now is becomes = (
        record { result = result; ends = ends_as (Next result) is; top = becomes; rest = refl },
        stay signatures p f to lib args strings passed_to.signature result (state_of top waiting m) (state_of now waiting after) at.whole at.stands passed_to.is_there (subst (λ (x : Ending). Keeps p passed_to.signature m x after) is kept) becomes refl at.belongs,
      )
