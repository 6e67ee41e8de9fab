-- What a report lists at the calls of a whole project can be put in there.
use Rattle.std.specs.Prelude.{ℕ, suc, ◌<◌, ◌≤◌, ◌≡◌, false, List, [], ◌∷◌, All, ℤ, Option, Some, None, MatchOption, length, map, take, slice_get}
use Rattle.std.proofs.Common.{refl, sym, ap, ◌∙◌, subst, arith}
use Rattle.std.proofs.lemmas.Int.{ints}
use Rattle.std.proofs.lemmas.List.{length-take-le, length-map}
use Rattle.std.proofs.lemmas.List.Elements.{All-nil, All-cons, All-map, All-take}
use Rattle.po_base.specs.declared.operand.Opnd.{Opnd}
use Rattle.po_base.specs.declared.operand.Opnd.TheVariants as operand
use Rattle.po_arith.specs.declared.int_type.IntType.{IntType}
use Rattle.po_arith.specs.Types.{IsIntType, IsOfType}
use Rattle.po_arith.proofs.Sizes.{small}
use Rattle.po_ir.specs.declared.graph.Graph.{Graph}
use Rattle.po_ir.specs.declared.graph.Node.{Node}
use Rattle.po_ir.specs.declared.graph.Reg.{Reg as Register}
use Rattle.po_ir.specs.declared.instr.Callee.TheVariants.{Fun, Extern as Undefined}
use Rattle.po_ir.specs.declared.instr.Instr.{Instr}
use Rattle.po_ir.specs.declared.instr.Instr.TheVariants.{Const, Copy, Bin, Un, Conv, AddrSlot, AddrGlobal, AddrStr, PtrAdd, PtrDiff, Load, Store, CopyBytes, Fill, Enter, Leave, Call, Lib, If, Jump, Return, Never}
use Rattle.po_ir.specs.declared.instr.Ty.{Ty}
use Rattle.po_ir.specs.declared.instr.Ty.TheVariants.{Int, Ptr}
use Rattle.po_ir.specs.declared.project.Function.{Function}
use Rattle.po_ir.specs.declared.project.Project.{Project}
use Rattle.po_ir.specs.IntTypes.{AreTypesOfTarget, HasTypesOfTarget, IsTypeOfTarget}
use Rattle.po_ir.specs.Types.{Lies}
use Rattle.po_ir.specs.Whole.{Signature, CallFits, FunctionFits, IsUnread, IsWhole, Passes, parameter_types, type_of}
use Rattle.po_core.specs.declared.obl.Cause.{Cause}
use Rattle.po_core.specs.declared.obl.Cause.TheVariants.{Primary, Support}
use Rattle.po_core.specs.declared.obl.Obl.{Obl}
use Rattle.po_core.specs.declared.obl.Verdict.{Verdict}
use Rattle.po_pred.specs.declared.pred.Atom.{Atom}
use Rattle.po_pred.specs.declared.pred.Atom.TheVariants as atom
use Rattle.po_pred.specs.declared.pred.Place.{Place}
use Rattle.po_pred.specs.declared.pred.Pred.{Pred}
use Rattle.po_pred.specs.declared.pred.Rule.{Rule}
use Rattle.po_pred.specs.Finite.{IsOver, IsPlaceFrom, IsPlaceOver}
use Rattle.po_pred.specs.Subst.{IsCounted, IsCountedOperand, IsOpenTo, IsParameterBelow}
use Rattle.po_pred.specs.View.{places_of}
use Rattle.po_lists.proofs.Places.{all_at, all_head, all_tail}
use Rattle.po_step.specs.Supporting.{Takes, TakesAll, TakesAt, TakesCause, TakesIn, CauseFits, SupportFits, SupportFitsAt, SupportFitsIn, SupportsFit}

all_as : {X : Type 0} (P Q : X → Type 0) (xs : List X) → ((x : X) → P x → Q x) → All P xs → All Q xs
all_as P Q [] each all = All-nil Q
all_as P Q (x ∷ xs) each all = All-cons Q x xs (each x (all_head P x xs all)) (all_as P Q xs each (all_tail P x xs all))

pub types_of_whole : (library : List Signature) (p : Project) → IsWhole library p → AreTypesOfTarget p
types_of_whole library p whole = all_as (FunctionFits library p) (λ (f : Function). HasTypesOfTarget f.graph) p.functions (λ f fits. fits.types) whole.functions

-- ---- numbers that are counted

counted : (t : IntType) (v : ℤ) → IsIntType t → IsOfType t v → IsCounted v
counted t v is (from, to) = let narrow = small t is in let low = narrow.low in let high = narrow.high in (omega (arith, ints, low, from), omega (arith, ints, high, to))

counted_operand : (g : Graph) (t : Ty) (a : Opnd) → IsTypeOfTarget t → Lies g t a → IsCountedOperand a
counted_operand g t (operand.Reg r) typed lies = tt
counted_operand g (Int t) (operand.Num n) typed lies = counted t n typed lies
counted_operand g Ptr (operand.Num n) typed lies = subst IsCounted (sym lies) (omega (arith, ints), omega (arith, ints))

passed_counted : (g : Graph) (types : List Ty) (args : List Opnd) → All IsTypeOfTarget types → Passes g false types args → All IsCountedOperand args
passed_counted g [] [] typed lie = All-nil IsCountedOperand
passed_counted g [] (a ∷ args) typed lie = absurd (cc)
passed_counted g (t ∷ types) [] typed lie = absurd lie
passed_counted g (t ∷ types) (a ∷ args) typed lie = All-cons IsCountedOperand a args (counted_operand g t a (all_head IsTypeOfTarget t types typed) lie.0) (passed_counted g types args (all_tail IsTypeOfTarget t types typed) lie.1)

passed_count : (g : Graph) (types : List Ty) (args : List Opnd) → Passes g false types args → length types ≡ length args
passed_count g [] [] lie = refl
passed_count g [] (a ∷ args) lie = absurd (cc)
passed_count g (t ∷ types) [] lie = absurd lie
passed_count g (t ∷ types) (a ∷ args) lie = ap suc (passed_count g types args lie.1)

-- ---- places

open_to : (params count : ℕ) (x : Place) → params ≤ count → IsPlaceOver params x → IsOpenTo count x
open_to params count x few over = by x.atom over refl
  where
    by : (o : Option Atom) → IsPlaceFrom params o x → x.atom ≡ o → IsOpenTo count x
    by None from is =
        let low = from.0.0 in let high = from.0.1 in let least = from.1.0 in let most = from.1.1 in
        record { parameter = subst (IsParameterBelow count) (sym is) tt; low = (omega (arith, ints, low), omega (arith, ints, high)); high = (omega (arith, ints, least), omega (arith, ints, most)) }
    by (Some (atom.Reg r)) from is = absurd from
    by (Some (atom.Param i)) from is =
        let below = from.0 in let low = from.1.0 in let high = from.1.1 in let least = from.2.0 in let most = from.2.1 in
        let inside : i < count = omega (arith, below, few) in
        record { parameter = subst (IsParameterBelow count) (sym is) inside; low = (omega (arith, ints, low), omega (arith, ints, high)); high = (omega (arith, ints, least), omega (arith, ints, most)) }

-- ---- calls

registers_typed : (regs : List Register) (k : ℕ) → All (λ (r : Register). IsTypeOfTarget r.ty) regs → All IsTypeOfTarget (map type_of (take k regs))
registers_typed regs k all = All-map IsTypeOfTarget type_of (take k regs) (All-take (λ (r : Register). IsTypeOfTarget r.ty) k regs all)

module _ (library : List Signature) (p : Project) (whole : IsWhole library p) where
  call_takes : (f : Function) (n : ℕ) (o : Option Function) (to : _) (g : _) (args : List Opnd) (strings : List ℕ) (q : Pred) → FunctionFits library p f →
      ((callee : Function) → o ≡ Some callee → FunctionFits library p callee) →
      MatchOption o ⊥ (λ (callee : Function). (IsUnread callee → ⊥) → CallFits f.graph to args callee) → MatchOption o ⊥ (λ (callee : Function). (IsUnread callee → ⊥) × IsOver callee.graph.params q) → Takes (Call to (Fun g) args strings) q
  call_takes f n None to g args strings q fits each calls over = absurd calls
  call_takes f n (Some callee) to g args strings q fits each calls over =
      let call = calls over.0 in
      let its = each callee refl in
      let count : length (parameter_types callee) ≡ callee.graph.params = length-map (take callee.graph.params callee.graph.regs) type_of ∙ length-take-le callee.graph.params callee.graph.regs its.parameters.there in
      let same = passed_count f.graph (parameter_types callee) args call.passes in (
        all_as (IsPlaceOver callee.graph.params) (IsOpenTo (length args)) (places_of q) (λ x. open_to callee.graph.params (length args) x (omega (arith, count, same))) over.1.places,
        passed_counted f.graph (parameter_types callee) args (registers_typed callee.graph.regs callee.graph.params its.types.registers) call.passes,
      )

  function_at : (n : ℕ) (f : Function) → slice_get p.functions n ≡ Some f → FunctionFits library p f
  function_at n f there = all_at (FunctionFits library p) p.functions n f whole.functions there

  instr_takes : (f : Function) (n : ℕ) (node : Node) (q : Pred) (i : Instr) → FunctionFits library p f → slice_get f.graph.nodes n ≡ Some node → node.instr ≡ i → SupportFits p i q → Takes i q
  instr_takes f n node q (Call to (Fun g) args strings) fits there is over =
      call_takes f n (slice_get p.functions g.0) to g args strings q fits (λ callee here. function_at g.0 callee here) ((fits.instructions n (Call to (Fun g) args strings) (node, there, is)).callees_fit) over
  instr_takes f n node q (Call to (Undefined name) args strings) fits there is over = tt
  instr_takes f n node q (Const to value) fits there is over = tt
  instr_takes f n node q (Copy to from) fits there is over = tt
  instr_takes f n node q (Bin to o ty a b) fits there is over = tt
  instr_takes f n node q (Un to o t a) fits there is over = tt
  instr_takes f n node q (Conv to from ty align) fits there is over = tt
  instr_takes f n node q (AddrSlot to slot) fits there is over = tt
  instr_takes f n node q (AddrGlobal to global) fits there is over = tt
  instr_takes f n node q (AddrStr to text) fits there is over = tt
  instr_takes f n node q (PtrAdd to base index factor) fits there is over = tt
  instr_takes f n node q (PtrDiff to a b size) fits there is over = tt
  instr_takes f n node q (Load to at access) fits there is over = tt
  instr_takes f n node q (Store at value access) fits there is over = tt
  instr_takes f n node q (CopyBytes to from size align) fits there is over = tt
  instr_takes f n node q (Fill slot size) fits there is over = tt
  instr_takes f n node q (Enter what) fits there is over = tt
  instr_takes f n node q (Leave slot) fits there is over = tt
  instr_takes f n node q (Lib to lib args strings) fits there is over = tt
  instr_takes f n node q (If o ty a b yes_side no_side) fits there is over = tt
  instr_takes f n node q (Jump next) fits there is over = tt
  instr_takes f n node q (Return value) fits there is over = tt
  instr_takes f n node q (Never reason) fits there is over = tt

  cause_takes : (o : Obl Pred) (cause : Cause Pred) → CauseFits p o cause → TakesCause p o cause
  cause_takes o (Primary k) fits = tt
  cause_takes o (Support q) fits = in_function (slice_get p.functions o.fun.0) refl fits
    where
      at_node : (f : Function) (found : Option Node) → FunctionFits library p f → slice_get f.graph.nodes o.node.0 ≡ found → SupportFitsAt p found q → TakesAt found q
      at_node f None whole_f there over = tt
      at_node f (Some node) whole_f there over = instr_takes f o.node.0 node q node.instr whole_f there refl over

      in_function : (found : Option Function) → slice_get p.functions o.fun.0 ≡ found → SupportFitsIn p found o.node q → TakesIn found o.node q
      in_function None there over = tt
      in_function (Some f) there over = at_node f (slice_get f.graph.nodes o.node.0) (function_at o.fun.0 f there) refl over

  pub takes_all : (lines : List (Obl Pred × Verdict Pred Rule)) → SupportsFit p lines → TakesAll p lines
  takes_all lines fits = all_as (λ (line : Obl Pred × Verdict Pred Rule). CauseFits p line.0 line.0.cause) (λ (line : Obl Pred × Verdict Pred Rule). TakesCause p line.0 line.0.cause) lines (λ line. cause_takes line.0 line.0.cause) fits
