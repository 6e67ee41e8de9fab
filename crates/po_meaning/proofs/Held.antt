-- What holds of the operands of an instruction where all obligations at its node do.
use Rattle.std.specs.Prelude.{ℕ, zero, suc, ◌+◌, ◌≡◌, ltb, ℤ, pos, ◌+ℤ◌, ◌*ℤ◌, List, [], ◌∷◌, ◌++◌, All, Bool, true, false, cond, Option, Some, slice_get}
use Rattle.std.proofs.Common.{refl, sym, ap, ◌∙◌, subst, arith}
use Rattle.std.proofs.lemmas.Int.{ints}
use Rattle.std.proofs.lemmas.Bool.{lt-ltb}
use Rattle.std.proofs.lemmas.List.Elements.{All-nil, All-cons}
use Rattle.std.proofs.lemmas.Option.{same_Some}
use Rattle.po_lists.proofs.Integers.{once}
use Rattle.po_memory.proofs.General.{one_number}
use Rattle.po_base.specs.declared.numbers.FunNo.{FunNo}
use Rattle.po_base.specs.declared.numbers.NodeNo.{NodeNo}
use Rattle.po_base.specs.declared.operand.Opnd.{Opnd}
use Rattle.po_base.specs.declared.operand.Opnd.TheVariants as operand
use Rattle.po_ir.specs.declared.instr.Access.{Access}
use Rattle.po_ir.specs.declared.instr.Instr.{Instr}
use Rattle.po_ir.specs.declared.project.Function.{Function}
use Rattle.po_ir.specs.declared.project.Project.{Project}
use Rattle.po_core.specs.declared.obl.Cause.TheVariants.{Primary}
use Rattle.po_core.specs.declared.obl.Obl.{Obl}
use Rattle.po_core.specs.declared.report.Report.{Report}
use Rattle.po_pred.specs.declared.pred.Pred.{Pred}
use Rattle.po_pred.specs.declared.pred.Pred.TheVariants.{Writable, Aligned}
use Rattle.po_pred.specs.declared.pred.Rule.{Rule}
use Rattle.po_gen.specs.Reads.{reads}
use Rattle.po_gen.specs.Asks.{Required, asks, place, number, spans, alignment, load, store, copy}
use Rattle.po_gen.specs.Gen.{gen, gen_in, gen_node, gen_instr}
use Rattle.po_memory.specs.declared.block.Block.{Block}
use Rattle.po_memory.specs.declared.frame.Frame.{Frame}
use Rattle.po_memory.specs.declared.value.Value.{Value}
use Rattle.po_memory.specs.declared.value.Value.TheVariants.{Number, Null, Pointer, Wild}
use Rattle.po_memory.specs.Values.{moved, EachPointer, EachNumber}
use Rattle.po_memory.specs.Blocks.{IsLive, Spans, IsWritable, IsAligned, IsNotNull, OnPointer}
use Rattle.po_memory.specs.Holding.{Holds}
use Rattle.po_memory.specs.Accesses.{StoreAllowed}
use Rattle.po_meaning.specs.Operands.{pointer_value, Is}
use Rattle.po_meaning.specs.States.{State, StandsAt}
use Rattle.po_meaning.specs.Checks.{Asked, obligation, numbered, supports, AllHold}

-- ---- lists

abbrev pub Each : {X : Type 0} → (X → Type 0) → List X → Type 0
Each P [] = Unit {0}
Each P (x ∷ xs) = P x × Each P xs

each_of : {X : Type 0} (P : X → Type 0) (xs : List X) → ((j : ℕ) (x : X) → slice_get xs j ≡ Some x → P x) → Each P xs
each_of P [] all = tt
each_of P (x ∷ xs) all = (all 0 x refl, each_of P xs (λ j y here. all (suc j) y here))

pub each_first : {X : Type 0} (P : X → Type 0) (xs ys : List X) → Each P (xs ++ ys) → Each P xs
each_first P [] ys h = tt
each_first P (x ∷ xs) ys h = (h.0, each_first P xs ys h.1)

pub each_last : {X : Type 0} (P : X → Type 0) (xs ys : List X) → Each P (xs ++ ys) → Each P ys
each_last P [] ys h = h
each_last P (x ∷ xs) ys h = each_last P xs ys h.1

pub each_all : {X : Type 0} (P : X → Type 0) (xs : List X) → Each P xs → All P xs
each_all P [] h = All-nil P
each_all P (x ∷ xs) h = All-cons P x xs h.0 (each_all P xs h.1)

-- ---- what an instruction asks holds

asked_at : (f : FunNo) (n : NodeNo) (k : ℕ) (qs : List Pred) (j : ℕ) (q : Pred) (more : List Asked) → slice_get qs j ≡ Some q → (o : Obl Pred) × (slice_get (numbered f n k qs ++ more) j ≡ Some (o, q))
asked_at f n k [] j q more here = absurd (cc)
asked_at f n k (x ∷ qs) zero q more here = (obligation f n (Primary k), ap (λ (y : Pred). Some (obligation f n (Primary k), y)) (same_Some x q here))
asked_at f n k (x ∷ qs) (suc j) q more here = asked_at f n (k + 1) qs j q more here

gen_is : (required : Required) (p : Project) (frame : Frame) (f : Function) (i : Instr) → StandsAt p frame f i → gen required p frame.function frame.node ≡ gen_instr required f.graph i
gen_is required p frame f i stands =
    ap (λ (o : Option Function). gen_in required o frame.node) stands.of
    ∙ (ap (gen_node required f.graph) stands.node.1 ∙ ap (gen_instr required f.graph) stands.node.2)

pub gen_hold : (required : Required) (p : Project) (r : Report Pred Rule) (s : State) (f : Function) (i : Instr) → StandsAt p s.top f i → AllHold required p r s → Each (Holds s.top s.memory) (gen_instr required f.graph i)
gen_hold required p r s f i stands held = each_of (Holds s.top s.memory) (gen_instr required f.graph i) at
  where
    at : (j : ℕ) (q : Pred) → slice_get (gen_instr required f.graph i) j ≡ Some q → Holds s.top s.memory q
    at j q here =
        let found =
        asked_at s.top.function s.top.node 0 (gen required p s.top.function s.top.node) j q (supports p r s.top.function s.top.node)
        (subst (λ (qs : List Pred). slice_get qs j ≡ Some q) (sym (gen_is required p s.top f i stands)) here) in
        held j (found.0, q) found.1

pub asks_hold : (required : Required) (p : Project) (r : Report Pred Rule) (s : State) (f : Function) (i : Instr) → StandsAt p s.top f i → AllHold required p r s → Each (Holds s.top s.memory) (asks required f.graph i)
asks_hold required p r s f i stands held = each_last (Holds s.top s.memory) (reads f.graph i) (asks required f.graph i) (gen_hold required p r s f i stands held)

-- ---- operands

unmoved : (v : Value) → v ≡ moved v (pos 0)
unmoved (Number v) = let same : v ≡ v +ℤ pos 0 = omega (arith, ints) in ap Number same
unmoved Null = refl
unmoved (Pointer block offset) = let same : offset ≡ offset +ℤ pos 0 = omega (arith, ints) in ap (Pointer block) same
unmoved Wild = refl

pub on_pointer : (fr : Frame) (a : Opnd) (v : Value) (IsSo : Value → Type 0) → pointer_value fr a ≡ Some v → EachPointer fr (place a) IsSo → IsSo v
on_pointer fr (operand.Reg r) v IsSo is h = h.each v (v, pos 0, is, omega (arith, ints), omega (arith, ints), unmoved v)
on_pointer fr (operand.Num n) v IsSo is h = h.each v (Null, n, refl, omega (arith, ints), omega (arith, ints), sym (same_Some Null v is))

pub on_number : (fr : Frame) (a : Opnd) (z : ℤ) (IsSo : ℤ → Type 0) → Is fr a z → EachNumber fr (place a) IsSo → IsSo z
on_number fr (operand.Reg r) z IsSo is h = h.each z (z, is, omega (arith, ints), omega (arith, ints))
on_number fr (operand.Num n) z IsSo is h = let same : n ≡ z = one_number n z is in h.each z (pos 0, refl, omega (arith, ints), omega (arith, ints))

pub on_constant : (fr : Frame) (n : ℤ) (IsSo : ℤ → Type 0) → EachNumber fr (number n) IsSo → IsSo n
on_constant fr n IsSo h = h.each n (pos 0, refl, omega (arith, ints), omega (arith, ints))

module _ (fr : Frame) (m : List Block) (a : Opnd) (v : Value) (is : pointer_value fr a ≡ Some v) where
  -- so many bytes from the pointer on
  pub spanned : (size : ℕ) → Holds fr m (spans (place a) size) → OnPointer (Spans (pos 0) (pos size)) m v
  spanned size h =
      let all = on_pointer fr a v (λ u. EachNumber fr (number (pos 0)) (λ lo. EachNumber fr (number (pos size)) (λ hi. OnPointer (Spans (pos 1 *ℤ lo) (pos 1 *ℤ hi)) m u))) is h in
      let from = on_constant fr (pos 0) (λ lo. EachNumber fr (number (pos size)) (λ hi. OnPointer (Spans (pos 1 *ℤ lo) (pos 1 *ℤ hi)) m v)) all in
      subst (λ hi. OnPointer (Spans (pos 0) hi) m v) (once (pos size))
      (subst (λ lo. OnPointer (Spans lo (pos 1 *ℤ pos size)) m v) (once (pos 0))
      (on_constant fr (pos size) (λ hi. OnPointer (Spans (pos 1 *ℤ pos 0) (pos 1 *ℤ hi)) m v) from))

  aligned_in : (align : ℕ) (b : Bool) → b ≡ true → Each (Holds fr m) (cond b (Aligned (place a) align ∷ []) []) → OnPointer (IsAligned align) m v
  aligned_in align true is_true h = on_pointer fr a v (OnPointer (IsAligned align) m) is h.0
  aligned_in align false is_true h = absurd (cc)

  pub load_spans : (access : Access) → Each (Holds fr m) (load (place a) access) → OnPointer (Spans (pos 0) (pos access.size)) m v
  load_spans access h = spanned access.size h.1.1.0

  pub store_allowed : (access : Access) → Each (Holds fr m) (store (place a) access) → StoreAllowed access m v
  store_allowed access h = record {
    not_null = on_pointer fr a v IsNotNull is h.0;
    live = on_pointer fr a v (OnPointer IsLive m) is h.1.0;
    span = spanned access.size h.1.1.0;
    aligned = λ above. aligned_in access.align (ltb 1 access.align) (lt-ltb 1 access.align above) (each_first (Holds fr m) (alignment (place a) access.align) (Writable (place a) ∷ []) h.1.1.1);
    writable = on_pointer fr a v (OnPointer IsWritable m) is (each_last (Holds fr m) (alignment (place a) access.align) (Writable (place a) ∷ []) h.1.1.1).0;
  }

  pub copy_spans : (from : Opnd) (size align : ℕ) → Each (Holds fr m) (copy (place a) (place from) size align) → OnPointer (Spans (pos 0) (pos size)) m v
  copy_spans from size align h = spanned size h.1.1.1.1.0

  pub copy_writes : (from : Opnd) (size align : ℕ) → Each (Holds fr m) (copy (place a) (place from) size align) → OnPointer IsWritable m v
  copy_writes from size align h =
      on_pointer fr a v (OnPointer IsWritable m) is
      (each_last (Holds fr m) (alignment (place a) align ++ alignment (place from) align) (Writable (place a) ∷ []) h.1.1.1.1.1.1).0
