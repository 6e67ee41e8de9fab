-- A project of bare functions is whole.
use Rattle.std.specs.Prelude.{ℕ, ℤ, zero, suc, cond, pos, ◌+◌, ◌≡◌, ◌≢◌, ◌≤◌, ◌<◌, ◌↔◌, ◌⊎◌, [], ◌∷◌, List, All, Bool, true, false, ◌||◌, IsTrue, map, take, codes, Option, Some, None, MatchOption, Contains, length, slice_get}
use Rattle.std.specs.List.{list_any}
use Rattle.std.proofs.Common.{inl, inr, refl, sym, ap, ◌∙◌, subst, arith}
use Rattle.std.proofs.lemmas.List.Elements.{All-nil, All-cons}
use Rattle.std.proofs.lemmas.Option.{slice_get_within}
use Rattle.po_lists.proofs.Options.{one_value}
use Rattle.po_lists.proofs.Places.{all_at, all_head, all_tail, item_at}
use Rattle.po_lists.proofs.Members.{contains, contains_cases, contains_none}
use Rattle.po_base.specs.declared.numbers.FunNo.{FunNo}
use Rattle.po_base.specs.declared.numbers.NodeNo.{NodeNo}
use Rattle.po_base.specs.declared.numbers.RegNo.{RegNo}
use Rattle.po_base.specs.declared.numbers.SlotNo.{SlotNo}
use Rattle.po_base.specs.declared.operand.Opnd.{Opnd}
use Rattle.po_base.specs.declared.operand.Opnd.TheVariants as operand
use Rattle.po_base.specs.declared.operators.Op.{Op}
use Rattle.po_arith.specs.declared.target.Target.{Target}
use Rattle.po_arith.specs.declared.target.Target.TheVariants.{L64}
use Rattle.po_arith.specs.Types.{IsIntType, IsOfType}
use Rattle.po_ir.specs.declared.graph.Graph.{Graph}
use Rattle.po_ir.specs.declared.graph.Node.{Node}
use Rattle.po_ir.specs.declared.graph.Reg.{Reg as Register}
use Rattle.po_ir.specs.declared.graph.Slot.{Slot}
use Rattle.po_ir.specs.declared.instr.Access.{Access}
use Rattle.po_ir.specs.declared.instr.Callee.{Callee}
use Rattle.po_ir.specs.declared.instr.Callee.TheVariants.{Fun, Extern as Undefined}
use Rattle.po_ir.specs.declared.instr.Instr.{Instr}
use Rattle.po_ir.specs.declared.instr.Instr.TheVariants.{Const, Copy, Bin, Un, Conv, AddrSlot, AddrGlobal, AddrStr, PtrAdd, PtrDiff, Load, Store, CopyBytes, Fill, Enter, Leave, Call, Lib, If, Jump, Return, Never}
use Rattle.po_ir.specs.declared.instr.Local.TheVariants as variable
use Rattle.po_ir.specs.declared.instr.Reason.{Reason}
use Rattle.po_ir.specs.declared.instr.Reason.TheVariants.{End, Unread}
use Rattle.po_ir.specs.declared.instr.Ty.{Ty}
use Rattle.po_ir.specs.declared.instr.Ty.TheVariants.{Int, Ptr}
use Rattle.po_ir.specs.declared.project.Effects.{Effects}
use Rattle.po_ir.specs.declared.project.Function.{Function}
use Rattle.po_ir.specs.declared.project.Global.{Global}
use Rattle.po_ir.specs.declared.project.Project.{Project}
use Rattle.po_ir.specs.General.{each_from}
use Rattle.po_ir.specs.Calls.{function_calls}
use Rattle.po_ir.specs.Instructions.{entered, followers, left, used}
use Rattle.po_ir.specs.IntTypes.{IsTypeOfTarget, types_in}
use Rattle.po_ir.specs.Paths.{IsEntered, NodeAt, Path, start, step}
use Rattle.po_ir.specs.Reaching.{AreEffects, LibraryEffects, Reaches, does, frees_here, reaches_itself, reaches_through, writes_here}
use Rattle.po_ir.specs.Types.{HasTruth, IsKept, IsResultType, Lies, LiesAmongIntegers, TypeIs, integer_spellings, is_comparison, size_of}
use Rattle.po_ir.specs.Valid.{EndsLast, IsThere, NamesParts}
use Rattle.po_ir.specs.Whole.{AccessFits, CallFits, CalleesFit, FunctionFits, InstructionFits, IsTemporary, IsUnread, IsWhole, Passes, greatest_size, library_effects, parameter_types, type_of}
use Rattle.step_tests.specs.Bare.{signatures, AreMarks, AreMarksUpTo, FitsMarks, IsBare, IsBareFunction, IsBareProject, IsInside, IsInt, IsOfInt, StaysInside, int, int_access, int_slot, is_marked, parameter, pointer_register, three_registers, variable_register}

pub no_items : {X : Type 0} (xs : List X) (k : ℕ) (x : X) → xs ≡ [] → slice_get xs k ≡ Some x → ⊥
no_items xs k x empty here = let at : slice_get [] k ≡ Some x = ap (λ ys. slice_get ys k) (sym empty) ∙ here in absurd (cc)

all_as : {X : Type 0} (P Q : X → Type 0) (xs : List X) → ((x : X) → P x → Q x) → All P xs → All Q xs
all_as P Q [] each all = All-nil Q
all_as P Q (x ∷ xs) each all = All-cons Q x xs (each x (all_head P x xs all)) (all_as P Q xs each (all_tail P x xs all))

all_none : {X : Type 0} (P : X → Type 0) (xs : List X) → xs ≡ [] → All P xs
all_none P xs empty = subst (All P) (sym empty) (All-nil P)

-- ---- instructions

abbrev third : RegNo
third = record { 0 = 2 }

abbrev pointer : Opnd
pointer = operand.Reg third

abbrev first_slot : SlotNo
first_slot = record { 0 = 0 }

third_is : (r : RegNo) → r.0 ≡ 2 → third ≡ r
third_is r is = ap (λ (k : ℕ). record { 0 = k }) (sym is)

slot_is : (s : SlotNo) → s.0 ≡ 0 → first_slot ≡ s
slot_is s is = ap (λ (k : ℕ). record { 0 = k }) (sym is)

module _ (P : Instr → Type 0) (functions nodes : ℕ)
    (bin : (to : RegNo) (o : Op) (ty : Ty) (a b : Opnd) → IsBare functions nodes (Bin to o ty a b) → P (Bin to o ty a b))
    (branch : (o : Op) (ty : Ty) (a b : Opnd) (yes_side no_side : NodeNo) → IsBare functions nodes (If o ty a b yes_side no_side) → P (If o ty a b yes_side no_side))
    (jump : (next : NodeNo) → next.0 < nodes → P (Jump next)) (call : (to : RegNo) (g : FunNo) (a : Opnd) → IsOfInt to → g.0 < functions → IsInt a → P (Call (Some to) (Fun g) (a ∷ []) []))
    (back : (a : Opnd) → IsInt a → P (Return (Some a))) (never : P (Never End)) (enter : P (Enter (variable.Slot first_slot))) (leave : P (Leave first_slot)) (address : P (AddrSlot third first_slot))
    (load : (to : RegNo) → IsOfInt to → P (Load to pointer int_access)) (store : (value : Opnd) → IsInt value → P (Store pointer value int_access)) where
  -- what holds of the eleven kinds holds of each bare instruction
  pub each_kind : (i : Instr) → IsBare functions nodes i → P i
  each_kind (Bin to o ty a b) is = bin to o ty a b is
  each_kind (If o ty a b yes_side no_side) is = branch o ty a b yes_side no_side is
  each_kind (Jump next) is = jump next is
  each_kind (Call None callee args strings) is = absurd (is.0)
  each_kind (Call (Some to) (Undefined name) args strings) is = absurd (is.1)
  each_kind (Call (Some to) (Fun g) [] strings) is = absurd (is.2)
  each_kind (Call (Some to) (Fun g) (a ∷ rest) strings) is =
      subst (λ (ns : List ℕ). P (Call (Some to) (Fun g) (a ∷ rest) ns)) (sym is.3) (subst (λ (xs : List Opnd). P (Call (Some to) (Fun g) (a ∷ xs) [])) (sym is.2.1) (call to g a is.0 is.1 is.2.0))
  each_kind (Return None) is = absurd is
  each_kind (Return (Some a)) is = back a is
  each_kind (Never reason) is = subst (λ (r : Reason). P (Never r)) (sym is) never
  each_kind (Enter (variable.Reg r)) is = absurd is
  each_kind (Enter (variable.Slot s)) is = subst (λ (t : SlotNo). P (Enter (variable.Slot t))) (slot_is s is) enter
  each_kind (Leave slot) is = subst (λ (t : SlotNo). P (Leave t)) (slot_is slot is) leave
  each_kind (AddrSlot to slot) is = subst (λ (r : RegNo). P (AddrSlot r slot)) (third_is to is.0) (subst (λ (t : SlotNo). P (AddrSlot third t)) (slot_is slot is.1) address)
  each_kind (Load to (operand.Num v) access) is = absurd (is.1)
  each_kind (Load to (operand.Reg at) access) is =
      subst (λ (r : RegNo). P (Load to (operand.Reg r) access)) (third_is at is.1) (subst (λ (x : Access). P (Load to pointer x)) (sym is.2) (load to is.0))
  each_kind (Store (operand.Num v) value access) is = absurd (is.0)
  each_kind (Store (operand.Reg at) value access) is =
      subst (λ (r : RegNo). P (Store (operand.Reg r) value access)) (third_is at is.0) (subst (λ (x : Access). P (Store pointer value x)) (sym is.2) (store value is.1))
  each_kind (Const to value) is = absurd is
  each_kind (Copy to from) is = absurd is
  each_kind (Un to o t a) is = absurd is
  each_kind (Conv to from ty align) is = absurd is
  each_kind (AddrGlobal to global) is = absurd is
  each_kind (AddrStr to text) is = absurd is
  each_kind (PtrAdd to base index factor) is = absurd is
  each_kind (PtrDiff to a b size) is = absurd is
  each_kind (CopyBytes to from size align) is = absurd is
  each_kind (Fill slot size) is = absurd is
  each_kind (Lib to lib args strings) is = absurd is

-- ---- the registers and the slot

number_in : (P : Ty → Type 0) → P (Int int) → (n : ℕ) → n < 2 → MatchOption (slice_get three_registers n) ⊥ (λ (x : Register). P x.ty)
number_in P holds zero less = holds
number_in P holds (suc zero) less = holds
number_in P holds (suc (suc n)) less = absurd (omega (arith, less))

module _ (g : Graph) (regs : g.regs ≡ three_registers) where
  number_kept : (r : RegNo) → IsOfInt r → (P : Ty → Type 0) → P (Int int) → TypeIs g r P
  number_kept r is P holds = subst (λ (rs : List Register). MatchOption (slice_get rs r.0) ⊥ (λ (x : Register). P x.ty)) (sym regs) (number_in P holds r.0 is)

  pointer_kept : (P : Ty → Type 0) → P Ptr → TypeIs g third P
  pointer_kept P holds = subst (λ (rs : List Register). MatchOption (slice_get rs 2) ⊥ (λ (x : Register). P x.ty)) (sym regs) holds

  lies : (a : Opnd) → IsInt a → Lies g (Int int) a
  lies (operand.Reg r) is = number_kept r is (λ (s : Ty). IsKept s (Int int)) (λ v of. of)
  lies (operand.Num v) is = is

  pointer_lies : Lies g Ptr pointer
  pointer_lies = pointer_kept (λ (s : Ty). IsKept s Ptr) tt

  three : length g.regs ≡ 3
  three = ap (λ (rs : List Register). length rs) regs

  there : (r : RegNo) → IsOfInt r → r.0 < length g.regs
  there r is = let count = three in omega (arith, count, is)

  pointer_there : 2 < length g.regs
  pointer_there = let count = three in omega (arith, count)

  operand_there : (a : Opnd) → IsInt a → IsThere (length g.regs) a
  operand_there (operand.Reg r) is = there r is
  operand_there (operand.Num v) is = tt

  one_there : (a : Opnd) → IsThere (length g.regs) a → All (IsThere (length g.regs)) (a ∷ [])
  one_there a is = All-cons (IsThere (length g.regs)) a [] is (All-nil (IsThere (length g.regs)))

  both_there : (a b : Opnd) → IsThere (length g.regs) a → IsThere (length g.regs) b → All (IsThere (length g.regs)) (a ∷ (b ∷ []))
  both_there a b is_a is_b = All-cons (IsThere (length g.regs)) a (b ∷ []) is_a (one_there b is_b)

  names : g.slots ≡ int_slot ∷ [] → (functions : ℕ) (i : Instr) → IsBare functions (length g.nodes) i → NamesParts g i
  names slots functions =
      let one : length g.slots ≡ 1 = ap (λ (ss : List Slot). length ss) slots in
      let slot_there : 0 < length g.slots = omega (arith, one) in
      let no_operands : All (IsThere (length g.regs)) [] = All-nil (IsThere (length g.regs)) in
      each_kind (NamesParts g) functions (length g.nodes)
      (λ to o ty a b is. ((there to is.0, both_there a b (operand_there a is.4) (operand_there b is.5), tt), (tt, tt), tt))
      (λ o ty a b yes_side no_side is. ((tt, both_there a b (operand_there a is.1) (operand_there b is.2), tt), (tt, tt), (is.3, is.4)))
      (λ next less. ((tt, no_operands, tt), (tt, tt), less))
      (λ to g a into called is. ((there to into, one_there a (operand_there a is), tt), (tt, tt), tt))
      (λ a is. ((tt, one_there a (operand_there a is), tt), (tt, tt), tt))
      ((tt, no_operands, tt), (tt, tt), tt)
      ((tt, no_operands, tt), (slot_there, tt), tt)
      ((tt, no_operands, tt), (tt, slot_there), tt)
      ((pointer_there, no_operands, tt), (tt, slot_there), tt)
      (λ to into. ((there to into, one_there pointer pointer_there, tt), (tt, tt), tt))
      (λ value is. ((tt, both_there pointer value pointer_there (operand_there value is), tt), (tt, tt), tt))

int_is : IsIntType int
int_is = record { width = inr (inr (inr (inl refl))); bool_unsigned = λ same. absurd (omega (arith, same)) }

typed : (functions nodes : ℕ) (i : Instr) → IsBare functions nodes i → All IsTypeOfTarget (types_in i)
typed functions nodes = each_kind (λ i. All IsTypeOfTarget (types_in i)) functions nodes
    (λ to o ty a b is. All-cons IsTypeOfTarget ty [] (subst IsTypeOfTarget (sym is.3) int_is) (All-nil IsTypeOfTarget))
    (λ o ty a b yes_side no_side is. All-cons IsTypeOfTarget ty [] (subst IsTypeOfTarget (sym is.0) int_is) (All-nil IsTypeOfTarget))
    (λ next less. All-nil IsTypeOfTarget) (λ to g a into called is. All-nil IsTypeOfTarget) (λ a is. All-nil IsTypeOfTarget) (All-nil IsTypeOfTarget)
    (All-nil IsTypeOfTarget) (All-nil IsTypeOfTarget) (All-nil IsTypeOfTarget)
    (λ to into. All-cons IsTypeOfTarget (Int int) [] int_is (All-nil IsTypeOfTarget)) (λ value is. All-cons IsTypeOfTarget (Int int) [] int_is (All-nil IsTypeOfTarget))

-- ---- where the slot is entered

nothing : (s : SlotNo) → None ≡ Some s → ⊥
nothing s same = cc

-- the slot that is used is the one there is, at a node where the marks say that it is entered
uses : (marks : List ℕ) (n : ℕ) (s : SlotNo) (functions nodes : ℕ) (i : Instr) → IsBare functions nodes i → FitsMarks marks n i → used i ≡ Some s → IsInside marks n × (first_slot ≡ s)
uses marks n s functions nodes = each_kind (λ i. FitsMarks marks n i → used i ≡ Some s → IsInside marks n × (first_slot ≡ s)) functions nodes
    (λ to o ty a b is fits same. absurd (nothing s same)) (λ o ty a b yes_side no_side is fits same. absurd (nothing s same)) (λ next less fits same. absurd (nothing s same))
    (λ to g a into called is fits same. absurd (nothing s same)) (λ a is fits same. absurd (nothing s same)) (λ fits same. absurd (nothing s same)) (λ fits same. absurd (nothing s same))
    (λ fits same. (fits.0, one_value (Some first_slot) first_slot s refl same)) (λ fits same. (fits, one_value (Some first_slot) first_slot s refl same))
    (λ to into fits same. absurd (nothing s same)) (λ value is fits same. absurd (nothing s same))

alone_in : (k m : ℕ) → Contains (k ∷ []) m → k ≡ m
alone_in k m has = by (contains_cases k [] m has)
  where
    by : (k ≡ m) ⊎ Contains [] m → k ≡ m
    by (inl same) = same
    by (inr none) = absurd (contains_none m none)

module _ (marks : List ℕ) (n m : ℕ) where
  -- the slot is entered at the node m because the instruction enters it, or because it was before and isn't left
  abbrev Lasts : Instr → Type 0
  Lasts i = (entered i ≡ Some first_slot) ⊎ ((left i ≢ Some first_slot) × IsInside marks n)

  next_only : (k : ℕ) → StaysInside marks n k → Contains (k ∷ []) m → IsInside marks m → IsInside marks n
  next_only k stays has inside = stays (subst (IsInside marks) (sym (alone_in k m has)) inside)

  either_side : (k l : ℕ) → StaysInside marks n k × StaysInside marks n l → Contains (k ∷ (l ∷ [])) m → IsInside marks m → IsInside marks n
  either_side k l stays has inside = by (contains_cases k (l ∷ []) m has)
    where
      by : (k ≡ m) ⊎ Contains (l ∷ []) m → IsInside marks n
      by (inl same) = stays.0 (subst (IsInside marks) (sym same) inside)
      by (inr rest) = next_only l stays.1 rest inside

  not_behind : is_marked marks (n + 1) ≡ false → Contains ((n + 1) ∷ []) m → IsInside marks m → ⊥
  not_behind ended has inside = let both : true ≡ false = sym (subst (IsInside marks) (sym (alone_in (n + 1) m has)) inside) ∙ ended in cc

  lasts : (functions nodes : ℕ) (i : Instr) → IsBare functions nodes i → FitsMarks marks n i → Contains (followers n i) m → IsInside marks m → Lasts i
  lasts functions nodes = each_kind (λ i. FitsMarks marks n i → Contains (followers n i) m → IsInside marks m → Lasts i) functions nodes
      (λ to o ty a b is fits has inside. inr (nothing first_slot, next_only (n + 1) fits has inside))
      (λ o ty a b yes_side no_side is fits has inside. inr (nothing first_slot, either_side yes_side.0 no_side.0 fits has inside))
      (λ next less fits has inside. inr (nothing first_slot, next_only next.0 fits has inside))
      (λ to g a into called is fits has inside. inr (nothing first_slot, next_only (n + 1) fits has inside))
      (λ a is fits has inside. absurd (contains_none m has))
      (λ fits has inside. absurd (contains_none m has))
      (λ fits has inside. inl refl)
      (λ fits has inside. absurd (not_behind fits.1 has inside))
      (λ fits has inside. inr (nothing first_slot, fits))
      (λ to into fits has inside. inr (nothing first_slot, next_only (n + 1) fits has inside))
      (λ value is fits has inside. inr (nothing first_slot, next_only (n + 1) fits has inside))

-- ---- marks that are looked at one after the other

below_or_here : (n k : ℕ) → n < k + 1 → (n < k) ⊎ (n ≡ k)
below_or_here zero zero less = inr refl
below_or_here zero (suc k) less = inl (omega arith)
below_or_here (suc n) zero less = absurd (omega (arith, less))
below_or_here (suc n) (suc k) less = elim (below_or_here n k (omega (arith, less))) [ inl l ↦ inl (omega (arith, l)) | inr e ↦ inr (omega (arith, e)) ]

pub marks_more : (marks : List ℕ) (nodes : List Node) (k : ℕ) → AreMarksUpTo marks nodes k → MatchOption (slice_get nodes k) ⊥ (λ (x : Node). FitsMarks marks k x.instr) → AreMarksUpTo marks nodes (k + 1)
marks_more marks nodes k before here n node less at = by (below_or_here n k less)
  where
    by : (n < k) ⊎ (n ≡ k) → FitsMarks marks n node.instr
    by (inl below) = before n node below at
    by (inr same) =
        let there : slice_get nodes k ≡ Some node = subst (λ (j : ℕ). slice_get nodes j ≡ Some node) same at in
        subst (λ (j : ℕ). FitsMarks marks j node.instr) (sym same) (subst (λ (o : Option Node). MatchOption o ⊥ (λ (x : Node). FitsMarks marks k x.instr)) there here)

pub marks_all : (marks : List ℕ) (nodes : List Node) (k : ℕ) → is_marked marks 0 ≡ false → length nodes ≤ k → AreMarksUpTo marks nodes k → AreMarks marks nodes
marks_all marks nodes k first far all = record { first = first; each = λ n node at. let within = slice_get_within nodes n node at in all n node (omega (arith, within, far)) at }

-- ---- functions

pub instruction_at : (functions : ℕ) (f : Function) (n : ℕ) (i : Instr) → IsBareFunction functions f → NodeAt f.graph n i → IsBare functions (length f.graph.nodes) i
instruction_at functions f n i bare at = subst (IsBare functions (length f.graph.nodes)) at.2 (all_at (λ (x : Node). IsBare functions (length f.graph.nodes) x.instr) f.graph.nodes n at.0 bare.instructions at.1)

mark_at : (functions : ℕ) (f : Function) (n : ℕ) (i : Instr) (bare : IsBareFunction functions f) → NodeAt f.graph n i → FitsMarks bare.marks n i
mark_at functions f n i bare at = subst (FitsMarks bare.marks n) at.2 (bare.marked.each n at.0 at.1)

-- behind an instruction the slot was entered, where that is so before it
entered_behind : (marks : List ℕ) (k m : ℕ) (i : Instr) (rest : List Instr) → (IsInside marks k → IsEntered first_slot rest) → Lasts marks k m i → IsEntered first_slot (i ∷ rest)
entered_behind marks k m i rest before (inl enters) = inl enters
entered_behind marks k m i rest before (inr stays) = inr (stays.0, before stays.1)

-- on each way to a node where the marks say so the slot was entered, and not left since
entered_on : (functions : ℕ) (f : Function) (bare : IsBareFunction functions f) (back : List Instr) (n : ℕ) → Path f.graph 0 back n → IsInside bare.marks n → IsEntered first_slot back
entered_on functions f bare back n start inside = let both : true ≡ false = sym inside ∙ bare.marked.first in absurd (cc)
entered_on functions f bare back n (step rest k m i way at has) inside =
    entered_behind bare.marks k m i rest (λ before. entered_on functions f bare rest k way before)
    (lasts bare.marks k m functions (length f.graph.nodes) i (instruction_at functions f k i bare at) (mark_at functions f k i bare at) has inside)

pub one_type : (functions : ℕ) (f : Function) → IsBareFunction functions f → parameter_types f ≡ Int int ∷ []
one_type functions f bare = ap (λ (k : ℕ). map type_of (take k f.graph.regs)) bare.params ∙ ap (λ (rs : List Register). map type_of (take 1 rs)) bare.regs

returns_int : (text : List ℕ) → text ≡ codes "i32" → IsResultType text (Some (Int int))
returns_int text same = subst (λ (t : List ℕ). IsResultType t (Some (Int int))) (sym same) (contains integer_spellings (codes "i32", int) (inr (inr (inr (inr (inr (inl refl)))))))

four : (t : Target) → 4 ≡ size_of t (Int int)
four L64 = refl

access_fits : (t : Target) → AccessFits t int_access
access_fits t = (four t, omega arith)

pub not_unread : (functions : ℕ) (f : Function) → IsBareFunction functions f → IsUnread f → ⊥
not_unread functions f bare (n, nodes, unread) = let is : IsBare functions (length f.graph.nodes) (Never Unread) = subst (IsBare functions (length f.graph.nodes)) unread (all_at (λ (x : Node). IsBare functions (length f.graph.nodes) x.instr) f.graph.nodes 0 n bare.instructions (ap (λ (ns : List Node). slice_get ns 0) nodes)) in cc

param_only : (n : ℕ) (register : Register) → slice_get three_registers n ≡ Some register → IsTrue register.param ↔ (n < 1)
param_only zero register found = (λ is. omega arith, λ less. ap (λ (x : Register). x.param) (sym (one_value (Some parameter) parameter register refl found)))
param_only (suc zero) register found = (λ is. let both : true ≡ false = sym is ∙ ap (λ (x : Register). x.param) (sym (one_value (Some variable_register) variable_register register refl found)) in absurd (cc), λ less. absurd (omega (arith, less)))
param_only (suc (suc zero)) register found = (λ is. let both : true ≡ false = sym is ∙ ap (λ (x : Register). x.param) (sym (one_value (Some pointer_register) pointer_register register refl found)) in absurd (cc), λ less. absurd (omega (arith, less)))
param_only (suc (suc (suc n))) register found = absurd (cc)

-- only the first register is a parameter
pub first_only : (functions : ℕ) (f : Function) → IsBareFunction functions f → (r : ℕ) (register : Register) → slice_get f.graph.regs r ≡ Some register → IsTrue register.param ↔ (r < f.graph.params)
first_only functions f bare r register found =
    subst (λ (k : ℕ). IsTrue register.param ↔ (r < k)) (sym bare.params) (param_only r register (ap (λ (rs : List Register). slice_get rs r) (sym bare.regs) ∙ found))

named : (n : ℕ) → MatchOption (slice_get three_registers n) ⊥ (λ (x : Register). (x.param ≡ false) × (x.name ≡ None)) → ⊥
named zero is = let both : true ≡ false = is.0 in cc
named (suc zero) is = let none : Some (codes "v") ≡ None = is.1 in cc
named (suc (suc zero)) is = let none : Some (codes "p") ≡ None = is.1 in cc
named (suc (suc (suc n))) is = is

pub no_temporary : (functions : ℕ) (f : Function) → IsBareFunction functions f → (r : RegNo) → IsTemporary f.graph r → ⊥
no_temporary functions f bare r temporary = named r.0 (subst (λ (regs : List Register). MatchOption (slice_get regs r.0) ⊥ (λ (x : Register). (x.param ≡ false) × (x.name ≡ None))) bare.regs temporary)

module _ (p : Project) (whole : IsBareProject p) where
  callee_fits : (to : RegNo) (g : FunNo) (a : Opnd) → IsOfInt to → g.0 < length p.functions → IsInt a → (f : Function) → IsBareFunction (length p.functions) f →
      MatchOption (slice_get p.functions g.0) ⊥ (λ (callee : Function). (IsUnread callee → ⊥) → CallFits f.graph (Some to) (a ∷ []) callee)
  callee_fits to g a into inside is f calling =
      let callee = item_at p.functions g.0 inside in
      let bare = all_at (IsBareFunction (length p.functions)) p.functions g.0 callee.0 whole.functions callee.1 in
      subst (λ (o : Option Function). MatchOption o ⊥ (λ (c : Function). (IsUnread c → ⊥) → CallFits f.graph (Some to) (a ∷ []) c)) (sym callee.1)
      (λ read. record {
        passes = subst (λ (ts : List Ty). Passes f.graph false ts (a ∷ [])) (sym (one_type (length p.functions) callee.0 bare)) (lies f.graph calling.regs a is, tt);
        result = number_kept f.graph calling.regs to into (λ (t : Ty). IsResultType callee.0.result.text (Some t)) (returns_int callee.0.result.text bare.result);
      })

  module _ (f : Function) (bare : IsBareFunction (length p.functions) f) where
    bin_fits : (to : RegNo) (o : Op) (ty : Ty) (a b : Opnd) → IsBare (length p.functions) (length f.graph.nodes) (Bin to o ty a b) → InstructionFits signatures p f (Bin to o ty a b)
    bin_fits to o ty a b is = subst (λ (t : Ty). InstructionFits signatures p f (Bin to o t a b)) (sym is.3) (record {
      operands_lie = (lies f.graph bare.regs a is.4, subst (λ (s : Bool). cond s (LiesAmongIntegers f.graph b) (Lies f.graph (Int int) b)) (sym is.2) (lies f.graph bare.regs b is.5));
      compares_pointers = tt;
      result_fits = number_kept f.graph bare.regs to is.0 (λ (t : Ty). cond (is_comparison o) (HasTruth t) (IsKept (Int int) t)) (subst (λ (s : Bool). cond s (HasTruth (Int int)) (IsKept (Int int) (Int int))) (sym is.1) (λ v of. of));
      numbers_fit = tt;
      callees_fit = tt;
      return_fits = tt;
      opens_variables = tt;
    })

    branch_fits : (o : Op) (ty : Ty) (a b : Opnd) (yes_side no_side : NodeNo) → IsBare (length p.functions) (length f.graph.nodes) (If o ty a b yes_side no_side) → InstructionFits signatures p f (If o ty a b yes_side no_side)
    branch_fits o ty a b yes_side no_side is = subst (λ (t : Ty). InstructionFits signatures p f (If o t a b yes_side no_side)) (sym is.0) (record {
      operands_lie = (lies f.graph bare.regs a is.1, lies f.graph bare.regs b is.2);
      compares_pointers = tt;
      result_fits = tt;
      numbers_fit = tt;
      callees_fit = tt;
      return_fits = tt;
      opens_variables = tt;
    })

    load_fits : (to : RegNo) → IsOfInt to → InstructionFits signatures p f (Load to pointer int_access)
    load_fits to into = record {
      operands_lie = pointer_lies f.graph bare.regs;
      compares_pointers = tt;
      result_fits = number_kept f.graph bare.regs to into (λ (t : Ty). IsKept (Int int) t) (λ v of. of);
      numbers_fit = access_fits p.target;
      callees_fit = tt;
      return_fits = tt;
      opens_variables = tt;
    }

    store_fits : (value : Opnd) → IsInt value → InstructionFits signatures p f (Store pointer value int_access)
    store_fits value is = record {
      operands_lie = (pointer_lies f.graph bare.regs, lies f.graph bare.regs value is);
      compares_pointers = tt;
      result_fits = tt;
      numbers_fit = access_fits p.target;
      callees_fit = tt;
      return_fits = tt;
      opens_variables = tt;
    }

    fits : (i : Instr) → IsBare (length p.functions) (length f.graph.nodes) i → InstructionFits signatures p f i
    fits = each_kind (InstructionFits signatures p f) (length p.functions) (length f.graph.nodes) bin_fits branch_fits
        (λ next less. record { operands_lie = tt; compares_pointers = tt; result_fits = tt; numbers_fit = tt; callees_fit = tt; return_fits = tt; opens_variables = tt })
        (λ to g a into called is. record { operands_lie = tt; compares_pointers = tt; result_fits = tt; numbers_fit = tt; callees_fit = callee_fits to g a into called is f bare; return_fits = tt; opens_variables = tt })
        (λ a is. record { operands_lie = tt; compares_pointers = tt; result_fits = tt; numbers_fit = tt; callees_fit = tt; return_fits = (Int int, returns_int f.result.text bare.result, lies f.graph bare.regs a is); opens_variables = tt })
        (record { operands_lie = tt; compares_pointers = tt; result_fits = tt; numbers_fit = tt; callees_fit = tt; return_fits = tt; opens_variables = tt })
        (record { operands_lie = tt; compares_pointers = tt; result_fits = tt; numbers_fit = tt; callees_fit = tt; return_fits = tt; opens_variables = tt })
        (record { operands_lie = tt; compares_pointers = tt; result_fits = tt; numbers_fit = tt; callees_fit = tt; return_fits = tt; opens_variables = tt })
        (record { operands_lie = tt; compares_pointers = tt; result_fits = pointer_kept f.graph bare.regs (λ (t : Ty). IsKept Ptr t) tt; numbers_fit = tt; callees_fit = tt; return_fits = tt; opens_variables = tt })
        load_fits store_fits

  pub function_fits : (f : Function) → IsBareFunction (length p.functions) f → FunctionFits signatures p f
  function_fits f bare = record {
    valid = (all_as (λ (n : Node). IsBare (length p.functions) (length f.graph.nodes) n.instr) (λ (n : Node). NamesParts f.graph n.instr) f.graph.nodes (λ n. names f.graph bare.regs bare.slots (length p.functions) n.instr) bare.instructions, bare.last);
    parameters = record { there = let params = bare.params in let count = three f.graph bare.regs in omega (arith, params, count); first = first_only (length p.functions) f bare };
    types = record {
      registers = subst (All (λ (r : Register). IsTypeOfTarget r.ty)) (sym bare.regs) (All-cons (λ (r : Register). IsTypeOfTarget r.ty) parameter (variable_register ∷ (pointer_register ∷ [])) int_is (All-cons (λ (r : Register). IsTypeOfTarget r.ty) variable_register (pointer_register ∷ []) int_is (All-cons (λ (r : Register). IsTypeOfTarget r.ty) pointer_register [] tt (All-nil (λ (r : Register). IsTypeOfTarget r.ty)))));
      instructions = all_as (λ (n : Node). IsBare (length p.functions) (length f.graph.nodes) n.instr) (λ (n : Node). All IsTypeOfTarget (types_in n.instr)) f.graph.nodes (λ n. typed (length p.functions) (length f.graph.nodes) n.instr) bare.instructions;
    };
    instructions = λ n i at. fits f bare i (instruction_at (length p.functions) f n i bare at);
    written_before_read = λ back n i r path at reads temporary. absurd (no_temporary (length p.functions) f bare r temporary);
    entered_before_used = λ back n i s path at uses_slot.
        let is = uses bare.marks n s (length p.functions) (length f.graph.nodes) i (instruction_at (length p.functions) f n i bare at) (mark_at (length p.functions) f n i bare at) uses_slot in
        subst (λ (t : SlotNo). IsEntered t back) is.1 (entered_on (length p.functions) f bare back n path is.0);
    slots = subst (All (λ (s : Slot). (s.size ≤ greatest_size) × (1 ≤ s.align))) (sym bare.slots) (All-cons (λ (s : Slot). (s.size ≤ greatest_size) × (1 ≤ s.align)) int_slot [] (omega arith, omega arith) (All-nil (λ (s : Slot). (s.size ≤ greatest_size) × (1 ≤ s.align))));
    unread_has_nothing = λ unread. absurd (not_unread (length p.functions) f bare unread);
  }

  pub is_whole : IsWhole signatures p
  is_whole = record {
    functions = all_as (IsBareFunction (length p.functions)) (FunctionFits signatures p) p.functions function_fits whole.functions;
    globals = all_none (λ (g : Global). (g.size ≤ greatest_size) × (1 ≤ g.align)) p.globals whole.globals;
    texts = all_none (λ (text : List ℕ). length text + 1 ≤ greatest_size) p.texts whole.texts;
    effects = whole.effects;
  }

-- ---- effects

any_same : (t u : Instr → Bool) (functions count : ℕ) → ((i : Instr) → IsBare functions count i → t i ≡ u i) → (nodes : List Node) → All (λ (x : Node). IsBare functions count x.instr) nodes →
    list_any (λ (x : Node). t x.instr) nodes ≡ list_any (λ (x : Node). u x.instr) nodes
any_same t u functions count same [] all = refl
any_same t u functions count same (x ∷ nodes) all =
    ap (λ (b : Bool). b || list_any (λ (y : Node). t y.instr) nodes) (same x.instr (all_head (λ (y : Node). IsBare functions count y.instr) x nodes all))
    ∙ ap (λ (b : Bool). u x.instr || b) (any_same t u functions count same nodes (all_tail (λ (y : Node). IsBare functions count y.instr) x nodes all))

does_same : (t u : Instr → Bool) (functions : ℕ) → ((count : ℕ) (i : Instr) → IsBare functions count i → t i ≡ u i) → (f : Function) → IsBareFunction functions f → does t f ≡ does u f
does_same t u functions same f bare = any_same t u functions (length f.graph.nodes) (same (length f.graph.nodes)) f.graph.nodes bare.instructions

-- what calls reach depends on the functions, and on what is asked of their nodes
carried : (p q : Project) (t u : Instr → Bool) → p.functions ≡ q.functions → ((f : ℕ) (function : Function) → slice_get p.functions f ≡ Some function → does u function ≡ does t function) → (f : ℕ) → Reaches p t f → Reaches q u f
carried p q t u functions same _ (reaches_itself f function at passes) = reaches_itself f function (subst (λ (l : List Function). slice_get l f ≡ Some function) functions at) (same f function at ∙ passes)
carried p q t u functions same _ (reaches_through f g function n at has rest) =
    reaches_through f g function n (subst (λ (l : List Function). slice_get l f ≡ Some function) functions at)
    (subst (λ (l : List Function). Contains (each_from (function_calls (record { 0 = g })) 0 l) (record { 0 = f }, n)) functions has) (carried p q t u functions same g rest)

frees_same : (l m : LibraryEffects) (functions count : ℕ) (i : Instr) → IsBare functions count i → frees_here l i ≡ frees_here m i
frees_same l m functions count = each_kind (λ i. frees_here l i ≡ frees_here m i) functions count (λ to o ty a b is. refl) (λ o ty a b yes_side no_side is. refl) (λ next less. refl) (λ to g a into called is. refl) (λ a is. refl) refl refl refl refl (λ to into. refl) (λ value is. refl)

writes_same : (l m : LibraryEffects) (functions count : ℕ) (i : Instr) → IsBare functions count i → writes_here l i ≡ writes_here m i
writes_same l m functions count = each_kind (λ i. writes_here l i ≡ writes_here m i) functions count (λ to o ty a b is. refl) (λ o ty a b yes_side no_side is. refl) (λ next less. refl) (λ to g a into called is. refl) (λ a is. refl) refl refl refl refl (λ to into. refl) (λ value is. refl)

-- bare functions call no library, so it doesn't matter what is known of one
carried_effects : (p q : Project) (l m : LibraryEffects) (effects : List Effects) (functions : ℕ) → All (IsBareFunction functions) p.functions → p.functions ≡ q.functions → AreEffects l p effects → AreEffects m q effects
carried_effects p q l m effects functions bare same are = record {
  count = are.count ∙ ap (λ (fs : List Function). length fs) same;
  frees = λ f e at. (λ is. onward (frees_here l) (frees_here m) (frees_same m l functions) f ((are.frees f e at).0 is), λ reaches. (are.frees f e at).1 (backward (frees_here m) (frees_here l) (frees_same l m functions) f reaches));
  writes = λ f e at. (λ is. onward (writes_here l) (writes_here m) (writes_same m l functions) f ((are.writes f e at).0 is), λ reaches. (are.writes f e at).1 (backward (writes_here m) (writes_here l) (writes_same l m functions) f reaches));
}
  where
    there : All (IsBareFunction functions) q.functions
    there = subst (All (IsBareFunction functions)) same bare

    onward : (t u : Instr → Bool) → ((count : ℕ) (i : Instr) → IsBare functions count i → u i ≡ t i) → (f : ℕ) → Reaches p t f → Reaches q u f
    onward t u tests = carried p q t u same (λ f function at. does_same u t functions tests function (all_at (IsBareFunction functions) p.functions f function bare at))

    backward : (t u : Instr → Bool) → ((count : ℕ) (i : Instr) → IsBare functions count i → u i ≡ t i) → (f : ℕ) → Reaches q t f → Reaches p u f
    backward t u tests = carried q p t u (sym same) (λ f function at. does_same u t functions tests function (all_at (IsBareFunction functions) q.functions f function there at))

-- ---- what is built

-- a project that is built of bare functions, as many as are counted, and of no globals and texts, with the effects of the same functions
pub built : (count : ℕ) (before p : Project) (l : LibraryEffects) → All (IsBareFunction count) p.functions → length p.functions ≡ count → before.functions ≡ p.functions → p.globals ≡ [] → p.texts ≡ [] → AreEffects l before p.effects →
    IsBareProject p × IsWhole signatures p
built count before p l functions counted same globals texts effects = (bare, is_whole p bare)
  where
    bare : IsBareProject p
    bare = record {
      functions = subst (λ (n : ℕ). All (IsBareFunction n) p.functions) (sym counted) functions;
      globals = globals;
      texts = texts;
      effects = carried_effects before p l (library_effects signatures) p.effects count (subst (All (IsBareFunction count)) (sym same) functions) same effects;
    }

-- a function that is built of bare nodes, of which the last doesn't fall through
pub bare : (functions : ℕ) (f : Function) → f.graph.regs ≡ three_registers → f.graph.slots ≡ int_slot ∷ [] → f.graph.params ≡ 1 → f.result.text ≡ codes "i32" →
    (nodes : List Node) → f.graph.nodes ≡ nodes → All (λ (n : Node). IsBare functions (length nodes) n.instr) nodes → EndsLast nodes → (marks : List ℕ) → AreMarks marks nodes → IsBareFunction functions f
bare functions f regs slots params result nodes same instructions last marks marked = record {
  regs = regs;
  slots = slots;
  params = params;
  result = result;
  instructions = subst (λ (ns : List Node). All (λ (n : Node). IsBare functions (length ns) n.instr) ns) (sym same) instructions;
  last = subst EndsLast (sym same) last;
  marks = marks;
  marked = subst (AreMarks marks) (sym same) marked;
}
