-- What follows an instruction, from the value that was found for its register.
use Rattle.std.specs.Prelude.{ℕ, ◌≡◌, List, Bool, true, false, cond, Option, Some, None, IfOk, Result, Ok, Err, MatchOption, slice_get}
use Rattle.std.proofs.Common.{refl, sym, subst}
use Rattle.po_base.specs.declared.numbers.NodeNo.{NodeNo}
use Rattle.po_base.specs.declared.memory.Memory.{Memory}
use Rattle.po_base.specs.declared.numbers.RegNo.{RegNo}
use Rattle.po_base.specs.declared.operand.Opnd.{Opnd}
use Rattle.po_ir.specs.declared.graph.Graph.{Graph}
use Rattle.po_ir.specs.declared.graph.Reg.{Reg as Register}
use Rattle.po_ir.specs.declared.instr.Ty.{Ty}
use Rattle.po_ir.specs.Types.{TypeIs}
use Rattle.po_memory.specs.declared.block.Block.{Block}
use Rattle.po_memory.specs.declared.frame.Frame.{Frame}
use Rattle.po_memory.specs.declared.value.Value.{Value}
use Rattle.po_memory.specs.Accesses.{Copies}
use Rattle.po_meaning.specs.Operands.{at_node, onward, pointer_value, put}
use Rattle.po_operate.specs.Finding.{Finds, Changes, Puts, Branches, Follows}

-- a value of a register that is there
pub typed_found : (g : Graph) (to : RegNo) (register : Register) (t : Ty) (P : Ty → Value → Type 0) (found : Option Value) → slice_get g.regs to.0 ≡ Some register → register.ty ≡ t → Finds found (P t) →
    Finds found (λ x. TypeIs g to (λ k. P k x))
typed_found g to register t P found there typed found_so =
    subst (λ (o : Option Register). Finds found (λ x. MatchOption o ⊥ (λ (r : Register). P r.ty x))) (sym there)
    (subst (λ (k : Ty). Finds found (P k)) (sym typed) found_so)

-- the register got a value, and the blocks are the same
abbrev pub Gets : RegNo → (Value → Type 0) → Frame → List Block → Frame → List Block → Type 0
Gets to P fr m u w = (v : Value) × P v × (u ≡ put to v fr) × (w ≡ m)

none_got : (to : RegNo) (P : Value → Type 0) (fr u : Frame) (m : List Block) (done : Bool) → ((v : Value) → P v → ⊥) → done ≡ false → Follows done (Gets to P fr m) u m
none_got to P fr u m done no_value not_done = subst (λ (b : Bool). Follows b (Gets to P fr m) u m) (sym not_done) (λ after blocks is. no_value is.0 is.1)

one_got : (to : RegNo) (P : Value → Type 0) (fr u : Frame) (m : List Block) (done : Bool) (v : Value) → P v → done ≡ true → u ≡ put to v fr → Follows done (Gets to P fr m) u m
one_got to P fr u m done v so is_done top = subst (λ (b : Bool). Follows b (Gets to P fr m) u m) (sym is_done) (v, so, top, refl)

got : (to : RegNo) (found : Option Value) (P : Value → Type 0) (fr u : Frame) (m : List Block) (done : Bool) → Finds found P → Puts to found fr u done → Follows done (Gets to P fr m) u m
got to None P fr u m done finds puts = none_got to P fr u m done finds puts
got to (Some v) P fr u m done finds puts = one_got to P fr u m done v finds puts.0 puts.1

pub put_follows : (r : Result Bool Memory) (to : RegNo) (found : Option Value) (P : Value → Type 0) (fr u : Frame) (m : List Block) → Finds found P → IfOk r (Puts to found fr u) → IfOk r (λ done. Follows done (Gets to P fr m) u m)
put_follows (Ok done) to found P fr u m finds puts = got to found P fr u m done finds puts
put_follows (Err e) to found P fr u m finds puts = tt

-- another relation that says the same
follows_as : (P Q : Frame → List Block → Type 0) (u : Frame) (m : List Block) (done : Bool) → ((v : Frame) (w : List Block) → P v w → Q v w) → ((v : Frame) (w : List Block) → Q v w → P v w) → Follows done P u m → Follows done Q u m
follows_as P Q u m true to back is = to u m is
follows_as P Q u m false to back is = λ v w so. is v w (back v w so)

pub follow_as : (r : Result Bool Memory) (P Q : Frame → List Block → Type 0) (u : Frame) (m : List Block) → ((v : Frame) (w : List Block) → P v w → Q v w) → ((v : Frame) (w : List Block) → Q v w → P v w) → IfOk r (λ done. Follows done P u m) → IfOk r (λ done. Follows done Q u m)
follow_as (Ok done) P Q u m to back is = follows_as P Q u m done to back is
follow_as (Err e) P Q u m to back is = tt

-- the value of a register, where it has one
pub finds_some : (found : Option Value) → Finds found (λ v. found ≡ Some v)
finds_some None = λ x is. absurd (cc)
finds_some (Some v) = refl

-- the node that the test decides on
abbrev pub Goes : (Bool → Type 0) → NodeNo → NodeNo → Frame → List Block → Frame → List Block → Type 0
Goes P yes_side no_side fr m u w = (holds : Bool) × P holds × (u ≡ at_node (cond holds yes_side no_side) fr) × (w ≡ m)

pub branch_follows : (found : Option Bool) (P : Bool → Type 0) (yes_side no_side : NodeNo) (fr u : Frame) (m : List Block) (done : Bool) → Finds found P → Branches found yes_side no_side fr u done → Follows done (Goes P yes_side no_side fr m) u m
branch_follows None P yes_side no_side fr u m done finds branches = subst (λ (b : Bool). Follows b (Goes P yes_side no_side fr m) u m) (sym branches) (λ after blocks is. finds is.0 is.1)
branch_follows (Some holds) P yes_side no_side fr u m done finds branches = subst (λ (b : Bool). Follows b (Goes P yes_side no_side fr m) u m) (sym branches.0) (holds, finds, branches.1, refl)

-- bytes that were copied
same_value : (o : Option Value) (v w : Value) → o ≡ Some v → o ≡ Some w → v ≡ w
same_value o v w one other = cc

abbrev pub CopiesBetween : Opnd → Opnd → ℕ → Frame → List Block → Frame → List Block → Type 0
CopiesBetween to from size fr m u w = (v : Value) × (x : Value) × (pointer_value fr to ≡ Some v) × (pointer_value fr from ≡ Some x) × Copies size m v x w × (u ≡ onward fr)

pub copy_follows : (to from : Opnd) (size : ℕ) (fr u : Frame) (m w : List Block) (v x : Value) (done : Bool) → pointer_value fr to ≡ Some v → pointer_value fr from ≡ Some x → Changes done (Copies size m v x) w → u ≡ onward fr →
    Follows done (CopiesBetween to from size fr m) u w
copy_follows to from size fr u m w v x true one other copies top = (v, x, one, other, copies, top)
copy_follows to from size fr u m w v x false one other copies top = λ after blocks is.
    copies blocks (subst (λ (y : Value). Copies size m y x blocks) (same_value (pointer_value fr to) is.0 v is.2 one) (subst (λ (y : Value). Copies size m is.0 y blocks) (same_value (pointer_value fr from) is.1 x is.3 other) is.4))
