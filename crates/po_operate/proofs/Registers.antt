-- The instructions whose register gets the value that was found.
use Rattle.std.specs.Prelude.{List, ℤ, pos, ◌*ℤ◌, Bool, Option, IfOk, Result}
use Rattle.std.proofs.Common.{refl, ap, ◌∙◌}
use Rattle.po_base.specs.declared.memory.Memory.{Memory}
use Rattle.po_base.specs.declared.numbers.RegNo.{RegNo}
use Rattle.po_base.specs.declared.numbers.SlotNo.{SlotNo}
use Rattle.po_base.specs.declared.operand.Opnd.{Opnd}
use Rattle.po_base.specs.declared.operators.UnOp.{UnOp}
use Rattle.po_arith.specs.declared.int_type.IntType.{IntType}
use Rattle.po_ir.specs.declared.graph.Graph.{Graph}
use Rattle.po_ir.specs.declared.instr.Access.{Access}
use Rattle.po_ir.specs.declared.instr.Instr.TheVariants.{Const, Un, AddrSlot, PtrAdd, Load}
use Rattle.po_ir.specs.declared.project.Project.{Project}
use Rattle.po_memory.specs.declared.block.Block.{Block}
use Rattle.po_memory.specs.declared.frame.Frame.{Frame}
use Rattle.po_memory.specs.declared.value.Value.{Value}
use Rattle.po_memory.specs.declared.value.Value.TheVariants.{Number, Pointer}
use Rattle.po_memory.specs.Values.{moved}
use Rattle.po_meaning.specs.Local.{Local}
use Rattle.po_meaning.specs.Operands.{as_value, put}
use Rattle.po_operate.specs.Finding.{Finds, Puts, Follows}
use Rattle.po_operate.specs.Values.{IsConstant, Negates, IsSlotStart, IsMoved, IsLoaded}
use Rattle.po_operate.proofs.Following.{Gets, put_follows, follow_as}

module _ (p : Project) (g : Graph) (to : RegNo) (fr u : Frame) (m : List Block) (r : Result Bool Memory) (found : Option Value) (puts : IfOk r (Puts to found fr u)) where
  pub constant_follows : (n : ℤ) → Finds found (IsConstant g to n) → IfOk r (λ done. Follows done (Local p g (Const to n) fr m) u m)
  constant_follows n finds =
      follow_as r (Gets to (IsConstant g to n) fr m) (Local p g (Const to n) fr m) u m
      (λ v w is. (is.1.0, is.1.1, is.2 ∙ ap (λ (x : Value). put to x fr) is.1.2, is.3))
      (λ v w is. (as_value is.0 n, (is.0, is.1, refl), is.2, is.3))
      (put_follows r to found (IsConstant g to n) fr u m finds puts)

  pub negation_follows : (o : UnOp) (t : IntType) (a : Opnd) → Finds found (Negates o t fr a) → IfOk r (λ done. Follows done (Local p g (Un to o t a) fr m) u m)
  negation_follows o t a finds =
      follow_as r (Gets to (Negates o t fr a) fr m) (Local p g (Un to o t a) fr m) u m
      (λ v w is. (is.1.0, is.1.1, is.1.2, is.1.3, is.2 ∙ ap (λ (x : Value). put to x fr) is.1.4, is.3))
      (λ v w is. (Number is.1, (is.0, is.1, is.2, is.3, refl), is.4, is.5))
      (put_follows r to found (Negates o t fr a) fr u m finds puts)

  pub slot_start_follows : (slot : SlotNo) → Finds found (IsSlotStart fr slot) → IfOk r (λ done. Follows done (Local p g (AddrSlot to slot) fr m) u m)
  slot_start_follows slot finds =
      follow_as r (Gets to (IsSlotStart fr slot) fr m) (Local p g (AddrSlot to slot) fr m) u m
      (λ v w is. (is.1.0, is.1.1, is.2 ∙ ap (λ (x : Value). put to x fr) is.1.2, is.3))
      (λ v w is. (Pointer is.0 (pos 0), (is.0, is.1, refl), is.2, is.3))
      (put_follows r to found (IsSlotStart fr slot) fr u m finds puts)

  pub move_follows : (base index : Opnd) (factor : ℤ) → Finds found (IsMoved factor fr base index) → IfOk r (λ done. Follows done (Local p g (PtrAdd to base index factor) fr m) u m)
  move_follows base index factor finds =
      follow_as r (Gets to (IsMoved factor fr base index) fr m) (Local p g (PtrAdd to base index factor) fr m) u m
      (λ v w is. (is.1.0, is.1.1, is.1.2, is.1.3, is.2 ∙ ap (λ (x : Value). put to x fr) is.1.4, is.3))
      (λ v w is. (moved is.0 (factor *ℤ is.1), (is.0, is.1, is.2, is.3, refl), is.4, is.5))
      (put_follows r to found (IsMoved factor fr base index) fr u m finds puts)

  pub load_follows : (at : Opnd) (access : Access) → Finds found (IsLoaded access m fr at) → IfOk r (λ done. Follows done (Local p g (Load to at access) fr m) u m)
  load_follows at access finds =
      follow_as r (Gets to (IsLoaded access m fr at) fr m) (Local p g (Load to at access) fr m) u m
      (λ v w is. (is.1.0, is.0, is.1.1, is.1.2, is.2, is.3))
      (λ v w is. (is.1, (is.0, is.2, is.3), is.4, is.5))
      (put_follows r to found (IsLoaded access m fr at) fr u m finds puts)
