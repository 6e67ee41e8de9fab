-- What a frame needs on its way on: registers that are read before they are written, slots that are used before they are entered.
use Rattle.std.specs.Prelude.{ℕ, zero, suc, ◌≡◌, Some, Contains}
use Rattle.po_base.specs.declared.numbers.RegNo.{RegNo}
use Rattle.po_base.specs.declared.numbers.SlotNo.{SlotNo}
use Rattle.po_base.specs.declared.operand.Opnd.TheVariants as operand
use Rattle.po_ir.specs.declared.graph.Graph.{Graph}
use Rattle.po_ir.specs.declared.instr.Instr.{Instr}
use Rattle.po_ir.specs.Instructions.{written, operands, entered, used, followers}
use Rattle.po_ir.specs.Paths.{NodeAt}

-- from the node n a way of k edges leads to an instruction that uses something which no instruction before it makes
abbrev pub Needs : (Instr → Type 0) → (Instr → Type 0) → Graph → ℕ → ℕ → Type 0
Needs Uses Makes g zero n = (i : Instr) × NodeAt g n i × Uses i
Needs Uses Makes g (suc k) n = (i : Instr) × (m : ℕ) × NodeAt g n i × (Makes i → ⊥) × Contains (followers n i) m × Needs Uses Makes g k m

-- some way from the node reads the register before it writes it
abbrev pub NeedsRegister : Graph → RegNo → ℕ → Type 0
NeedsRegister g r n = (k : ℕ) × Needs (λ i. Contains (operands i) (operand.Reg r)) (λ i. written i ≡ Some r) g k n

-- some way from the node addresses, fills or leaves the slot before it enters it
abbrev pub NeedsSlot : Graph → SlotNo → ℕ → Type 0
NeedsSlot g s n = (k : ℕ) × Needs (λ i. used i ≡ Some s) (λ i. entered i ≡ Some s) g k n
