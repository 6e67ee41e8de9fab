-- The register variables that an instruction reads.
use Rattle.std.specs.Prelude.{ℕ, ◌==◌, List, [], ◌∷◌, Bool, true, false, not, ◌&&◌, cond, Option, Some, None, map, slice_get}
use Rattle.std.specs.List.{filter, flat_map}
use Rattle.po_base.specs.declared.numbers.RegNo.{RegNo}
use Rattle.po_base.specs.declared.operand.Opnd.{Opnd}
use Rattle.po_base.specs.declared.operand.Opnd.TheVariants as operand
use Rattle.po_ir.specs.declared.graph.Reg.{Reg as Register}
use Rattle.po_ir.specs.declared.graph.Graph.{Graph}
use Rattle.po_ir.specs.declared.instr.Instr.{Instr}
use Rattle.po_ir.specs.Instructions.{operands}
use Rattle.po_pred.specs.declared.pred.Pred.{Pred}
use Rattle.po_pred.specs.declared.pred.Pred.TheVariants.{RegSet}

abbrev pub has_name : Option (List ℕ) → Bool
has_name None = false
has_name (Some name) = true

-- a register with a name that isn't a parameter; a parameter has a value from the start, a temporary has none without a write
abbrev pub is_variable : Option Register → Bool
is_variable None = false
is_variable (Some register) = not register.param && has_name register.name

abbrev pub variable_in : Graph → Opnd → List RegNo
variable_in g (operand.Reg r) = cond (is_variable (slice_get g.regs r.0)) (r ∷ []) []
variable_in g (operand.Num n) = []

abbrev pub is_other : RegNo → RegNo → Bool
is_other r s = not (s.0 == r.0)

-- each register once, where it stands first
abbrev pub firsts : List RegNo → List RegNo
firsts [] = []
firsts (r ∷ rest) = r ∷ filter (is_other r) (firsts rest)

-- the register variables among the operands, in their order, each once
abbrev pub variables_read : Graph → List Opnd → List RegNo
variables_read g list = firsts (flat_map (variable_in g) list)

-- each has to have a value (6.3.2.1p2)
abbrev pub reads : Graph → Instr → List Pred
reads g i = map RegSet (variables_read g (operands i))
