-- The integer types that stand in a project are types of its target.
use Rattle.std.specs.Prelude.{List, [], ◌∷◌, All}
use Rattle.po_arith.specs.Types.{IsIntType}
use Rattle.po_ir.specs.declared.instr.Ty.{Ty}
use Rattle.po_ir.specs.declared.instr.Ty.TheVariants.{Int, Ptr}
use Rattle.po_ir.specs.declared.instr.Instr.{Instr}
use Rattle.po_ir.specs.declared.instr.Instr.TheVariants.{Bin, Un, Conv, Load, Store, If}
use Rattle.po_ir.specs.declared.graph.Node.{Node}
use Rattle.po_ir.specs.declared.graph.Reg.{Reg as Register}
use Rattle.po_ir.specs.declared.graph.Graph.{Graph}
use Rattle.po_ir.specs.declared.project.Function.{Function}
use Rattle.po_ir.specs.declared.project.Project.{Project}

-- a pointer, or an integer type of the target (6.2.5)
abbrev pub IsTypeOfTarget : Ty → Type 0
IsTypeOfTarget (Int t) = IsIntType t
IsTypeOfTarget Ptr = Unit {0}

-- the types at which an instruction computes, converts or accesses
abbrev pub types_in : Instr → List Ty
types_in (Bin to op ty a b) = ty ∷ []
types_in (Un to op ty a) = Int ty ∷ []
types_in (Conv to from ty align) = ty ∷ []
types_in (Load to at access) = access.ty ∷ []
types_in (Store at value access) = access.ty ∷ []
types_in (If op ty a b true_side false_side) = ty ∷ []
types_in _ = []

-- those of a graph's registers and of its instructions
pub record HasTypesOfTarget (g : Graph) : Type 0 where
  pub registers : All (λ (r : Register). IsTypeOfTarget r.ty) g.regs
  pub instructions : All (λ (n : Node). All IsTypeOfTarget (types_in n.instr)) g.nodes

abbrev pub AreTypesOfTarget : Project → Type 0
AreTypesOfTarget p = All (λ (f : Function). HasTypesOfTarget f.graph) p.functions
