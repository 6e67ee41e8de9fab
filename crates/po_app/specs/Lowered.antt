-- What lowering has appended so far.
use Rattle.std.specs.Prelude.{ℕ, ◌+◌, ◌^◌, ◌<◌, ◌≡◌, ◌++◌, List, length, All, sum_by}
use Rattle.po_base.specs.declared.operand.Opnd.{Opnd}
use Rattle.po_ir.specs.declared.graph.Node.{Node}
use Rattle.po_ir.specs.declared.graph.Graph.{Graph}
use Rattle.po_straight.specs.declared.expression.Expression.{Expression}
use Rattle.po_straight.specs.declared.definition.Definition.{Definition}
use Rattle.po_straight.specs.Definitions.{operations}
use Rattle.po_app.specs.Lowering.{Lowers, LowersAll}
use Rattle.po_app.specs.Ranges.{IsSmallInstr, IsSmallOperand}

abbrev pub AreSmallNodes : List Node → Type 0
AreSmallNodes nodes = All (λ n. IsSmallInstr n.instr) nodes

-- the nodes of an expression are appended, one for each operator and call
pub record Appends (file : List ℕ) (params : ℕ) (x : Expression) (old new : List Node) (v : Opnd) : Type 0 where
  pub more : List Node
  pub appended : new ≡ old ++ more
  pub lowered : Lowers file params x (length old) more v
  pub counted : length more ≡ operations x
  pub small : AreSmallNodes more
  pub small_value : IsSmallOperand v

-- the same of expressions one after the other, each with its value
pub record AppendsAll (file : List ℕ) (params : ℕ) (xs : List Expression) (old new : List Node) (vs : List Opnd) : Type 0 where
  pub more : List Node
  pub appended : new ≡ old ++ more
  pub lowered : LowersAll file params xs (length old) more vs
  pub counted : length more ≡ sum_by operations xs
  pub small : AreSmallNodes more
  pub small_values : All IsSmallOperand vs

-- registers and nodes are counted in 32 bits
abbrev pub IsCounted : Definition → Type 0
IsCounted d = length d.parameters + operations d.value + 1 < 2 ^ 32

abbrev pub IsSmallGraph : Graph → Type 0
IsSmallGraph g = (length g.nodes < 2 ^ 32) × AreSmallNodes g.nodes
