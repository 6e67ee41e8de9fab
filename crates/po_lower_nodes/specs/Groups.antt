-- Groups of nodes that stand at a place of a finished list of nodes.
use Rattle.std.specs.Prelude.{ℕ, ◌+◌, ◌≡◌, List, length, flat_map, Option, Bool}
use Rattle.po_base.specs.declared.numbers.RegNo.{RegNo}
use Rattle.po_base.specs.declared.operand.Opnd.{Opnd}
use Rattle.po_base.specs.declared.operand.Opnd.TheVariants as o
use Rattle.po_base.specs.declared.spot.Spot.{Spot}
use Rattle.po_ir.specs.declared.instr.Ty.{Ty}
use Rattle.po_ir.specs.declared.instr.Instr.{Instr}
use Rattle.po_ir.specs.declared.graph.Node.{Node}
use Rattle.po_lowering.specs.declared.var.Var.{Var}
use Rattle.po_lowering.specs.Temporaries.{State, At, Row, Takes, Holds, Saves, register}
use Rattle.po_lowering.specs.Expressions.{one_or_zero}
use Rattle.po_lowering.specs.Blocks.{enter_node}
use Rattle.po_draft.specs.Sketches.{Sketch}
use Rattle.po_draft.specs.Making.{Makes}

-- one node, which takes no temporary
pub record Stands (ns : List Node) (s : State) (a : ℕ) (instr : Instr) (spot : Spot) (b : ℕ) (t : State) : Type 0 where
  pub here : At ns a instr spot
  pub ends : b ≡ a + 1
  pub same : t ≡ s

-- nodes in a row, which take no temporary
pub record StandInRow (ns : List Node) (s : State) (a : ℕ) (xs : List Node) (b : ℕ) (t : State) : Type 0 where
  pub row : Row ns a xs b
  pub same : t ≡ s

-- one node, whose value a temporary of the type gets
pub record Computes (ns : List Node) (s : State) (a : ℕ) (ty : Ty) (instr : ℕ → Instr) (spot : Spot) (v : Opnd) (b : ℕ) (t : State) : Type 0 where
  pub number : ℕ
  pub takes : Takes ty s number t
  pub here : At ns a (instr number) spot
  pub is_value : v ≡ register number
  pub ends : b ≡ a + 1

-- the nodes of 1 and 0 behind a condition, for a temporary of the type
pub record Chooses (ns : List Node) (s : State) (a : ℕ) (ty : Ty) (spot : Spot) (v : Opnd) (b : ℕ) (t : State) : Type 0 where
  pub number : ℕ
  pub takes : Takes ty s number t
  pub row : Row ns a (one_or_zero a number spot) b
  pub is_value : v ≡ register number
  pub ends : b ≡ a + 3

-- what is added between two drafts, in each finished graph; where the nodes go to labels they depend on what these stand for
abbrev pub AddsNode : Sketch → Sketch → ((ℕ → ℕ) → Instr) → Spot → Type 0
AddsNode d e instr spot = Makes d e (λ final g. Stands final d.state (length d.nodes) (instr g) spot (length e.nodes) e.state)

abbrev pub AddsRow : Sketch → Sketch → ((ℕ → ℕ) → List Node) → Type 0
AddsRow d e xs = Makes d e (λ final g. StandInRow final d.state (length d.nodes) (xs g) (length e.nodes) e.state)

abbrev pub AddsValue : Sketch → Sketch → Ty → (ℕ → Instr) → Spot → Opnd → Type 0
AddsValue d e ty instr spot v = Makes d e (λ final g. Computes final d.state (length d.nodes) ty instr spot v (length e.nodes) e.state)

abbrev pub AddsChoice : Sketch → Sketch → Ty → Spot → Opnd → Type 0
AddsChoice d e ty spot v = Makes d e (λ final g. Chooses final d.state (length d.nodes) ty spot v (length e.nodes) e.state)

abbrev pub AddsHolding : Sketch → Sketch → Spot → Opnd → Bool → Opnd → Type 0
AddsHolding d e spot v changed w = Makes d e (λ final g. Holds final d.state (length d.nodes) spot v changed w (length e.nodes) e.state)

abbrev pub AddsSaving : Sketch → Sketch → Spot → Ty → Bool → RegNo → Option Opnd → Type 0
AddsSaving d e spot ty used q v = Makes d e (λ final g. Saves final d.state (length d.nodes) spot ty used q v (length e.nodes) e.state)

abbrev pub IsRegister : Opnd → Type 0
IsRegister (o.Num n) = ⊥
IsRegister (o.Reg r) = Unit {0}

-- one Enter for each variable that is kept in a register or a slot
abbrev pub enter_nodes : List (Option Var × Spot) → List Node
enter_nodes xs = flat_map (λ (x : Option Var × Spot). enter_node x.0 x.1) xs
