-- A graph that is being made: what stands so far, and what is passed on.
use Rattle.std.specs.Prelude.{ℕ, ◌≤◌, ◌<◌, ◌≡◌, List, [], ◌∷◌, ◌++◌, length, Some, None, slice_get, nat_eq, cond}
use Rattle.po_base.specs.declared.spot.Spot.{Spot}
use Rattle.po_ir.specs.declared.instr.Instr.{Instr}
use Rattle.po_ir.specs.declared.instr.Instr.TheVariants as ins
use Rattle.po_ir.specs.declared.graph.Node.{Node}
use Rattle.po_ir.specs.declared.graph.Reg.{Reg as Register}
use Rattle.po_lowering.specs.Temporaries.{State, node, to}

pub record Sketch : Type 0 where
  pub nodes : List Node
  pub state : State

-- nothing but these registers
abbrev pub begun : List Register → Sketch
begun regs = record { nodes = []; state = record { regs = regs; taken = []; texts = []; declared = 0; labels = []; cases = []; default_case = None } }

-- one node more
abbrev pub with_node : Instr → Spot → Sketch → Sketch
with_node instr spot d = record d { nodes = d.nodes ++ node instr spot ∷ [] }

-- Numbers of nodes from here on are labels: they stand for nodes that aren't known yet.
abbrev pub first_label : ℕ
first_label = 2147483648

-- each node that an instruction goes to, by a function
abbrev pub resolve : (ℕ → ℕ) → Instr → Instr
resolve g (ins.If op ty a b hit miss) = ins.If op ty a b (to (g hit.0)) (to (g miss.0))
resolve g (ins.Jump next) = ins.Jump (to (g next.0))
resolve g instr = instr

abbrev pub resolved : (ℕ → ℕ) → Node → Node
resolved g n = node (resolve g n.instr) n.spot

-- one label stands for a node
abbrev pub with_place : (ℕ → ℕ) → ℕ → ℕ → ℕ → ℕ
with_place g label place y = cond (nat_eq y label) place (g y)

abbrev pub at_label : ℕ → ℕ → ℕ → ℕ
at_label = with_place (λ y. y)

-- a label stands for a node from now on, wherever a node from a place on goes to it
pub record IsFilled (from label place : ℕ) (old new : List Node) : Type 0 where
  pub same_length : length new ≡ length old
  pub before : (i : ℕ) → i < from → slice_get new i ≡ slice_get old i
  pub filled : (i : ℕ) (m : Node) → from ≤ i → slice_get old i ≡ Some m → slice_get new i ≡ Some (resolved (at_label label place) m)
