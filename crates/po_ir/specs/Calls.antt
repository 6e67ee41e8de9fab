-- The nodes at which the functions of a project are called.
use Rattle.std.specs.Prelude.{ℕ, ◌==◌, List, [], ◌∷◌, Bool, false, cond, ◌≡◌, ◌↔◌, true, Some, Contains, slice_get}
use Rattle.po_base.specs.declared.numbers.FunNo.{FunNo}
use Rattle.po_base.specs.declared.numbers.NodeNo.{NodeNo}
use Rattle.po_ir.specs.declared.instr.Callee.TheVariants.{Fun}
use Rattle.po_ir.specs.declared.instr.Instr.{Instr}
use Rattle.po_ir.specs.declared.instr.Instr.TheVariants.{Call}
use Rattle.po_ir.specs.declared.graph.Node.{Node}
use Rattle.po_ir.specs.declared.project.Function.{Function}
use Rattle.po_ir.specs.declared.project.Project.{Project}
use Rattle.po_ir.specs.General.{each_from}

abbrev pub is_call_of : FunNo → Instr → Bool
is_call_of f (Call to (Fun g) args strings) = g.0 == f.0
is_call_of f _ = false

abbrev pub node_call : FunNo → ℕ → ℕ → Node → List (FunNo × NodeNo)
node_call f g n node = cond (is_call_of f node.instr) ((record { 0 = g }, record { 0 = n }) ∷ []) []

abbrev pub function_calls : FunNo → ℕ → Function → List (FunNo × NodeNo)
function_calls f g function = each_from (node_call f g) 0 function.graph.nodes

-- the nodes whose instruction is a call of the function f, by function and node
abbrev pub call_sites : Project → FunNo → List (FunNo × NodeNo)
call_sites p f = each_from (function_calls f) 0 p.functions

-- the node n of the function g is a call of the function f
abbrev pub CallsAt : Project → FunNo → FunNo → NodeNo → Type 0
CallsAt p f g n = (function : Function) × (node : Node) × (slice_get p.functions g.0 ≡ Some function) × (slice_get function.graph.nodes n.0 ≡ Some node) × (is_call_of f node.instr ≡ true)

abbrev pub SitesAreCalls : Type 0
SitesAreCalls = (p : Project) (f g : FunNo) (n : NodeNo) → Contains (call_sites p f) (g, n) ↔ CallsAt p f g n
