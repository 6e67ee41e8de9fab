-- What was added to a graph that is being made, as it stands in each finished graph.
use Rattle.std.specs.Prelude.{ℕ, ◌≤◌, ◌<◌, ◌≡◌, List, length, Some, slice_get}
use Rattle.po_ir.specs.declared.graph.Node.{Node}
use Rattle.po_draft.specs.Sketches.{Sketch, first_label, resolved}

-- places stay, and labels stand for some nodes
abbrev pub IsPlacing : (ℕ → ℕ) → Type 0
IsPlacing g = (y : ℕ) → y < first_label → g y ≡ y

-- from a to b the finished graph has these nodes, with places for labels
abbrev pub Finishes : (ℕ → ℕ) → List Node → List Node → ℕ → ℕ → Type 0
Finishes g ns final a b = (i : ℕ) (m : Node) → a ≤ i → i < b → slice_get ns i ≡ Some m → slice_get final i ≡ Some (resolved g m)

-- Makes d e R: the graph d has become e, and R holds of what was added in each finished graph, whatever nodes its labels stand for
pub record Makes (d e : Sketch) (R : List Node → (ℕ → ℕ) → Type 0) : Type 0 where
  pub within : length d.nodes ≤ length e.nodes
  pub kept : (i : ℕ) → i < length d.nodes → slice_get e.nodes i ≡ slice_get d.nodes i
  pub holds : (g : ℕ → ℕ) (final : List Node) → IsPlacing g → Finishes g e.nodes final (length d.nodes) (length e.nodes) → R final g
