-- The nodes that go to a label are also kept by their labels.
use Rattle.std.specs.Prelude.{ℕ, ◌+◌, ◌≤◌, ◌<◌, ◌≡◌, ◌⊎◌, List, [], length, Some, slice_get, get_or, Contains}
use Rattle.po_ir.specs.declared.instr.Instr.{Instr}
use Rattle.po_ir.specs.declared.instr.Instr.TheVariants as ins
use Rattle.po_ir.specs.declared.graph.Node.{Node}
use Rattle.po_draft.specs.Sketches.{first_label, at_label, resolved}

-- the instruction goes to this node or label
abbrev pub GoesTo : Instr → ℕ → Type 0
GoesTo (ins.If op ty a b hit miss) y = (hit.0 ≡ y) ⊎ (miss.0 ≡ y)
GoesTo (ins.Jump next) y = next.0 ≡ y
GoesTo instr y = ⊥

-- the nodes that are kept for the k-th label
abbrev pub kept_for : List (List ℕ) → ℕ → List ℕ
kept_for waiting k = get_or waiting k []

-- the numbers of nodes rise, and none is greater than this one
pub record IsRising (size : ℕ) (numbers : List ℕ) : Type 0 where
  pub within : (i : ℕ) → Contains numbers i → i ≤ size
  pub rises : (j k a b : ℕ) → j ≤ k → slice_get numbers j ≡ Some a → slice_get numbers k ≡ Some b → a ≤ b

-- whatever the node at i goes to, it is kept for it
abbrev pub IsWaiting : ℕ → Instr → List (List ℕ) → Type 0
IsWaiting i instr waiting = (k y : ℕ) → y ≡ k + first_label → GoesTo instr y → Contains (kept_for waiting k) i

-- each node that goes to a label is kept for the label
pub record AreWaiting (nodes : List Node) (waiting : List (List ℕ)) : Type 0 where
  pub each : (i : ℕ) (m : Node) → slice_get nodes i ≡ Some m → IsWaiting i m.instr waiting
  pub rising : (k : ℕ) → IsRising (length nodes) (kept_for waiting k)

-- what was kept is kept, and nothing but i is new
pub record KeepsWaiting (i : ℕ) (old new : List (List ℕ)) : Type 0 where
  pub more : (k j : ℕ) → Contains (kept_for old k) j → Contains (kept_for new k) j
  pub rising : (k : ℕ) → IsRising i (kept_for old k) → IsRising i (kept_for new k)

-- The nodes that wait for a label get its node, the last ones first; those that are left still wait.
pub record IsBeingFilled (from label place : ℕ) (old new : List Node) (left : List ℕ) : Type 0 where
  pub same_length : length new ≡ length old
  pub before : (i : ℕ) → i < from → slice_get new i ≡ slice_get old i
  pub each : (i : ℕ) (m : Node) → slice_get old i ≡ Some m → (slice_get new i ≡ Some m) ⊎ (slice_get new i ≡ Some (resolved (at_label label place) m))
  pub waits : (i : ℕ) (m : Node) → slice_get new i ≡ Some m → GoesTo m.instr label → Contains left i
  pub rising : IsRising (length new) left

-- no number from here on
abbrev pub AreBelow : ℕ → List ℕ → Type 0
AreBelow from numbers = (i : ℕ) → Contains numbers i → i < from

-- all nodes that wait for the label and stand from a place on have got its node
pub record AreFilled (from label place : ℕ) (old new : List Node) (left : List ℕ) : Type 0 where
  pub being : IsBeingFilled from label place old new left
  pub none_left : AreBelow from left
