-- No typed tree has two graphs: what two lowerings of one part agree in.
use Rattle.std.specs.Prelude.{ℕ, ◌≤◌, ◌<◌, ◌≡◌, List, slice_get}
use Rattle.po_base.specs.declared.operand.Opnd.{Opnd}
use Rattle.po_ir.specs.declared.graph.Node.{Node}
use Rattle.po_ir.specs.declared.graph.Graph.{Graph}
use Rattle.po_ir.specs.declared.project.Global.{Global}
use Rattle.po_tree.specs.declared.expression.Exp.{Exp}
use Rattle.po_lowering.specs.Places.{Place}
use Rattle.po_lowering.specs.Typed.{Typed}
use Rattle.po_lowering.specs.Temporaries.{State}
use Rattle.po_lowering.specs.Naming.{Scope}
use Rattle.po_lowering.specs.Forms.{Layer}
use Rattle.po_lowering.specs.Functions.{IsGraph}
use Rattle.po_lowering.specs.Expressions.{Operand, Unused, Condition}

-- two graphs have the same nodes from a to b
pub record Same (ns ms : List Node) (a b : ℕ) : Type 0 where
  pub same : (i : ℕ) → a ≤ i → i < b → slice_get ns i ≡ slice_get ms i

-- the nodes of two ranges that begin at one place: they end at one place, pass on the same, and are the same
pub record SameRange (ns ms : List Node) (a b : ℕ) (t : State) (c : ℕ) (u : State) : Type 0 where
  pub ends : b ≡ c
  pub states : t ≡ u
  pub nodes : Same ns ms a b

-- and one operand holds the value
pub record SameValue (ns ms : List Node) (a b : ℕ) (v : Opnd) (t : State) (c : ℕ) (w : Opnd) (u : State) : Type 0 where
  pub ends : b ≡ c
  pub value : v ≡ w
  pub states : t ≡ u
  pub nodes : Same ns ms a b

-- conditions that go to the same nodes have the same nodes
pub record SameCondition (ns ms : List Node) (a hit miss b : ℕ) (t : State) (hit' miss' c : ℕ) (u : State) : Type 0 where
  pub ends : b ≡ c
  pub states : t ≡ u
  pub nodes : hit ≡ hit' → miss ≡ miss' → Same ns ms a b

-- an expression has one value and one row of nodes
abbrev pub OneValue : Type 0
OneValue = (f : Typed) (c : Scope) (ns ms : List Node) (s t u : State) (a b d : ℕ) (x : Exp) (p : Place) (v w : Opnd) →
    Operand f c ns s a x p v b t → Operand f c ms s a x p w d u → SameValue ns ms a b v t d w u

-- where its value isn't used, it has one row of nodes
abbrev pub OneUnused : Type 0
OneUnused = (f : Typed) (c : Scope) (ns ms : List Node) (s t u : State) (a b d : ℕ) (x : Layer) (p : Place) →
    Unused f c ns s a x p b t → Unused f c ms s a x p d u → SameRange ns ms a b t d u

-- a condition with the same nodes to go to has one row of nodes
abbrev pub OneCondition : Type 0
OneCondition = (f : Typed) (c : Scope) (ns ms : List Node) (s t u : State) (a hit miss b d : ℕ) (x : Layer) (p : Place) →
    Condition f c ns s a x p hit miss b t → Condition f c ms s a x p hit miss d u → SameRange ns ms a b t d u

-- a typed definition has one graph, with one list of statics and one of literals
abbrev pub OneGraph : Type 0
OneGraph = (f : Typed) (g h : Graph) (statics others : List Global) (texts writings : List (List ℕ)) →
    IsGraph f g statics texts → IsGraph f h others writings → (g ≡ h) × (statics ≡ others) × (texts ≡ writings)
