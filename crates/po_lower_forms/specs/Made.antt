-- What is added to a graph that is being made for a part of an expression: its nodes in each finished graph, whatever nodes its labels stand for.
use Rattle.std.specs.Prelude.{ℕ, ◌≤◌, List, ◌++◌, length, drop, Bool}
use Rattle.po_base.specs.declared.operators.Op.{Op}
use Rattle.po_base.specs.declared.operand.Opnd.{Opnd}
use Rattle.po_base.specs.declared.spot.Spot.{Spot}
use Rattle.po_tree.specs.declared.expression.Exp.{Exp}
use Rattle.po_types.specs.declared.ctype.CType.{CType}
use Rattle.po_lowering.specs.Places.{Place}
use Rattle.po_lowering.specs.Typed.{Typed}
use Rattle.po_lowering.specs.Temporaries.{State}
use Rattle.po_lowering.specs.Naming.{Scope}
use Rattle.po_lowering.specs.Conversions.{Converts}
use Rattle.po_lowering.specs.Forms.{Layer}
use Rattle.po_lowering.specs.Expressions.{Value, Operand, Both, Arguments, Address, Steps, Unused, Condition, Reads, Moves}
use Rattle.po_draft.specs.Sketches.{Sketch}
use Rattle.po_draft.specs.Making.{Makes}

-- MakesValue f c d e x p v: between the drafts d and e the nodes of the form x at the place p were added, and v holds its value
abbrev pub MakesValue : Typed → Scope → Sketch → Sketch → Layer → Place → Opnd → Type 0
MakesValue f c d e x p v = Makes d e (λ final g. Value f c final d.state (length d.nodes) x p v (length e.nodes) e.state)

abbrev pub MakesOperand : Typed → Scope → Sketch → Sketch → Exp → Place → Opnd → Type 0
MakesOperand f c d e x p v = Makes d e (λ final g. Operand f c final d.state (length d.nodes) x p v (length e.nodes) e.state)

abbrev pub MakesBoth : Typed → Scope → Sketch → Sketch → Exp → Exp → Place → Opnd → Opnd → Type 0
MakesBoth f c d e x y p v w = Makes d e (λ final g. Both f c final d.state (length d.nodes) x y p v w (length e.nodes) e.state)

abbrev pub MakesArguments : Typed → Scope → Sketch → Sketch → List Exp → Place → List Opnd → Type 0
MakesArguments f c d e xs p vs = Makes d e (λ final g. Arguments f c final d.state (length d.nodes) xs p vs (length e.nodes) e.state)

abbrev pub MakesAddress : Typed → Scope → Sketch → Sketch → Layer → Place → Opnd → Type 0
MakesAddress f c d e x p v = Makes d e (λ final g. Address f c final d.state (length d.nodes) x p v (length e.nodes) e.state)

abbrev pub MakesSteps : Typed → Scope → Sketch → Sketch → Exp → Place → Place → Op → Bool → Opnd → Type 0
MakesSteps f c d e x p h operator old v = Makes d e (λ final g. Steps f c final d.state (length d.nodes) x p h operator old v (length e.nodes) e.state)

abbrev pub MakesUnused : Typed → Scope → Sketch → Sketch → Layer → Place → Type 0
MakesUnused f c d e x p = Makes d e (λ final g. Unused f c final d.state (length d.nodes) x p (length e.nodes) e.state)

-- the nodes of a condition, which go to what two labels stand for
abbrev pub MakesCondition : Typed → Scope → Sketch → Sketch → Layer → Place → ℕ → ℕ → Type 0
MakesCondition f c d e x p hit miss = Makes d e (λ final g. Condition f c final d.state (length d.nodes) x p (g hit) (g miss) (length e.nodes) e.state)

-- what converts a value, reads an object, moves an address to a member
abbrev pub AddsConversion : Typed → Sketch → Sketch → Spot → CType → CType → Opnd → Opnd → Type 0
AddsConversion f d e spot from to v w = Makes d e (λ final g. Converts f final d.state (length d.nodes) spot from to v w (length e.nodes) e.state)

abbrev pub AddsReading : Typed → Sketch → Sketch → Spot → CType → Opnd → Opnd → Type 0
AddsReading f d e spot t v w = Makes d e (λ final g. Reads f final d.state (length d.nodes) spot t v w (length e.nodes) e.state)

abbrev pub AddsMove : Sketch → Sketch → Spot → ℕ → Opnd → Opnd → Type 0
AddsMove d e spot offset v w = Makes d e (λ final g. Moves final d.state (length d.nodes) spot offset v w (length e.nodes) e.state)

-- The first n arguments of a call were added; those behind them, from the place q on, complete them.
pub record MakesFirst (f : Typed) (c : Scope) (d e : Sketch) (xs : List Exp) (p : Place) (n : ℕ) (q : Place) (vs : List Opnd) : Type 0 where
  pub within : n ≤ length xs
  pub makes : Makes d e (λ final g. (ws : List Opnd) (b : ℕ) (u : State) → Arguments f c final e.state (length e.nodes) (drop n xs) q ws b u → Arguments f c final d.state (length d.nodes) xs p (vs ++ ws) b u)
