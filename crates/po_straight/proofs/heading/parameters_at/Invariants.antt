use Rattle.std.proofs.Common.{◌-◌, ◌≤◌, length, drop}
use Rattle.po_straight.specs.declared.lexeme.Sign.TheVariants as s
use Rattle.po_straight.specs.Distinct.{AllDiffer}
use Rattle.po_straight.specs.Outline.{Leads, with_commas, Begins}
use Rattle.po_straight.proofs.heading.parameters_at.Given as goal

abbrev pub invariant-loop-parameters : goal.invariant-loop-parameters
invariant-loop-parameters l =
    Leads (with_commas l.parameters) (drop l.start l.lexemes) (drop l.at l.lexemes) × AllDiffer l.parameters × (length l.parameters ≤ l.at) ×
    (l.at ≤ length l.lexemes) × (Begins s.Void (drop l.start l.lexemes) → ⊥)

abbrev pub decreases-loop-parameters : goal.decreases-loop-parameters
decreases-loop-parameters l = length l.lexemes - l.at
