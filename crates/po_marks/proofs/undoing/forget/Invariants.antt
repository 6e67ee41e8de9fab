use Rattle.std.proofs.Common.{◌≡◌, ℕ, ◌+◌, ◌≤◌, length}
use Rattle.po_marks.specs.Waiting.{AddsInTurn, Marking}
use Rattle.po_marks.proofs.undoing.forget.Given as goal

abbrev pub invariant-loop-left : goal.invariant-loop-left
invariant-loop-left g l = (m : Marking _ _) (n : ℕ) → AddsInTurn (g.R.Rulebook.meaning l.book) n m l.initial.marks → length m.items ≡ l.count → (k : ℕ) × AddsInTurn (g.R.Rulebook.meaning l.book) k m l.marks × (k + l._left ≡ n + l.count)
