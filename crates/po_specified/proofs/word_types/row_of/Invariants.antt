use Rattle.std.proofs.Common.{◌≡◌, ℕ, ◌<◌, [], get_or, map}
use Rattle.po_specified.proofs.word_types.row_of.Given as goal

abbrev pub invariant-loop-row : goal.invariant-loop-row
invariant-loop-row l = (k : ℕ) → k < l.row-index → get_or (map (λ r. r.0) l.rows) k [] ≡ l.counts → ⊥
