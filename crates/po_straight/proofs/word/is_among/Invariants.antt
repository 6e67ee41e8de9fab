use Rattle.std.proofs.Common.{◌≡◌, ℕ, ◌<◌, [], get_or, map}
use Rattle.po_straight.proofs.word.is_among.Given as goal

abbrev pub invariant-loop-other : goal.invariant-loop-other
invariant-loop-other l = (k : ℕ) → k < l.other-index → get_or (map (λ w. w.now) l.words) k [] ≡ l.word → ⊥
