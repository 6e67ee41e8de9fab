use Rattle.std.proofs.Common.{◌≡◌, ℕ, ◌<◌, [], get_or, map}
use Rattle.po_exp_parts.proofs.words.is_among.Given as goal

abbrev pub invariant-loop-word : goal.invariant-loop-word
invariant-loop-word l = (k : ℕ) → k < l.word-index → get_or (map (λ w. w.now) l.words) k [] ≡ l.text → ⊥
