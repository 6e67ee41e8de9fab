use Rattle.std.proofs.Common.{ℕ, ◌<◌, [], get_or, map}
use Rattle.po_specified.specs.Words.{Allows}
use Rattle.po_specified.proofs.words.only_among.Given as goal

abbrev pub invariant-loop-word : goal.invariant-loop-word
invariant-loop-word l = (k : ℕ) → k < l.word-index → Allows (map (λ w. w.now) l.allowed) l.specs (get_or (map (λ w. w.now) l.words) k [])
