use Rattle.std.proofs.Common.{◌≡◌, ◌<◌, ℕ, length, get_or, []}
use Rattle.po_flow.proofs.graph.graph_of.Given as goal

abbrev pub invariant-loop-n : goal.invariant-loop-n
invariant-loop-n g l =
    (length l.graph ≡ l.n) × ((k : ℕ) → k < l.n → get_or l.graph k [] ≡ (g.F.Flow.meaning l.flow).nexts (record { 0 = k }))
