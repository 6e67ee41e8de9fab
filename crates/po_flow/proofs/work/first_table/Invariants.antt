use Rattle.std.proofs.Common.{◌≡◌, ℕ, ◌<◌, length, get_or}
use Rattle.po_flow.proofs.work.first_table.Given as goal

abbrev pub invariant-loop : goal.invariant-loop
invariant-loop g l = record {
  long : length l.states ≡ l.counter;
  some : 0 < l.counter;
  start : get_or l.states 0 (g.F.Flow.meaning l.flow).least ≡ (g.F.Flow.meaning l.flow).first;
  others : (n : ℕ) → 0 < n → get_or l.states n (g.F.Flow.meaning l.flow).least ≡ (g.F.Flow.meaning l.flow).least;
}
