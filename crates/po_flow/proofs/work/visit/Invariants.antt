use Rattle.std.proofs.Common.{◌≤◌, ◌+◌, ℕ, ◌<◌, get_or}
use Rattle.po_flow.specs.Counting.{counted_on}
use Rattle.po_flow.specs.Working.{HoldsOrWaits, Rises}
use Rattle.po_flow.proofs.work.visit.Given as goal

abbrev pub invariant-loop-m : goal.invariant-loop-m
invariant-loop-m g l = record {
  rises : Rises (g.F.Flow.meaning l.flow) (g.F.Flow.proper l.flow) l.initial.work l.work;
  edges : (k : ℕ) → k < l.m-index → HoldsOrWaits (g.F.Flow.meaning l.flow) l.work l.n (get_or l.nexts k l.n);
  at_most : l.steps ≤ l.initial.steps + l.m-index;
  at_least : counted_on l.initial.steps l.m-index ≤ l.steps;
}
