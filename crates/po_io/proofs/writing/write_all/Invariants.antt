use Rattle.std.proofs.Common.{◌≤◌, ◌-◌, take, length}
use Rattle.po_io.specs.Writing.{Adds}
use Rattle.po_io.proofs.writing.write_all.Given as goal

abbrev pub invariant-loop-at : goal.invariant-loop-at
invariant-loop-at g l = record {
  within : l.at ≤ length l.bytes;
  written : Adds (g.S.Sink.written l.initial.sink) (g.S.Sink.written l.sink) (take l.at l.bytes);
  counts : g.S.Sink.faults l.initial.sink ≤ g.S.Sink.faults l.sink;
}

abbrev pub decreases-loop-at : goal.decreases-loop-at
decreases-loop-at g l = length l.bytes - l.at
