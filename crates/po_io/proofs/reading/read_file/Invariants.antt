use Rattle.std.proofs.Common.{ℕ, ◌≡◌, ◌≤◌, ◌<◌, ◌+◌, ◌-◌, List, length, vec_len}
use Rattle.po_io.specs.Progress.{IsFront}
use Rattle.po_io.proofs.reading.read_file.Given as goal

abbrev pub invariant-loop-files : goal.invariant-loop-files
invariant-loop-files g l = record {
  room : 0 < length l.buffer.items;
  front : IsFront (g.F.Files.held l.files l.name) l.read.items;
  held : (other : List ℕ) → g.F.Files.held l.files other ≡ g.F.Files.held l.initial.files other;
  counts : (other : List ℕ) → g.F.Files.faults l.initial.files other ≤ g.F.Files.faults l.files other;
}

abbrev pub decreases-loop-files : goal.decreases-loop-files
decreases-loop-files g l = l.limit + 1 - vec_len l.read
