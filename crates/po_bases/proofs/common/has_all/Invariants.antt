use Rattle.std.proofs.Common.{◌≡◌, ◌≤◌, ◌+◌, ◌-◌, drop, length}
use Rattle.po_bases.specs.Filled as bytes
use Rattle.po_bases.proofs.common.has_all.Given as goal

abbrev pub invariant-loop-i : goal.invariant-loop-i
invariant-loop-i l = record {
  first : l.i ≤ length l.xs;
  second : l.j ≤ length l.ys;
  rest : bytes.has_all (drop l.i l.xs) (drop l.j l.ys) ≡ bytes.has_all l.xs l.ys;
}

abbrev pub decreases-loop-i : goal.decreases-loop-i
decreases-loop-i l = (length l.xs - l.i) + (length l.ys - l.j)
