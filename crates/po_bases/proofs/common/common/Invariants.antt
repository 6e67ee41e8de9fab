use Rattle.std.proofs.Common.{◌≡◌, ◌≤◌, ◌+◌, ◌-◌, ◌++◌, drop, length}
use Rattle.po_bases.specs.Filled as bytes
use Rattle.po_bases.proofs.common.common.Given as goal

abbrev pub invariant-loop-i : goal.invariant-loop-i
invariant-loop-i l = record {
  first : l.i ≤ length l.xs;
  second : l.j ≤ length l.ys;
  rest : l.list ++ bytes.common (drop l.i l.xs) (drop l.j l.ys) ≡ bytes.common l.xs l.ys;
}

abbrev pub decreases-loop-i : goal.decreases-loop-i
decreases-loop-i l = (length l.xs - l.i) + (length l.ys - l.j)
