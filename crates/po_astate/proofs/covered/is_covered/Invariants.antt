use Rattle.std.proofs.Common.{◌≡◌, ◌≤◌, ◌+◌, ◌-◌, drop, length}
use Rattle.po_bases.specs.Maps.{covered}
use Rattle.po_astate.proofs.covered.is_covered.Given as goal

abbrev pub invariant-loop-i : goal.invariant-loop-i
invariant-loop-i g l = record {
  first : l.i ≤ length l.xs;
  second : l.j ≤ length l.ys;
  rest : covered g.E.Keyed.key_order g.E.Ordered.within (drop l.i l.xs) (drop l.j l.ys) ≡ covered g.E.Keyed.key_order g.E.Ordered.within l.xs l.ys;
}

abbrev pub decreases-loop-i : goal.decreases-loop-i
decreases-loop-i g l = (length l.xs - l.i) + (length l.ys - l.j)
