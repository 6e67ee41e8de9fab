use Rattle.std.proofs.Common.{◌≡◌, ◌≤◌, ◌+◌, ◌-◌, ◌++◌, drop, length}
use Rattle.po_bases.specs.Maps.{merged}
use Rattle.po_bases.proofs.merging.merge.Given as goal

abbrev pub invariant-loop-i : goal.invariant-loop-i
invariant-loop-i g l = record {
  first : l.i ≤ length l.xs;
  second : l.j ≤ length l.ys;
  rest : l.list ++ merged g.E.Keyed.key_order g.E.Keyed.joined (drop l.i l.xs) (drop l.j l.ys) ≡ merged g.E.Keyed.key_order g.E.Keyed.joined l.xs l.ys;
}

abbrev pub decreases-loop-i : goal.decreases-loop-i
decreases-loop-i g l = (length l.xs - l.i) + (length l.ys - l.j)
