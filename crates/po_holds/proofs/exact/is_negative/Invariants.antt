use Rattle.std.proofs.Common.{◌≡◌, ◌≤◌, ◌-◌, length, drop}
use Rattle.po_holds.specs.Exact.{AreAfter, total, whole}
use Rattle.po_holds.proofs.exact.is_negative.Given as goal

abbrev pub invariant-loop-left : goal.invariant-loop-left
invariant-loop-left l = record {
  within : l.left ≤ length l.products;
  sum : whole l.sum ≡ total (drop l.left l.products);
  after : AreAfter (length l.products - l.left) l.sum;
}

abbrev pub decreases-loop-left : goal.decreases-loop-left
decreases-loop-left l = l.left
