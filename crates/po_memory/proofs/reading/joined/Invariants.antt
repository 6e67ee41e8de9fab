use Rattle.std.proofs.Common.{◌<◌, ◌≤◌, ◌-◌, ◌*◌, ◌^◌, length, drop}
use Rattle.po_memory.specs.Walking.{AreJoined}
use Rattle.po_memory.proofs.reading.joined.Given as goal

abbrev pub invariant-loop-left : goal.invariant-loop-left
invariant-loop-left l = record {
  within : l.left ≤ length l.bytes;
  joined : AreJoined (drop l.left l.bytes) l.sum;
  small : l.sum < 2 ^ (8 * (length l.bytes - l.left));
}

abbrev pub decreases-loop-left : goal.decreases-loop-left
decreases-loop-left l = l.left
