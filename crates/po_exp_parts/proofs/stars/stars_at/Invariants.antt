use Rattle.std.proofs.Common.{◌≤◌, ◌-◌, length}
use Rattle.std.specs.Prelude.{max}
use Rattle.po_exp_parts.specs.Places.{signs_from}
use Rattle.po_exp_parts.specs.Stars.{StarsRead}
use Rattle.po_exp_parts.proofs.Leading.{Leads}
use Rattle.po_exp_parts.proofs.stars.stars_at.Given as goal

abbrev pub invariant-loop-alloc : goal.invariant-loop-alloc
invariant-loop-alloc l = record {
  leads : Leads (StarsRead (signs_from l.tokens l.at)) l.stars (StarsRead (signs_from l.tokens l.next));
  after : l.at ≤ l.next;
  within : l.next ≤ max l.at (length l.tokens);
}

abbrev pub decreases-loop-alloc : goal.decreases-loop-alloc
decreases-loop-alloc l = length l.tokens - l.next
