use Rattle.std.proofs.Common.{◌≤◌, ◌-◌, length}
use Rattle.std.specs.Prelude.{max}
use Rattle.po_exp_parts.specs.Places.{signs_from}
use Rattle.po_exp_parts.specs.Stars.{QualifiersRead}
use Rattle.po_exp_parts.proofs.Leading.{Leads}
use Rattle.po_exp_parts.proofs.stars.qualifiers_at.Given as goal

abbrev pub invariant-loop-text : goal.invariant-loop-text
invariant-loop-text l = record {
  leads : Leads (QualifiersRead (signs_from l.tokens l.at)) l.words (QualifiersRead (signs_from l.tokens l.next));
  after : l.at ≤ l.next;
  within : l.next ≤ max l.at (length l.tokens);
}

abbrev pub decreases-loop-text : goal.decreases-loop-text
decreases-loop-text l = length l.tokens - l.next
