use Rattle.std.proofs.Common.{◌≤◌, ◌-◌, length}
use Rattle.po_tree.specs.Expressions.{untyped}
use Rattle.po_exp_parts.specs.TypeWords.{SpecsRead}
use Rattle.po_exp_parts.specs.Seen.{typed}
use Rattle.po_exp_parts.specs.Places.{signs_from}
use Rattle.po_exp_parts.proofs.Leading.{Leads}
use Rattle.po_exp_parts.proofs.type_words.specs_at.Given as goal

abbrev pub invariant-loop-text : goal.invariant-loop-text
invariant-loop-text l = record {
  leads : Leads (SpecsRead l.names.typedefs untyped (signs_from l.tokens l.at)) l.specs (SpecsRead l.names.typedefs (typed l.seen) (signs_from l.tokens l.next));
  after : l.at ≤ l.next;
  within : l.next ≤ length l.tokens;
}

abbrev pub decreases-loop-text : goal.decreases-loop-text
decreases-loop-text l = length l.tokens - l.next
