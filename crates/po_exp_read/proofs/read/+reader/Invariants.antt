use Rattle.std.proofs.Common.{◌≡◌, ◌≤◌, ◌+◌, ◌-◌, ◌*◌, length}
use Rattle.po_tree.specs.Heights.{height}
use Rattle.po_exp_parts.specs.Places.{signs_from}
use Rattle.po_exp_read.specs.Enclosed.{list_height, sizes_height}
use Rattle.po_exp_parts.proofs.Leading.{Leads}
use Rattle.po_exp_read.proofs.Onward.{Onward}
use Rattle.po_exp_read.proofs.Items.{ItemsHere}
use Rattle.po_exp_read.proofs.Sizes.{SizesHere}
use Rattle.po_exp_read.proofs.read.+reader.Given as goal

abbrev pub decreases-tail : goal.decreases-tail
decreases-tail l = 8 * l.depth + 7

abbrev pub decreases-right_at : goal.decreases-right_at
decreases-right_at l = 8 * l.depth + 6

abbrev pub decreases-chosen_at : goal.decreases-chosen_at
decreases-chosen_at l = 8 * l.depth + 6

abbrev pub decreases-arguments_at : goal.decreases-arguments_at
decreases-arguments_at l = 8 * l.depth + 6

abbrev pub decreases-type_at : goal.decreases-type_at
decreases-type_at l = 8 * l.depth + 6

abbrev pub decreases-items_at : goal.decreases-items_at
decreases-items_at l = 8 * l.depth + 5

abbrev pub decreases-sizes_at : goal.decreases-sizes_at
decreases-sizes_at l = 8 * l.depth + 5

abbrev pub decreases-closed : goal.decreases-closed
decreases-closed l = 8 * l.depth + 4

abbrev pub decreases-expression : goal.decreases-expression
decreases-expression l = 8 * l.depth + 3

abbrev pub decreases-operand : goal.decreases-operand
decreases-operand l = 8 * l.depth + 2

abbrev pub decreases-parenthesised_at : goal.decreases-parenthesised_at
decreases-parenthesised_at l = 8 * l.depth + 1

abbrev pub decreases-unary_at : goal.decreases-unary_at
decreases-unary_at l = 8 * l.depth + 1

abbrev pub decreases-cast_at : goal.decreases-cast_at
decreases-cast_at l = 8 * l.depth

abbrev pub invariant-expression-loop-next : goal.invariant-expression-loop-next
invariant-expression-loop-next l = record {
  onward : Onward l.names.typedefs l.least l.depth (signs_from l.tokens l.at) l.own l.found.value (signs_from l.tokens l.found.end);
  counted : l.found.height ≡ height l.found.value;
  shallow : l.found.height ≤ l.depth;
  after : l.at ≤ l.found.end;
  within : l.found.end ≤ length l.tokens;
}

abbrev pub decreases-expression-loop-next : goal.decreases-expression-loop-next
decreases-expression-loop-next l = length l.tokens - l.found.end

abbrev pub invariant-items_at-loop-values : goal.invariant-items_at-loop-values
invariant-items_at-loop-values l = record {
  leads : Leads (ItemsHere l.names.typedefs l.depth (signs_from l.tokens l.at)) l.values (ItemsHere l.names.typedefs l.depth (signs_from l.tokens l.next));
  counted : l.height ≡ list_height l.values;
  after : l.at ≤ l.next;
}

abbrev pub decreases-items_at-loop-values : goal.decreases-items_at-loop-values
decreases-items_at-loop-values l = length l.tokens - l.next

abbrev pub invariant-sizes_at-loop-alloc : goal.invariant-sizes_at-loop-alloc
invariant-sizes_at-loop-alloc l = record {
  leads : Leads (SizesHere l.names.typedefs l.depth (signs_from l.tokens l.at)) l.sizes (SizesHere l.names.typedefs l.depth (signs_from l.tokens l.end));
  counted : l.height ≡ sizes_height l.sizes;
  after : l.at ≤ l.end;
  within : l.end ≤ length l.tokens;
}

abbrev pub decreases-sizes_at-loop-alloc : goal.decreases-sizes_at-loop-alloc
decreases-sizes_at-loop-alloc l = length l.tokens - l.end
