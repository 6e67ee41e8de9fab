use Rattle.std.proofs.Common.{◌≡◌, ◌≤◌, ◌<◌, ◌+◌, ◌-◌, ◌*◌, length, drop}
use Rattle.po_straight.specs.Expressions.{height}
use Rattle.po_straight.specs.Places.{height_of_call}
use Rattle.po_straight.proofs.Rules.{Leads}
use Rattle.po_straight.proofs.Calls.{ItemsLead}
use Rattle.po_straight.proofs.read_expression.+reader.Given as goal

abbrev pub decreases-arguments_at : goal.decreases-arguments_at
decreases-arguments_at l = 8 * l.depth + 5

abbrev pub decreases-items_at : goal.decreases-items_at
decreases-items_at l = 8 * l.depth + 4

abbrev pub decreases-closed : goal.decreases-closed
decreases-closed l = 8 * l.depth + 4

abbrev pub decreases-expression : goal.decreases-expression
decreases-expression l = 8 * l.depth + 3

abbrev pub decreases-operand : goal.decreases-operand
decreases-operand l = 8 * l.depth + 2

abbrev pub decreases-call_at : goal.decreases-call_at
decreases-call_at l = 8 * l.depth + 1

abbrev pub invariant-expression-loop-operator : goal.invariant-expression-loop-operator
invariant-expression-loop-operator l = record {
  leads : Leads l.scope l.level (drop l.at l.lexemes) l.own l.found.value (drop l.found.end l.lexemes);
  own : l.own ≤ 2;
  high : l.found.height ≡ height l.found.value;
  shallow : l.found.height ≤ l.depth;
  after : l.at < l.found.end;
  within : l.found.end ≤ length l.lexemes;
}

abbrev pub decreases-expression-loop-operator : goal.decreases-expression-loop-operator
decreases-expression-loop-operator l = length l.lexemes - l.found.end

abbrev pub invariant-items_at-loop-values : goal.invariant-items_at-loop-values
invariant-items_at-loop-values l = record {
  lead : ItemsLead l.scope (drop l.at l.lexemes) l.values (drop l.next l.lexemes);
  high : l.height ≡ height_of_call l.values;
  shallow : l.height ≤ l.depth;
  after : l.at ≤ l.next;
}

abbrev pub decreases-items_at-loop-values : goal.decreases-items_at-loop-values
decreases-items_at-loop-values l = length l.lexemes - l.next
