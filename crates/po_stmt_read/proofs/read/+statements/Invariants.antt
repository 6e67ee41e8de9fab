use Rattle.std.proofs.Common.{◌≡◌, ◌≤◌, ◌+◌, ◌-◌, ◌*◌, ℕ, List}
use Rattle.po_tree.specs.NameSets.{AreSame}
use Rattle.po_exp_parts.specs.Places.{signs_between}
use Rattle.po_stmt_read.proofs.Items.{ItemsLead}
use Rattle.po_stmt_read.proofs.read.+statements.Given as goal

abbrev pub decreases-statement : goal.decreases-statement
decreases-statement l = 8 * l.room

abbrev pub decreases-part : goal.decreases-part
decreases-part l = 8 * l.room + 1

abbrev pub decreases-while_loop : goal.decreases-while_loop
decreases-while_loop l = 8 * l.room + 2

abbrev pub decreases-for_loop : goal.decreases-for_loop
decreases-for_loop l = 8 * l.room + 2

abbrev pub decreases-plain_for : goal.decreases-plain_for
decreases-plain_for l = 8 * l.room + 3

abbrev pub decreases-switch_statement : goal.decreases-switch_statement
decreases-switch_statement l = 8 * l.room + 2

abbrev pub decreases-case_statement : goal.decreases-case_statement
decreases-case_statement l = 8 * l.room + 2

abbrev pub decreases-default_statement : goal.decreases-default_statement
decreases-default_statement l = 8 * l.room + 2

abbrev pub decreases-labelled_statement : goal.decreases-labelled_statement
decreases-labelled_statement l = 8 * l.room + 2

abbrev pub decreases-behind_else : goal.decreases-behind_else
decreases-behind_else l = 8 * l.room + 2

abbrev pub decreases-branches : goal.decreases-branches
decreases-branches l = 8 * l.room + 3

abbrev pub decreases-do_loop : goal.decreases-do_loop
decreases-do_loop l = 8 * l.room + 2

abbrev pub decreases-behind_variables : goal.decreases-behind_variables
decreases-behind_variables l = 8 * l.room + 3

abbrev pub decreases-variables_inside : goal.decreases-variables_inside
decreases-variables_inside l = 8 * l.room + 4

abbrev pub decreases-variables : goal.decreases-variables
decreases-variables l = 8 * l.room + 5

abbrev pub decreases-item : goal.decreases-item
decreases-item l = 8 * l.room + 1

abbrev pub decreases-items_inside : goal.decreases-items_inside
decreases-items_inside l = 8 * l.room + 2

abbrev pub decreases-items : goal.decreases-items
decreases-items l = 8 * l.room + 3

abbrev pub decreases-block : goal.decreases-block
decreases-block l = 8 * l.room + 4

abbrev pub decreases-read_on : goal.decreases-read_on
decreases-read_on l = 8 * l.room + 6

abbrev pub invariant-items_inside-loop-alloc : goal.invariant-items_inside-loop-alloc
invariant-items_inside-loop-alloc l = record {
  leads : (types : List (List ℕ)) → AreSame types l.fn.names.typedefs → (inner : List (List ℕ)) × AreSame inner l.names.typedefs ×
      ItemsLead types inner l.room (signs_between l.tokens.list l.at l.to) l.xs (signs_between l.tokens.list l.place l.to);
  scopes : l.names.outer ≡ l.fn.names.outer;
  after : l.at ≤ l.place;
}

abbrev pub decreases-items_inside-loop-alloc : goal.decreases-items_inside-loop-alloc
decreases-items_inside-loop-alloc l = l.to - l.place
