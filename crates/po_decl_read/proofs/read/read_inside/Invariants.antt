use Rattle.std.proofs.Common.{◌≤◌}
use Rattle.po_exp_parts.specs.Places.{signs_between}
use Rattle.po_decl_steps.specs.Standing.{DeclarationStands}
use Rattle.po_decl_states.specs.Going.{Leads, remaining}
use Rattle.po_decl_read.proofs.read.read_inside.Given as goal

abbrev pub invariant-loop-next : goal.invariant-loop-next
invariant-loop-next l = record {
  leads : Leads (DeclarationStands l.fn.names.typedefs (signs_between l.tokens.list l.from l.to)) l.fn.names.tags l.fn.names.outer l.tokens.list l.to l.names l.state;
  lists : l.state.lists ≤ l.state.at;
  after : l.from ≤ l.state.at;
}

abbrev pub decreases-loop-next : goal.decreases-loop-next
decreases-loop-next l = remaining l.tokens.list l.state
