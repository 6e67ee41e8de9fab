use Rattle.std.proofs.Common.{◌≤◌, ◌-◌, ℕ, List, length}
use Rattle.po_tree.specs.NameSets.{AreSame}
use Rattle.po_exp_parts.specs.Places.{signs_between}
use Rattle.po_decl_parts.specs.Sizes.{SizesRead}
use Rattle.po_exp_parts.proofs.Leading.{Leads}
use Rattle.po_decl_parts.proofs.sizes.sizes_at.Given as goal

abbrev pub invariant-loop-alloc : goal.invariant-loop-alloc
invariant-loop-alloc l = record {
  leads : (types : List (List ℕ)) → AreSame types l.names.typedefs → Leads (SizesRead types (signs_between l.tokens.list l.at l.to)) l.sizes (SizesRead types (signs_between l.tokens.list l.next l.to));
  after : l.at ≤ l.next;
  within : l.at ≤ l.to → l.at ≤ length l.tokens.list → (l.next ≤ l.to) × (l.next ≤ length l.tokens.list);
}

abbrev pub decreases-loop-alloc : goal.decreases-loop-alloc
decreases-loop-alloc l = l.to - l.next
