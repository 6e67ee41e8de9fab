use Rattle.std.proofs.Common.{◌≡◌, ◌≤◌, ◌-◌, ℕ, List}
use Rattle.po_tree.specs.NameSets.{AreSame}
use Rattle.po_exp_parts.specs.Places.{signs_between}
use Rattle.po_exp_parts.proofs.Leading.{Leads}
use Rattle.po_decl_parts.proofs.Listed.{Items}
use Rattle.po_decl_parts.proofs.enumerators.enumerators_at.Given as goal

abbrev pub invariant-loop-items : goal.invariant-loop-items
invariant-loop-items l = record {
  leads : (types : List (List ℕ)) → AreSame types l.initial.names.typedefs →
      (now : List (List ℕ)) × AreSame now l.names.typedefs × Leads (Items types (signs_between l.tokens.list l.at l.to)) l.items (Items now (signs_between l.tokens.list l.next l.to));
  kept : (l.names.tags ≡ l.initial.names.tags) × (l.names.outer ≡ l.initial.names.outer);
  after : l.at ≤ l.next;
}

abbrev pub decreases-loop-items : goal.decreases-loop-items
decreases-loop-items l = l.to - l.next
