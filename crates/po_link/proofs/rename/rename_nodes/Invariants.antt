use Rattle.std.proofs.Common.{◌≡◌, ◌++◌, length, map}
use Rattle.std.specs.Vec.Iter.{into_iter_items, into_iter_len}
use Rattle.po_link.specs.Joined.{Naming, renamed_node}
use Rattle.po_link.specs.Scoped.{IsScope}
use Rattle.po_link.proofs.rename.rename_nodes.Given as goal

abbrev pub invariant-loop-node : goal.invariant-loop-node
invariant-loop-node l = record {
  taken : l.yielded ++ into_iter_items l.node-iterator ≡ into_iter_items l.initial.node-iterator;
  left : into_iter_len l.node-iterator ≡ length (into_iter_items l.node-iterator);
  made : (names : Naming) → IsScope l.scope names → l.all ≡ map (renamed_node names) l.yielded;
}
