use Rattle.std.proofs.Common.{map, take}
use Rattle.std.specs.Prelude.{Contains}
use Rattle.po_tree.specs.NameSets.{Adds}
use Rattle.po_tree.proofs.names.add_items.Given as goal

abbrev pub invariant-loop-item : goal.invariant-loop-item
invariant-loop-item l = Adds (Contains (map (λ item. item.0) (take l.item-index l.items))) l.initial.set l.set
