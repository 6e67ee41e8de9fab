use Rattle.std.proofs.Common.{sym, take_all}
use Rattle.std.proofs.lemmas.List.{map_more}
use Rattle.po_tree.proofs.Sets.{adds_none, adds_name, none_contained}
use Rattle.po_tree.proofs.names.add_items.Goals as goal

pub loop-item-init : goal.loop-item-init
loop-item-init c = adds_none _ (λ x h. none_contained x h)

pub loop-item-preserved : goal.loop-item-preserved
loop-item-preserved c =
    rw (map_more (λ item. item.0) c.args.items.now c.loop-item.item-index c.item-item.result c.loop-item-test.true, ← c.item-item.is)
    (adds_name _ _ c.loop-item.invariant c.in_ok-add.ensures.adds)

pub returns : goal.returns
returns c = rw (sym (take_all c.loop-item.item-index c.args.items.now c.loop-item-test.false)) c.loop-item.invariant
