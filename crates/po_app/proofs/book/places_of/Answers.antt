use Rattle.std.proofs.Common.{arith}
use Rattle.po_app.specs.Book.{node_places}
use Rattle.po_app.proofs.Each.{each_from-step}
use Rattle.po_app.proofs.book.places_of.Goals as goal

pub loop-node-preserved : goal.loop-node-preserved
loop-node-preserved c = record {
  counted = omega arith;
  places = each_from-step node_places _ _ _ _ _ _ c.loop-node-test.true c.node-item.is c.loop-node.invariant.counted c.loop-node.invariant.places c.in_ok-add_places.ensures;
}
