use Rattle.std.proofs.Common.{◌≡◌, take}
use Rattle.po_app.specs.Obligations.{each_from}
use Rattle.po_app.specs.Book.{node_places}
use Rattle.po_app.proofs.book.places_of.Given as goal

abbrev pub invariant-loop-node : goal.invariant-loop-node
invariant-loop-node l = record {
  counted : l.at ≡ l.node-index;
  places : l.places ≡ each_from node_places 0 (take l.node-index l.nodes);
}
