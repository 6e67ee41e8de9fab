use Rattle.std.proofs.Common.{◌≡◌, length}
use Rattle.po_flow.specs.Order.{StandOnce}
use Rattle.po_flow.proofs.order.Order.place_backwards.Given as goal

abbrev pub invariant-loop-n : goal.invariant-loop-n
invariant-loop-n l = record {
  long : length l.self.places ≡ length l.initial.self.places;
  once : StandOnce l.self.nodes l.self.places;
}
