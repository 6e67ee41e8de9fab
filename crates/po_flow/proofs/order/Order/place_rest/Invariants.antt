use Rattle.std.proofs.Common.{◌≡◌, ◌<◌, ℕ, length}
use Rattle.po_flow.specs.Order.{IsPlaced, StandOnce}
use Rattle.po_flow.proofs.order.Order.place_rest.Given as goal

abbrev pub invariant-loop-n : goal.invariant-loop-n
invariant-loop-n l = record {
  long : length l.self.places ≡ l.size;
  once : StandOnce l.self.nodes l.self.places;
  placed : (k : ℕ) → k < l.n → IsPlaced l.self.nodes l.self.places k;
}
