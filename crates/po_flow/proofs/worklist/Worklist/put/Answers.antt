use Rattle.po_flow.proofs.Listing.{set_listed}
use Rattle.po_flow.proofs.worklist.Worklist.put.Goals as goal

pub invariant_of-self : goal.invariant_of-self
invariant_of-self c = rw c.set.ensures (set_listed c.self.inside.order.nodes c.self.inside.order.places c.self.inside.waiting c.self.invariant c.args.n.0 _)
