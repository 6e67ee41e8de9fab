use Rattle.std.proofs.Common.{subst}
use Rattle.po_flow.specs.Waiting.{IsTaken, NoneWaits}
use Rattle.po_flow.proofs.Listing.{nodes_within, none_left, set_listed, waits_within}
use Rattle.po_flow.proofs.worklist.Worklist.take.Goals as goal

pub next_waiting-found-requires : goal.next_waiting-found-requires
next_waiting-found-requires c = rw (c.as_slice.ensures, c.as_slice-2.ensures) (nodes_within c.self.inside.order.nodes c.self.inside.order.places c.self.inside.waiting c.self.invariant)

pub set-requires : goal.set-requires
set-requires c =
    let waits = simp (c.as_slice-2.ensures) at c.in-Some.ensures in
    waits_within c.self.inside.order.nodes c.self.inside.order.places c.self.inside.waiting c.self.invariant c.in-Some.n.0 waits

pub invariant_of-self : goal.invariant_of-self
invariant_of-self c = rw c.set.ensures (set_listed c.self.inside.order.nodes c.self.inside.order.places c.self.inside.waiting c.self.invariant c.in-Some.n.0 _)

pub returns-in-Some : goal.returns-in-Some
returns-in-Some c =
    let waits = simp (c.as_slice-2.ensures) at c.in-Some.ensures in
    subst (λ before. IsTaken before c.in-Some.n c.set.new.self) c.self.view_is (waits_within c.self.inside.order.nodes c.self.inside.order.places c.self.inside.waiting c.self.invariant c.in-Some.n.0 waits, waits, c.set.ensures)

pub returns-in-None : goal.returns-in-None
returns-in-None c =
    let none = simp (c.as_slice.ensures, c.as_slice-2.ensures) at c.in-None.ensures in
    (subst NoneWaits c.self.view_is (none_left c.self.inside.order.nodes c.self.inside.order.places c.self.inside.waiting c.self.invariant none), cc)
