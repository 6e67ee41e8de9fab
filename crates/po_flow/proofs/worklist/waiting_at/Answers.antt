use Rattle.std.proofs.Common.{length, refl}
use Rattle.std.proofs.lemmas.Option.{slice_get_past, slice_get_read}
use Rattle.po_flow.proofs.Listing.{found_at, idle_past}
use Rattle.po_flow.proofs.worklist.waiting_at.Goals as goal

pub if_waiting-requires : goal.if_waiting-requires
if_waiting-requires c =
    let found = c.in-Some.ensures.lookup in
    c.requires c.args.at c.in-Some.n.now (slice_get_read c.args.nodes.now (length c.args.nodes.now) c.args.at c.in-Some.n.now refl found.3.0 found.1)

pub returns-in-Some : goal.returns-in-Some
returns-in-Some c =
    let found = c.in-Some.ensures.lookup in
    found_at c.args.nodes.now c.args.waiting.now c.args.at c.in-Some.n.now c.if_waiting.result (slice_get_read c.args.nodes.now (length c.args.nodes.now) c.args.at c.in-Some.n.now refl found.3.0 found.1) c.if_waiting.ensures

pub returns-in-None : goal.returns-in-None
returns-in-None c = idle_past c.args.nodes.now c.args.waiting.now c.args.at (slice_get_past c.args.nodes.now c.args.at c.in-None.ensures.lookup.3)
