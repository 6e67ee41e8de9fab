use Rattle.std.proofs.Common.{refl}
use Rattle.po_ledger.proofs.Queued.{queued_same, waits_there}
use Rattle.po_ledger.proofs.Settled.{settle_room, settle_keeps, settle_taken, settles_item}
use Rattle.po_ledger.proofs.ledger.Ledger.settle.Goals as goal

pub settle-requires-clause-taken : goal.settle-requires-clause-taken
settle-requires-clause-taken g c = settle_taken _ _ _ _ c.self.invariant.0 c.legal_lists_are_orderly.ensures c.args.t.now _ c.self.view_is c.args.k c.args.v c.requires.can c.item-obl.result.now c.item-obl.ensures

pub settle-requires-clause-apart : goal.settle-requires-clause-apart
settle-requires-clause-apart g c = c.self.invariant.0.apart

pub settle-requires-clause-waiting : goal.settle-requires-clause-waiting
settle-requires-clause-waiting g c = waits_there _ _ c.self.invariant.0.same_book _ c.self.invariant.1.waiting

pub append-requires : goal.append-requires
append-requires g c = settle_room _ _ _ _ c.self.invariant.0 c.legal_lists_are_orderly.ensures c.args.t.now _ c.self.view_is c.args.k c.args.v c.requires.can c.item-obl.result.now c.item-obl.ensures

pub invariant_of-self : goal.invariant_of-self
invariant_of-self g c = (
  settle_keeps _ _ _ _ c.self.invariant.0 c.legal_lists_are_orderly.ensures c.args.t.now _ c.self.view_is c.args.k c.args.v c.requires.can c.item-obl.result.now c.item-obl.ensures _ c.file-file.result c.file-file.ensures c.settle.ensures.marks refl refl c.append.ensures.items c.append.ensures.room,
  queued_same _ _ c.self.invariant.0.same_book _ _ _ c.self.invariant.1 c.settle.ensures.waiting c.settle.ensures.queues,
  c.self.invariant.2,
  c.self.invariant.3,
)

pub returns : goal.returns
returns g c = settles_item _ _ _ _ c.self.invariant.0 c.legal_lists_are_orderly.ensures c.args.t.now _ c.self.view_is c.args.k c.args.v c.requires.can c.item-obl.result.now c.item-obl.ensures _ c.file-file.result c.file-file.ensures c.settle.ensures.marks refl refl c.append.ensures.items _ c.mark_settled.ensures
