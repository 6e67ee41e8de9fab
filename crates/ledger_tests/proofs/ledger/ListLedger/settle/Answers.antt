use Rattle.std.proofs.Common.{refl}
use Rattle.po_ledger.proofs.Settled.{settle_room, settle_keeps, settles_item}
use Rattle.ledger_tests.proofs.ledger.ListLedger.settle.Goals as goal

pub append-requires : goal.append-requires
append-requires g c = settle_room _ _ _ _ c.self.invariant c.legal_lists_are_orderly.ensures c.args.t.now _ c.self.view_is c.args.k c.args.v c.requires.can c.item-obl.result.now c.item-obl.ensures

pub invariant_of-self : goal.invariant_of-self
invariant_of-self g c = settle_keeps _ _ _ _ c.self.invariant c.legal_lists_are_orderly.ensures c.args.t.now _ c.self.view_is c.args.k c.args.v c.requires.can c.item-obl.result.now c.item-obl.ensures _ c.file-file.result c.file-file.ensures c.settle_mark.ensures refl refl c.append.ensures.items c.append.ensures.room

pub returns : goal.returns
returns g c = settles_item _ _ _ _ c.self.invariant c.legal_lists_are_orderly.ensures c.args.t.now _ c.self.view_is c.args.k c.args.v c.requires.can c.item-obl.result.now c.item-obl.ensures _ c.file-file.result c.file-file.ensures c.settle_mark.ensures refl refl c.append.ensures.items _ c.mark_settled.ensures
