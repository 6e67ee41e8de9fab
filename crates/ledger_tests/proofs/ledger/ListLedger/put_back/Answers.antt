use Rattle.std.proofs.Common.{refl, sym, ap, []}
use Rattle.po_core.specs.declared.event.Event.TheVariants.{PutBack}
use Rattle.po_ledger.proofs.Kept.{does_seen, held_seen, put_back_did, put_back_keeps, room_one}
use Rattle.ledger_tests.proofs.Plain.{set_replicate, tables_cleared}
use Rattle.ledger_tests.proofs.ledger.ListLedger.put_back.Goals as goal

pub free_hand-items-requires : goal.free_hand-items-requires
free_hand-items-requires g c = held_seen c.args.file _ _ c.self.view_is c.requires

pub append-requires : goal.append-requires
append-requires g c = room_one _ _ _ _ c.self.invariant c.legal_lists_are_orderly.ensures c.args.file (held_seen c.args.file _ _ c.self.view_is c.requires)

pub invariant_of-self : goal.invariant_of-self
invariant_of-self g c = put_back_keeps _ _ _ _ c.self.invariant c.legal_lists_are_orderly.ensures _ c.args.file c.free_hand-items.result c.free_hand-items.ensures.before (rw c.as_slice.ensures at c.remark.ensures) c.free_hand-items.ensures.after refl c.append.ensures.items _ (sym (set_replicate g.J.Naming.book.files c.args.file.0 [])) c.append.ensures.room

pub returns-clause-does : goal.returns-clause-does
returns-clause-does g c = does_seen _ (PutBack c.args.file) _ _ _ c.self.view_is (put_back_did _ _ _ _ c.self.invariant c.legal_lists_are_orderly.ensures _ c.args.file c.free_hand-items.result c.free_hand-items.ensures.before (rw c.as_slice.ensures at c.remark.ensures) c.free_hand-items.ensures.after refl c.append.ensures.items)

pub returns-clause-tables : goal.returns-clause-tables
returns-clause-tables g c = tables_cleared g.J.Naming.book.files c.args.file.0 _ _ c.self.view_is refl
