use Rattle.std.proofs.Common.{refl, ap, sym, ◌∙◌, [], set}
use Rattle.po_core.specs.Book.{Book}
use Rattle.po_ledger.specs.View.{LedgerView}
use Rattle.po_ledger.proofs.Settled.{give_did, give_keeps, give_place, give_room}
use Rattle.ledger_tests.proofs.Plain.{no_tables, set_replicate, tables_same}
use Rattle.ledger_tests.proofs.ledger.ListLedger.give.Goals as goal

pub set_hand-requires : goal.set_hand-requires
set_hand-requires g c = give_place _ _ _ _ c.self.invariant c.legal_lists_are_orderly.ensures c.args.t _ c.self.view_is c.requires c.file-file.result c.file-file.ensures

pub append-requires : goal.append-requires
append-requires g c = give_room _ _ _ _ c.self.invariant c.legal_lists_are_orderly.ensures c.args.t _ c.self.view_is c.requires

pub invariant_of-self : goal.invariant_of-self
invariant_of-self g c = give_keeps _ _ _ _ c.self.invariant c.legal_lists_are_orderly.ensures c.args.t _ c.self.view_is c.requires _ c.worker-worker.result c.worker-worker.ensures c.file-file.result c.file-file.ensures refl c.set_hand.ensures refl c.append.ensures.items _ [] (no_tables g.J.Naming.book) (sym (set_replicate g.J.Naming.book.files c.file-file.result.0 [])) c.append.ensures.room

pub returns-clause-does : goal.returns-clause-does
returns-clause-does g c = give_did _ _ _ _ c.self.invariant c.legal_lists_are_orderly.ensures c.args.t _ c.self.view_is c.requires _ c.worker-worker.result c.worker-worker.ensures c.file-file.result c.file-file.ensures refl c.set_hand.ensures refl c.append.ensures.items

pub returns-clause-tables : goal.returns-clause-tables
returns-clause-tables g c = tables_same g.J.Naming.book.files c.args.t.file.0 _ _ c.self.view_is refl c.args.t.tables c.keeps_no_tables.ensures
