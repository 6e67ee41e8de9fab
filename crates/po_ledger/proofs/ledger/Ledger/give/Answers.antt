use Rattle.std.proofs.Common.{refl, ap, arith}
use Rattle.po_ledger.specs.View.{LedgerView}
use Rattle.po_ledger.proofs.Counted.{held_one, less_held}
use Rattle.po_ledger.proofs.Queued.{queued_freed, says_held, waits_there}
use Rattle.po_ledger.proofs.Shelved.{tables_given}
use Rattle.po_ledger.proofs.Settled.{give_did, give_hand, give_keeps, give_place, give_room, give_shelf}
use Rattle.po_ledger.proofs.ledger.Ledger.give.Goals as goal

pub set_hand-requires : goal.set_hand-requires
set_hand-requires g c = give_place _ _ _ _ c.self.invariant.0 c.legal_lists_are_orderly.ensures c.args.t _ c.self.view_is c.requires c.file-file.result c.file-file.ensures

pub swap_shelf-before-requires : goal.swap_shelf-before-requires
swap_shelf-before-requires g c = give_shelf _ _ _ _ c.self.invariant.0 c.legal_lists_are_orderly.ensures c.args.t _ c.self.view_is c.requires c.file-file.result c.file-file.ensures

pub overflow_sub-self : goal.overflow_sub-self
overflow_sub-self g c = held_one c.self.inside.hands.items c.self.inside.hands.items c.file-file.result _ c.self.invariant.2 (give_hand _ _ _ _ c.self.invariant.0 c.legal_lists_are_orderly.ensures c.args.t _ c.self.view_is c.requires c.file-file.result c.file-file.ensures)

pub free-requires-clause-waiting : goal.free-requires-clause-waiting
free-requires-clause-waiting g c = waits_there _ _ c.self.invariant.0.same_book _ c.self.invariant.1.waiting

pub free-requires-clause-there : goal.free-requires-clause-there
free-requires-clause-there g c = let w = give_place _ _ _ _ c.self.invariant.0 c.legal_lists_are_orderly.ensures c.args.t _ c.self.view_is c.requires c.file-file.result c.file-file.ensures in omega (arith, w, c.self.invariant.0.hands_there, c.self.invariant.1.waiting.there)

pub free-requires-clause-held : goal.free-requires-clause-held
free-requires-clause-held g c = says_held _ _ _ c.self.invariant.1 c.file-file.result (give_hand _ _ _ _ c.self.invariant.0 c.legal_lists_are_orderly.ensures c.args.t _ c.self.view_is c.requires c.file-file.result c.file-file.ensures)

pub append-requires : goal.append-requires
append-requires g c = give_room _ _ _ _ c.self.invariant.0 c.legal_lists_are_orderly.ensures c.args.t _ c.self.view_is c.requires

pub invariant_of-self : goal.invariant_of-self
invariant_of-self g c = (
  give_keeps _ _ _ _ c.self.invariant.0 c.legal_lists_are_orderly.ensures c.args.t _ c.self.view_is c.requires _ c.worker-worker.result c.worker-worker.ensures c.file-file.result c.file-file.ensures c.free.ensures.marks c.set_hand.ensures refl c.append.ensures.items _ c.into_tables-tables.result c.into_tables-tables.ensures.right c.swap_shelf-before.ensures.after c.append.ensures.room,
  queued_freed _ _ c.self.invariant.0.same_book _ _ _ c.self.invariant.1 c.free.ensures.waiting _ c.file-file.result c.free.ensures.holds c.set_hand.ensures,
  less_held _ _ c.file-file.result _ c.self.invariant.2 (give_hand _ _ _ _ c.self.invariant.0 c.legal_lists_are_orderly.ensures c.args.t _ c.self.view_is c.requires c.file-file.result c.file-file.ensures) c.set_hand.ensures _ refl,
  c.self.invariant.3,
)

pub returns-clause-does : goal.returns-clause-does
returns-clause-does g c = give_did _ _ _ _ c.self.invariant.0 c.legal_lists_are_orderly.ensures c.args.t _ c.self.view_is c.requires _ c.worker-worker.result c.worker-worker.ensures c.file-file.result c.file-file.ensures c.free.ensures.marks c.set_hand.ensures refl c.append.ensures.items

pub returns-clause-tables : goal.returns-clause-tables
returns-clause-tables g c = tables_given c.self.inside.shelves.items c.args.self.now (ap (λ (z : LedgerView _ _ _). z.tables) c.self.view_is) c.args.t _ c.file-file.result c.into_tables-tables.result c.file-file.ensures c.into_tables-tables.ensures.all c.swap_shelf-before.ensures.after
