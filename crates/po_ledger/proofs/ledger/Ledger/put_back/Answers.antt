use Rattle.std.proofs.Common.{◌∙◌, [], ap, arith, refl, set}
use Rattle.po_core.specs.declared.event.Event.TheVariants.{PutBack}
use Rattle.po_ledger.proofs.Kept.{does_seen, hand_of_file, held_place, held_seen, order_here, put_back_did, put_back_keeps, room_one}
use Rattle.po_ledger.specs.View.{LedgerView}
use Rattle.po_ledger.proofs.Counted.{held_one, less_held}
use Rattle.po_ledger.proofs.Queued.{queued_freed, says_held, waits_there}
use Rattle.po_ledger.proofs.ledger.Ledger.put_back.Goals as goal

pub free_hand-items-requires : goal.free_hand-items-requires
free_hand-items-requires g c = held_seen c.args.file _ _ c.self.view_is c.requires

pub put_back-requires-clause-apart : goal.put_back-requires-clause-apart
put_back-requires-clause-apart g c = c.self.invariant.0.apart

pub put_back-requires-clause-waiting : goal.put_back-requires-clause-waiting
put_back-requires-clause-waiting g c = waits_there _ _ c.self.invariant.0.same_book _ c.self.invariant.1.waiting

pub put_back-requires-clause-there : goal.put_back-requires-clause-there
put_back-requires-clause-there g c = let w = held_place _ _ _ _ c.self.invariant.0 c.legal_lists_are_orderly.ensures c.args.file (held_seen c.args.file _ _ c.self.view_is c.requires) in omega (arith, w, c.self.invariant.0.hands_there, c.self.invariant.1.waiting.there)

pub put_back-requires-clause-of_file : goal.put_back-requires-clause-of_file
put_back-requires-clause-of_file g c = hand_of_file _ _ _ _ c.self.invariant.0 c.legal_lists_are_orderly.ensures c.args.self.now c.args.file c.free_hand-items.result c.free_hand-items.ensures.before

pub put_back-requires-clause-once : goal.put_back-requires-clause-once
put_back-requires-clause-once g c = (order_here _ _ _ _ c.self.invariant.0 c.legal_lists_are_orderly.ensures).hands_once c.args.file c.free_hand-items.result c.free_hand-items.ensures.before

pub put_back-requires-clause-held : goal.put_back-requires-clause-held
put_back-requires-clause-held g c = says_held _ _ _ c.self.invariant.1 c.args.file (held_seen c.args.file _ _ c.self.view_is c.requires)

pub overflow_sub-self : goal.overflow_sub-self
overflow_sub-self g c = held_one c.self.inside.hands.items c.self.inside.hands.items c.args.file _ c.self.invariant.2 (held_seen c.args.file _ _ c.self.view_is c.requires)

pub clear_shelf-requires : goal.clear_shelf-requires
clear_shelf-requires g c = let w = held_place _ _ _ _ c.self.invariant.0 c.legal_lists_are_orderly.ensures c.args.file (held_seen c.args.file _ _ c.self.view_is c.requires) in omega (arith, w, c.self.invariant.0.hands_there, c.self.invariant.0.shelves_there)

pub append-requires : goal.append-requires
append-requires g c = room_one _ _ _ _ c.self.invariant.0 c.legal_lists_are_orderly.ensures c.args.file (held_seen c.args.file _ _ c.self.view_is c.requires)

pub returns-clause-does : goal.returns-clause-does
returns-clause-does g c = does_seen _ (PutBack c.args.file) _ _ _ c.self.view_is (put_back_did _ _ _ _ c.self.invariant.0 c.legal_lists_are_orderly.ensures _ c.args.file c.free_hand-items.result c.free_hand-items.ensures.before c.put_back.ensures.marks c.free_hand-items.ensures.after refl c.append.ensures.items)

pub returns-clause-tables : goal.returns-clause-tables
returns-clause-tables g c = c.clear_shelf.ensures ∙ ap (λ (z : LedgerView _ _ _). set z.tables c.args.file.0 []) c.self.view_is

pub invariant_of-self : goal.invariant_of-self
invariant_of-self g c = (
  put_back_keeps _ _ _ _ c.self.invariant.0 c.legal_lists_are_orderly.ensures _ c.args.file c.free_hand-items.result c.free_hand-items.ensures.before c.put_back.ensures.marks c.free_hand-items.ensures.after refl c.append.ensures.items _ c.clear_shelf.ensures c.append.ensures.room,
  queued_freed _ _ c.self.invariant.0.same_book _ _ _ c.self.invariant.1 c.put_back.ensures.waiting _ c.args.file c.put_back.ensures.holds c.free_hand-items.ensures.after,
  less_held _ _ c.args.file _ c.self.invariant.2 (held_seen c.args.file _ _ c.self.view_is c.requires) c.free_hand-items.ensures.after _ refl,
  c.self.invariant.3,
)
