use Rattle.std.proofs.Common.{◌∙◌, ◌++◌, ◌∷◌, [], ap, refl, sym, arith, map, false}
use Rattle.po_core.specs.declared.event.Event.TheVariants.{Take}
use Rattle.po_lists.proofs.Results.{on_err-always}
use Rattle.po_ledger.proofs.Kept.{known_there}
use Rattle.po_ledger.proofs.Posted.{same_view}
use Rattle.po_ledger.proofs.Taken.{take_place, take_shelf, new_ticket, take_keeps, hands_out}
use Rattle.ledger_tests.proofs.Plain.{drawn_marks, set_replicate, shelf_there, tables_handed}
use Rattle.ledger_tests.proofs.ledger.ListLedger.take_file.Goals as goal

pub untaken_of-requires-clause-there : goal.untaken_of-requires-clause-there
untaken_of-requires-clause-there g c = rw c.as_slice.ensures.value (known_there _ _ _ _ c.self.invariant c.legal_lists_are_orderly.ensures)

pub untaken_of-requires-clause-apart : goal.untaken_of-requires-clause-apart
untaken_of-requires-clause-apart g c = rw c.as_slice.ensures.value c.self.invariant.apart

pub append-requires : goal.append-requires
append-requires g c = omega (arith, c.in_ok-make_room.ensures.ok)

pub set_hand-requires : goal.set_hand-requires
set_hand-requires g c = take_place _ _ _ (g.met.R.Rulebook.lawful c.self.inside.book.now) _ _ c.self.invariant c.legal_lists_are_orderly.ensures _ c.self.view_is c.args.worker c.args.file c.requires

pub invariant_of-result : goal.invariant_of-result
invariant_of-result g c = new_ticket _ _ _ (g.met.R.Rulebook.lawful c.self.inside.book.now) _ _ c.self.invariant c.legal_lists_are_orderly.ensures _ c.self.view_is c.args.worker c.args.file c.requires c.in_ok-items.items (rw c.as_slice.ensures.value at c.in_ok-items.ensures) c.in_ok-hand.hand [] (c.in_ok-hand.ensures ∙ ap (map (λ o. (o, false))) c.as_slice-2.ensures) (shelf_there g.J.Naming.book.files c.args.file.0 [] (take_shelf _ _ _ (g.met.R.Rulebook.lawful c.self.inside.book.now) _ _ c.self.invariant c.legal_lists_are_orderly.ensures _ c.self.view_is c.args.worker c.args.file c.requires))

pub invariant_of-self-2 : goal.invariant_of-self-2
invariant_of-self-2 g c = take_keeps _ _ _ (g.met.R.Rulebook.lawful c.self.inside.book.now) _ _ c.self.invariant c.legal_lists_are_orderly.ensures _ c.self.view_is c.args.worker c.args.file c.requires c.in_ok-items.items (rw c.as_slice.ensures.value at c.in_ok-items.ensures) _ (drawn_marks (g.R.Rulebook.meaning c.self.inside.book.now) c.args.file c.in_ok-items.items _ _ (rw c.as_slice.ensures.value at c.in_ok-items.ensures) (rw c.as_slice-3.ensures at c.remark.ensures)) c.set_hand.ensures refl (c.append.ensures.items ∙ ap (λ z. z ++ Take c.args.worker c.args.file ∷ []) c.in_ok-make_room.ensures.items) (omega (arith, c.len.ensures, c.in_ok-make_room.ensures.ok, c.append.ensures.room)) _ [] refl (sym (set_replicate g.J.Naming.book.files c.args.file.0 []))

pub returns-clause-ok : goal.returns-clause-ok
returns-clause-ok g c = hands_out _ _ _ (g.met.R.Rulebook.lawful c.self.inside.book.now) _ _ c.self.invariant c.legal_lists_are_orderly.ensures _ c.self.view_is c.args.worker c.args.file c.requires c.in_ok-items.items (rw c.as_slice.ensures.value at c.in_ok-items.ensures) _ (drawn_marks (g.R.Rulebook.meaning c.self.inside.book.now) c.args.file c.in_ok-items.items _ _ (rw c.as_slice.ensures.value at c.in_ok-items.ensures) (rw c.as_slice-3.ensures at c.remark.ensures)) c.set_hand.ensures refl (c.append.ensures.items ∙ ap (λ z. z ++ Take c.args.worker c.args.file ∷ []) c.in_ok-make_room.ensures.items) (omega (arith, c.len.ensures, c.in_ok-make_room.ensures.ok, c.append.ensures.room)) c.in_ok-hand.hand [] (c.in_ok-hand.ensures ∙ ap (map (λ o. (o, false))) c.as_slice-2.ensures)

pub returns-clause-tables : goal.returns-clause-tables
returns-clause-tables g c = tables_handed g.J.Naming.book.files [] _ _ _ _ (take_shelf _ _ _ (g.met.R.Rulebook.lawful c.self.inside.book.now) _ _ c.self.invariant c.legal_lists_are_orderly.ensures _ c.self.view_is c.args.worker c.args.file c.requires) c.self.view_is refl refl refl refl

pub returns-in_err-make_room-clause-err : goal.returns-in_err-make_room-clause-err
returns-in_err-make_room-clause-err g c = on_err-always _ (same_view c.self.inside.marks.items c.self.inside.marks.items c.self.inside.hands.items c.self.inside.assumed.items c.self.inside.assumed.items c.self.inside.journal.items c.make_room.new.journal.items _ _ _ refl refl c.in_err-make_room.ensures.items c.in_err-make_room.ensures.err ∙ c.self.view_is)
