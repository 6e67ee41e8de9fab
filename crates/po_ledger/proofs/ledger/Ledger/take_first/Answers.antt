use Rattle.std.proofs.Common.{ℕ, ◌∙◌, ◌++◌, ◌∷◌, [], List, Some, ap, refl, subst, sym, arith, length, length-set, map, false}
use Rattle.po_core.specs.Book.{Book, IsBook}
use Rattle.po_core.specs.Core.{IsHeld}
use Rattle.po_core.specs.declared.event.Event.TheVariants.{Take}
use Rattle.po_core.specs.declared.obl.Obl.{Obl}
use Rattle.po_ledger.specs.Calls.{Counts}
use Rattle.po_ledger.specs.Parts.{HandAt}
use Rattle.po_ledger.proofs.Counted.{held_below, held_more}
use Rattle.po_lists.proofs.Results.{on_err-always}
use Rattle.po_ledger.proofs.Kept.{order_here}
use Rattle.po_ledger.proofs.Starts.{first_can, none_can}
use Rattle.po_ledger.proofs.Posted.{same_view}
use Rattle.po_ledger.proofs.Queued.{drawn_room, queued_taken}
use Rattle.po_ledger.specs.View.{LedgerView}
use Rattle.po_ledger.proofs.Shelved.{tables_handed}
use Rattle.po_ledger.proofs.Taken.{take_place, take_shelf, new_ticket, take_keeps, hands_out}
use Rattle.po_marks.specs.Waiting.{TakesFrom}
use Rattle.po_ledger.proofs.ledger.Ledger.take_first.Goals as goal

pub room_to_draw-requires : goal.room_to_draw-requires
room_to_draw-requires g c = (let w = (take_place _ _ _ (g.met.R.Rulebook.lawful c.self.inside.book.now) _ _ c.self.invariant.0 c.legal_lists_are_orderly.ensures _ c.self.view_is c.args.worker c.in-Some.file (first_can _ _ _ c.self.view_is c.self.inside.marks refl c.self.inside.hands.items c.self.invariant.1 refl c.in-Some.file c.in-Some.ensures)) in omega (arith, w, c.self.invariant.0.hands_there, c.self.invariant.1.waiting.there))

pub draw-requires-clause-there : goal.draw-requires-clause-there
draw-requires-clause-there g c = (let w = (take_place _ _ _ (g.met.R.Rulebook.lawful c.self.inside.book.now) _ _ c.self.invariant.0 c.legal_lists_are_orderly.ensures _ c.self.view_is c.args.worker c.in-Some.file (first_can _ _ _ c.self.view_is c.self.inside.marks refl c.self.inside.hands.items c.self.invariant.1 refl c.in-Some.file c.in-Some.ensures)) in omega (arith, w, c.self.invariant.0.hands_there, c.self.invariant.1.waiting.there))

pub append-requires : goal.append-requires
append-requires g c = omega (arith, c.in_ok-make_room.ensures.ok)

pub set_hand-requires : goal.set_hand-requires
set_hand-requires g c = take_place _ _ _ (g.met.R.Rulebook.lawful c.self.inside.book.now) _ _ c.self.invariant.0 c.legal_lists_are_orderly.ensures _ c.self.view_is c.args.worker c.in-Some.file (first_can _ _ _ c.self.view_is c.self.inside.marks refl c.self.inside.hands.items c.self.invariant.1 refl c.in-Some.file c.in-Some.ensures)

pub swap_shelf-tables-requires : goal.swap_shelf-tables-requires
swap_shelf-tables-requires g c = take_shelf _ _ _ (g.met.R.Rulebook.lawful c.self.inside.book.now) _ _ c.self.invariant.0 c.legal_lists_are_orderly.ensures _ c.self.view_is c.args.worker c.in-Some.file (first_can _ _ _ c.self.view_is c.self.inside.marks refl c.self.inside.hands.items c.self.invariant.1 refl c.in-Some.file c.in-Some.ensures)

pub invariant_of-result : goal.invariant_of-result
invariant_of-result g c = new_ticket _ _ _ (g.met.R.Rulebook.lawful c.self.inside.book.now) _ _ c.self.invariant.0 c.legal_lists_are_orderly.ensures _ c.self.view_is c.args.worker c.in-Some.file (first_can _ _ _ c.self.view_is c.self.inside.marks refl c.self.inside.hands.items c.self.invariant.1 refl c.in-Some.file c.in-Some.ensures) c.into_list-items.result (subst (λ (z : List (Obl _)). TakesFrom (g.R.Rulebook.meaning c.self.inside.book.now) c.self.inside.marks.items c.in-Some.file z) (sym c.into_list-items.ensures) c.draw.ensures.takes) c.into_list.result c.swap_shelf-tables.result (c.into_list.ensures ∙ (c.draw.ensures.open ∙ ap (λ (z : List (Obl _)). map (λ o. (o, false)) z) (sym c.into_list-items.ensures))) c.swap_shelf-tables.ensures.before

pub invariant_of-self-2 : goal.invariant_of-self-2
invariant_of-self-2 g c = (
  take_keeps _ _ _ (g.met.R.Rulebook.lawful c.self.inside.book.now) _ _ c.self.invariant.0 c.legal_lists_are_orderly.ensures _ c.self.view_is c.args.worker c.in-Some.file (first_can _ _ _ c.self.view_is c.self.inside.marks refl c.self.inside.hands.items c.self.invariant.1 refl c.in-Some.file c.in-Some.ensures) c.into_list-items.result (subst (λ (z : List (Obl _)). TakesFrom (g.R.Rulebook.meaning c.self.inside.book.now) c.self.inside.marks.items c.in-Some.file z) (sym c.into_list-items.ensures) c.draw.ensures.takes) _ c.draw.ensures.marks c.set_hand.ensures refl (c.append.ensures.items ∙ ap (λ z. z ++ Take c.args.worker c.in-Some.file ∷ []) c.in_ok-make_room.ensures.items) (let few = drawn_room c.self.inside.marks.queues c.in-Some.file.0 (let w = (take_place _ _ _ (g.met.R.Rulebook.lawful c.self.inside.book.now) _ _ c.self.invariant.0 c.legal_lists_are_orderly.ensures _ c.self.view_is c.args.worker c.in-Some.file (first_can _ _ _ c.self.view_is c.self.inside.marks refl c.self.inside.hands.items c.self.invariant.1 refl c.in-Some.file c.in-Some.ensures)) in omega (arith, w, c.self.invariant.0.hands_there, c.self.invariant.1.waiting.there)) _ _ c.draw.ensures.count c.in_ok-count.ensures.count in let long = ap length c.into_list-items.ensures in omega (arith, few, long, c.in_ok-make_room.ensures.ok, c.append.ensures.room)) _ c.new.result c.new.ensures c.swap_shelf-tables.ensures.after,
  queued_taken _ _ c.self.invariant.0.same_book _ _ _ c.self.invariant.1 c.draw.ensures.waiting _ c.in-Some.file (record { worker = c.args.worker; items = c.into_list-items.result }) (take_place _ _ _ (g.met.R.Rulebook.lawful c.self.inside.book.now) _ _ c.self.invariant.0 c.legal_lists_are_orderly.ensures _ c.self.view_is c.args.worker c.in-Some.file (first_can _ _ _ c.self.view_is c.self.inside.marks refl c.self.inside.hands.items c.self.invariant.1 refl c.in-Some.file c.in-Some.ensures)) c.draw.ensures.holds c.set_hand.ensures,
  subst (λ (n : ℕ). Counts (HandAt c.set_hand.new.hands.items) n) (sym c.one_more-self-inside.ensures) (held_more c.self.inside.hands.items c.set_hand.new.hands.items c.in-Some.file _ c.self.invariant.2 (record { worker = c.args.worker; items = c.into_list-items.result }) (λ h. (first_can _ _ _ c.self.view_is c.self.inside.marks refl c.self.inside.hands.items c.self.invariant.1 refl c.in-Some.file c.in-Some.ensures).0 (subst (λ (z : LedgerView _ _ _). IsHeld z.state c.in-Some.file) c.self.view_is h)) (take_place _ _ _ (g.met.R.Rulebook.lawful c.self.inside.book.now) _ _ c.self.invariant.0 c.legal_lists_are_orderly.ensures _ c.self.view_is c.args.worker c.in-Some.file (first_can _ _ _ c.self.view_is c.self.inside.marks refl c.self.inside.hands.items c.self.invariant.1 refl c.in-Some.file c.in-Some.ensures)) c.set_hand.ensures),
  c.self.invariant.3,
)

pub returns-clause-ok : goal.returns-clause-ok
returns-clause-ok g c = (hands_out _ _ _ (g.met.R.Rulebook.lawful c.self.inside.book.now) _ _ c.self.invariant.0 c.legal_lists_are_orderly.ensures _ c.self.view_is c.args.worker c.in-Some.file (first_can _ _ _ c.self.view_is c.self.inside.marks refl c.self.inside.hands.items c.self.invariant.1 refl c.in-Some.file c.in-Some.ensures) c.into_list-items.result (subst (λ (z : List (Obl _)). TakesFrom (g.R.Rulebook.meaning c.self.inside.book.now) c.self.inside.marks.items c.in-Some.file z) (sym c.into_list-items.ensures) c.draw.ensures.takes) _ c.draw.ensures.marks c.set_hand.ensures refl (c.append.ensures.items ∙ ap (λ z. z ++ Take c.args.worker c.in-Some.file ∷ []) c.in_ok-make_room.ensures.items) (let few = drawn_room c.self.inside.marks.queues c.in-Some.file.0 (let w = (take_place _ _ _ (g.met.R.Rulebook.lawful c.self.inside.book.now) _ _ c.self.invariant.0 c.legal_lists_are_orderly.ensures _ c.self.view_is c.args.worker c.in-Some.file (first_can _ _ _ c.self.view_is c.self.inside.marks refl c.self.inside.hands.items c.self.invariant.1 refl c.in-Some.file c.in-Some.ensures)) in omega (arith, w, c.self.invariant.0.hands_there, c.self.invariant.1.waiting.there)) _ _ c.draw.ensures.count c.in_ok-count.ensures.count in let long = ap length c.into_list-items.ensures in omega (arith, few, long, c.in_ok-make_room.ensures.ok, c.append.ensures.room)) c.into_list.result c.swap_shelf-tables.result (c.into_list.ensures ∙ (c.draw.ensures.open ∙ ap (λ (z : List (Obl _)). map (λ o. (o, false)) z) (sym c.into_list-items.ensures))), tables_handed c.self.inside.shelves.items c.args.self.now (ap (λ (z : LedgerView _ _ _). z.tables) c.self.view_is) _ _ c.new.result c.swap_shelf-tables.ensures.before c.new.ensures c.swap_shelf-tables.ensures.after)

pub returns-in_err-make_room-clause-err : goal.returns-in_err-make_room-clause-err
returns-in_err-make_room-clause-err g c = on_err-always _ (same_view c.self.inside.marks.items c.self.inside.marks.items c.self.inside.hands.items c.self.inside.assumed.keys c.self.inside.assumed.keys c.self.inside.journal.items c.make_room.new.journal.items _ _ c.self.inside.shelves.items refl refl c.in_err-make_room.ensures.items c.in_err-make_room.ensures.err ∙ c.self.view_is)

pub one_more-self-inside-requires : goal.one_more-self-inside-requires
one_more-self-inside-requires g c =
    let more = held_more c.self.inside.hands.items c.set_hand.new.hands.items c.in-Some.file _ c.self.invariant.2 (record { worker = c.args.worker; items = c.into_list-items.result }) (λ h. (first_can _ _ _ c.self.view_is c.self.inside.marks refl c.self.inside.hands.items c.self.invariant.1 refl c.in-Some.file c.in-Some.ensures).0 (subst (λ (z : LedgerView _ _ _). IsHeld z.state c.in-Some.file) c.self.view_is h)) (take_place _ _ _ (g.met.R.Rulebook.lawful c.self.inside.book.now) _ _ c.self.invariant.0 c.legal_lists_are_orderly.ensures _ c.self.view_is c.args.worker c.in-Some.file (first_can _ _ _ c.self.view_is c.self.inside.marks refl c.self.inside.hands.items c.self.invariant.1 refl c.in-Some.file c.in-Some.ensures)) c.set_hand.ensures in
    let below = held_below c.set_hand.new.hands.items c.set_hand.new.hands.items c.in-Some.file _ more in
    let long = ap length c.set_hand.ensures ∙ length-set c.self.inside.hands.items c.in-Some.file.0 (Some (record { worker = c.args.worker; items = c.into_list-items.result })) in
    let files = ap (λ (z : Book _ _ _). z.files) c.self.invariant.0.same_book in
    omega (arith, below, long, files, c.self.invariant.0.hands_there, c.files.ensures)

pub draw-requires-clause-first : goal.draw-requires-clause-first
draw-requires-clause-first g c = c.in-Some.ensures

pub returns-in_default-clause-ok : goal.returns-in_default-clause-ok
returns-in_default-clause-ok g c =
    let law = subst (λ (z : Book _ _ _). IsBook g.R.Pred.PartialEq.eq z) c.self.invariant.0.same_book (g.met.R.Rulebook.lawful c.self.inside.book.now) in
    (refl, none_can _ _ _ c.self.view_is c.self.inside.marks refl c.self.inside.hands.items c.self.invariant.1 refl _ law (order_here _ _ _ _ c.self.invariant.0 c.legal_lists_are_orderly.ensures).functions_there c.in_default.ensures)
