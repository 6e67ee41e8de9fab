use Rattle.std.proofs.Common.{◌∙◌, ◌++◌, ◌∷◌, [], ap, refl, arith}
use Rattle.po_core.specs.declared.event.Event.TheVariants.{Post}
use Rattle.po_marks.specs.Waiting.{Marking}
use Rattle.po_ledger.proofs.Assuming.{supports_are}
use Rattle.po_lists.proofs.Results.{on_err-always}
use Rattle.po_ledger.proofs.Kept.{order_here}
use Rattle.po_ledger.proofs.Queued.{queued_kept, queued_view, waits_there}
use Rattle.po_ledger.proofs.Posted.{callers_there, kept_view, post_there, post_keeps, posts_item, same_view}
use Rattle.po_ledger.proofs.ledger.Ledger.post.Goals as goal

pub returns-in_err-make_room-clause-err : goal.returns-in_err-make_room-clause-err
returns-in_err-make_room-clause-err g c = on_err-always _ (same_view c.self.inside.marks.items c.self.inside.marks.items c.self.inside.hands.items c.self.inside.assumed.keys c.self.inside.assumed.keys c.self.inside.journal.items c.make_room.new.journal.items _ _ c.self.inside.shelves.items refl refl c.in_err-make_room.ensures.items c.in_err-make_room.ensures.err ∙ c.self.view_is)

pub assume-requires-clause-there : goal.assume-requires-clause-there
assume-requires-clause-there g c = post_there _ _ _ _ c.self.invariant.0 c.legal_lists_are_orderly.ensures c.args.t.now _ c.self.view_is c.args.k c.args.q.now c.requires.can c.item-obl.result.now c.item-obl.ensures

pub assume-requires-clause-callers : goal.assume-requires-clause-callers
assume-requires-clause-callers g c = callers_there _ _ _ _ c.self.invariant.0 c.legal_lists_are_orderly.ensures c.args.t.now _ c.self.view_is c.args.k c.args.q.now c.requires.can c.item-obl.result.now c.item-obl.ensures _ (g.met.R.Rulebook.lawful c.self.inside.book.now) _ refl

pub assume-requires-clause-waiting : goal.assume-requires-clause-waiting
assume-requires-clause-waiting g c = waits_there _ _ c.self.invariant.0.same_book _ c.self.invariant.1.waiting

pub assume-requires-clause-apart : goal.assume-requires-clause-apart
assume-requires-clause-apart g c = c.self.invariant.0.apart

pub assume-requires-clause-supported : goal.assume-requires-clause-supported
assume-requires-clause-supported g c = λ assumed o h. (order_here _ _ _ _ c.self.invariant.0 c.legal_lists_are_orderly.ensures).supports_known _ c.args.q.now o assumed (supports_are _ _ c.self.invariant.0.same_book _ c.args.q.now o h)

pub assume-requires-clause-sites : goal.assume-requires-clause-sites
assume-requires-clause-sites g c = c.self.invariant.3

pub append-requires : goal.append-requires
append-requires g c = omega (arith, c.in_ok-make_room.ensures.ok)

pub take_room-requires : goal.take_room-requires
take_room-requires g c = omega (arith, c.in_ok-make_room.ensures.ok)

pub invariant_of-self-in-Ok : goal.invariant_of-self-in-Ok
invariant_of-self-in-Ok g c = (
  post_keeps _ _ _ _ c.self.invariant.0 c.legal_lists_are_orderly.ensures c.args.t.now _ c.self.view_is c.args.k c.args.q.now c.requires.can c.item-obl.result.now c.item-obl.ensures _ c.file-file.result c.file-file.ensures _ refl c.in-Ok.ensures.marks c.in-Ok.ensures.assumed refl (c.append.ensures.items ∙ ap (λ z. z ++ Post c.file-file.result c.item-obl.result.now c.args.q.now ∷ []) c.in_ok-make_room.ensures.items) (omega (arith, c.in_ok-make_room.ensures.ok, c.append.ensures.room)),
  queued_kept _ _ c.self.invariant.0.same_book _ _ _ c.self.invariant.1 c.assume.ensures.waiting c.assume.ensures.holds,
  c.self.invariant.2,
  c.assume.ensures.sites,
)

pub returns-in-Ok-clause-ok : goal.returns-in-Ok-clause-ok
returns-in-Ok-clause-ok g c = posts_item _ _ _ _ c.self.invariant.0 c.legal_lists_are_orderly.ensures c.args.t.now _ c.self.view_is c.args.k c.args.q.now c.requires.can c.item-obl.result.now c.item-obl.ensures _ c.file-file.result c.file-file.ensures _ refl c.in-Ok.ensures.marks c.in-Ok.ensures.assumed refl (c.append.ensures.items ∙ ap (λ z. z ++ Post c.file-file.result c.item-obl.result.now c.args.q.now ∷ []) c.in_ok-make_room.ensures.items)

pub invariant_of-self-in-Err : goal.invariant_of-self-in-Err
invariant_of-self-in-Err g c = (
  kept_view _ _ _ _ _ (same_view c.self.inside.marks.items c.assume.new.marks.items c.self.inside.hands.items c.self.inside.assumed.keys c.assume.new.assumed.keys c.self.inside.journal.items c.take_room.new.journal.items _ _ c.self.inside.shelves.items (ap (λ (z : Marking _ _). z.items) c.in-Err.ensures.same_marks) c.in-Err.ensures.same_assumed (c.take_room.ensures.items ∙ c.in_ok-make_room.ensures.items) (omega (arith, c.take_room.ensures.room, c.in_ok-make_room.ensures.ok))) c.self.invariant.0,
  queued_view g.J.Naming.book (g.R.Rulebook.meaning c.self.inside.book.now) c.self.invariant.0.same_book _ _ _ c.self.invariant.1 c.in-Err.ensures.same_marks,
  c.self.invariant.2,
  c.assume.ensures.sites,
)

pub returns-in-Err-clause-err : goal.returns-in-Err-clause-err
returns-in-Err-clause-err g c = same_view c.self.inside.marks.items c.assume.new.marks.items c.self.inside.hands.items c.self.inside.assumed.keys c.assume.new.assumed.keys c.self.inside.journal.items c.take_room.new.journal.items _ _ c.self.inside.shelves.items (ap (λ (z : Marking _ _). z.items) c.in-Err.ensures.same_marks) c.in-Err.ensures.same_assumed (c.take_room.ensures.items ∙ c.in_ok-make_room.ensures.items) (omega (arith, c.take_room.ensures.room, c.in_ok-make_room.ensures.ok)) ∙ c.self.view_is
