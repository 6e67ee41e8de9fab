use Rattle.std.proofs.Common.{◌∙◌, ◌++◌, ◌∷◌, [], ap, refl, arith, length}
use Rattle.po_core.specs.declared.event.Event.TheVariants.{Post}
use Rattle.po_ledger.proofs.Posted.{post_there, post_keeps, posts_item, cut_back, same_view, kept_view}
use Rattle.ledger_tests.proofs.ledger.ListLedger.post.Goals as goal

pub call_sites-requires : goal.call_sites-requires
call_sites-requires g c = post_there _ _ _ _ c.self.invariant c.legal_lists_are_orderly.ensures c.args.t.now _ c.self.view_is c.args.k c.args.q.now c.requires.can c.item-obl.result.now c.item-obl.ensures

pub append-requires : goal.append-requires
append-requires g c = omega (arith, c.in-Ok.ensures.room)

pub invariant_of-self : goal.invariant_of-self
invariant_of-self g c = post_keeps _ _ _ _ c.self.invariant c.legal_lists_are_orderly.ensures c.args.t.now _ c.self.view_is c.args.k c.args.q.now c.requires.can c.item-obl.result.now c.item-obl.ensures _ c.file-file.result c.file-file.ensures c.as_slice.result.now (c.as_slice.ensures ∙ c.in_ok-sites.ensures) c.in-Ok.ensures.marks c.in-Ok.ensures.assumed refl (c.append.ensures.items ∙ ap (λ z. z ++ Post c.file-file.result c.item-obl.result.now c.args.q.now ∷ []) c.in-Ok.ensures.journal) (omega (arith, c.in-Ok.ensures.room, c.append.ensures.room))

pub returns-in-Ok-clause-ok : goal.returns-in-Ok-clause-ok
returns-in-Ok-clause-ok g c = posts_item _ _ _ _ c.self.invariant c.legal_lists_are_orderly.ensures c.args.t.now _ c.self.view_is c.args.k c.args.q.now c.requires.can c.item-obl.result.now c.item-obl.ensures _ c.file-file.result c.file-file.ensures c.as_slice.result.now (c.as_slice.ensures ∙ c.in_ok-sites.ensures) c.in-Ok.ensures.marks c.in-Ok.ensures.assumed refl (c.append.ensures.items ∙ ap (λ z. z ++ Post c.file-file.result c.item-obl.result.now c.args.q.now ∷ []) c.in-Ok.ensures.journal)

pub invariant_of-self-in-Err : goal.invariant_of-self-in-Err
invariant_of-self-in-Err g c = kept_view _ _ _ _ _ (same_view c.self.inside.marks.items c.truncate.new.self.items c.self.inside.hands.items c.self.inside.assumed.items c.extend.new.assumed.items c.self.inside.journal.items c.extend.new.journal.items _ _ _ (cut_back c.self.inside.marks.items c.extend.new.marks.items c.truncate.new.self.items _ (ap length c.as_slice-known.ensures.value) c.in-Err.ensures.marks_front c.truncate.ensures.items) c.in-Err.ensures.nothing_assumed c.in-Err.ensures.journal c.in-Err.ensures.no_room) c.self.invariant

pub returns-clause-err : goal.returns-clause-err
returns-clause-err g c = same_view c.self.inside.marks.items c.truncate.new.self.items c.self.inside.hands.items c.self.inside.assumed.items c.extend.new.assumed.items c.self.inside.journal.items c.extend.new.journal.items _ _ _ (cut_back c.self.inside.marks.items c.extend.new.marks.items c.truncate.new.self.items _ (ap length c.as_slice-known.ensures.value) c.in-Err.ensures.marks_front c.truncate.ensures.items) c.in-Err.ensures.nothing_assumed c.in-Err.ensures.journal c.in-Err.ensures.no_room ∙ c.self.view_is
