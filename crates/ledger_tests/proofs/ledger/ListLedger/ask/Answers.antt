use Rattle.std.proofs.Common.{◌∙◌, ap, refl, arith, ◌++◌, ◌∷◌, []}
use Rattle.po_core.specs.declared.event.Event.TheVariants.{Ask}
use Rattle.po_ledger.proofs.Kept.{ask_does, ask_kept, does_seen, legal_seen}
use Rattle.ledger_tests.proofs.ledger.ListLedger.ask.Goals as goal

pub append-requires : goal.append-requires
append-requires g c = omega (arith, c.in_ok-make_room.ensures.ok)

pub invariant_of-self-2 : goal.invariant_of-self-2
invariant_of-self-2 g c =
    let b = g.J.Naming.book in
    let asked = Ask c.args.worker c.args.done in
    let grows = c.append.ensures.items ∙ ap (λ z. z ++ asked ∷ []) c.in_ok-make_room.ensures.items in
    ask_kept b _ _ _ _ c.self.invariant c.args.worker c.args.done (ask_does b _ _ _ _ c.self.invariant c.args.worker c.args.done (legal_seen b asked _ _ c.self.view_is c.requires) refl grows) refl (omega (arith, c.append.ensures.room, c.in_ok-make_room.ensures.ok))

pub returns-clause-ok : goal.returns-clause-ok
returns-clause-ok g c =
    let b = g.J.Naming.book in
    let asked = Ask c.args.worker c.args.done in
    let grows = c.append.ensures.items ∙ ap (λ z. z ++ asked ∷ []) c.in_ok-make_room.ensures.items in
    does_seen b asked _ _ _ c.self.view_is (ask_does b _ _ _ _ c.self.invariant c.args.worker c.args.done (legal_seen b asked _ _ c.self.view_is c.requires) refl grows)
