use Rattle.std.proofs.Common.{◌≡◌, arith, length, subst, sym}
use Rattle.po_draft.specs.Waiting.{KeepsWaiting, IsWaiting, AreWaiting}
use Rattle.po_draft.proofs.Waits.{waiting_kept, waiting_pushed}
use Rattle.po_draft.proofs.nodes.Nodes.push.Goals as goal

pub invariant_of-self : goal.invariant_of-self
invariant_of-self c =
    let size : c.len.result ≡ length c.self.inside.nodes.items = omega (arith, c.len.ensures, c.self.inside.nodes.ok) in
    waiting_kept _ _ _ c.self.invariant (subst (λ n. KeepsWaiting n c.self.inside.waiting.items c.keep.new.waiting.items) size c.keep.ensures.keeps)

pub invariant_of-self-in_err-push : goal.invariant_of-self-in_err-push
invariant_of-self-in_err-push c =
    let size : c.len.result ≡ length c.self.inside.nodes.items = omega (arith, c.len.ensures, c.self.inside.nodes.ok) in
    subst (λ ns. AreWaiting ns c.keep.new.waiting.items) (sym c.in_err-push.ensures.err)
    (waiting_kept _ _ _ c.self.invariant (subst (λ n. KeepsWaiting n c.self.inside.waiting.items c.keep.new.waiting.items) size c.keep.ensures.keeps))

pub invariant_of-self-2 : goal.invariant_of-self-2
invariant_of-self-2 c =
    let size : c.len.result ≡ length c.self.inside.nodes.items = omega (arith, c.len.ensures, c.self.inside.nodes.ok) in
    subst (λ ns. AreWaiting ns c.keep.new.waiting.items) (sym c.in_ok-push.ensures.ok)
    (waiting_pushed c.self.inside.nodes.items c.args.node _ (waiting_kept _ _ _ c.self.invariant (subst (λ n. KeepsWaiting n c.self.inside.waiting.items c.keep.new.waiting.items) size c.keep.ensures.keeps))
    (subst (λ n. IsWaiting n c.args.node.instr c.keep.new.waiting.items) size c.in_ok-keep.ensures.kept))
