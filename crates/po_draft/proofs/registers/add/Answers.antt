use Rattle.std.proofs.Common.{subst, sym}
use Rattle.po_draft.specs.Kinds.{AreKept}
use Rattle.po_draft.proofs.Kept.{kept_plain}
use Rattle.po_draft.proofs.registers.add.Goals as goal

pub returns-clause-kept : goal.returns-clause-kept
returns-clause-kept c = λ taken h. subst (λ z. AreKept z taken c.args.kinds.now.items) (sym c.in_ok-push.ensures.ok) (kept_plain _ taken _ c.args.reg (λ q. absurd {A = ⊥} (cc (c.if-is_temporary.ensures.1 q))) h)
