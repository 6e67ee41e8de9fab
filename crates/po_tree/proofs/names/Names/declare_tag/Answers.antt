use Rattle.po_tree.proofs.Scopes.{declares_tag}
use Rattle.po_tree.proofs.names.Names.declare_tag.Goals as goal

pub returns : goal.returns
returns c =
    declares_tag _ _ _ _ _ _ _ _ _ c.self.view_is (λ h. absurd {A = ⊥} (cc (c.if-has.ensures.1 h))) c.in_ok-push.ensures.ok c.in_ok-share.ensures c.in_ok-insert.ensures.ok c.in_ok-share-2.ensures
