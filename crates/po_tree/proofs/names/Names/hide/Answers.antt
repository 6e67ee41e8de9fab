use Rattle.std.proofs.Common.{rules}
use Rattle.po_tree.proofs.Scopes.{hides}
use Rattle.po_tree.proofs.names.Names.hide.Goals as goal

pub returns-clause-ok : goal.returns-clause-ok
returns-clause-ok c =
    hides _ _ _ _ _ _ _ _ c.self.view_is c.self.invariant (c.has.ensures.0 (search rules)) c.in_ok-push.ensures.ok c.in_ok-share.ensures c.remove.ensures.items
