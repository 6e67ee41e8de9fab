use Rattle.po_tree.proofs.Results.{if_ok-map}
use Rattle.po_tree.proofs.Behind.{behind_declaration}
use Rattle.po_tree.proofs.names.Names.declare.Goals as goal

pub returns : goal.returns
returns c =
    if_ok-map c.declare_all.result (λ u h. behind_declaration _ _ c.args.d.now _ (rw c.as_slice.ensures at c.in_ok-words.ensures) (rw c.as_slice-2.ensures at h)) c.declare_all.ensures
