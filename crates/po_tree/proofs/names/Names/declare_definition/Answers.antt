use Rattle.po_tree.specs.Scope.{head_of}
use Rattle.po_tree.proofs.Results.{if_ok-map}
use Rattle.po_tree.proofs.Behind.{behind_declaration, head_word}
use Rattle.po_tree.proofs.names.Names.declare_definition.Goals as goal

pub returns : goal.returns
returns c =
    if_ok-map c.declare_all.result (λ u h. behind_declaration _ _ (head_of c.args.g.now) _ (head_word c.args.g.now.declarator _ (rw c.new-words.ensures at c.in_ok-add_tag.ensures))
    (rw c.as_slice.ensures at h)) c.declare_all.ensures
