use Rattle.po_tree.proofs.Results.{if_ok-map}
use Rattle.po_tree.proofs.Behind.{behind_words}
use Rattle.po_tree.proofs.names.declare_all.Goals as goal

pub returns : goal.returns
returns c =
    if_ok-map c.declare_tags.result (λ u tagged. behind_words c.args.specs.now c.args.words.now c.gather.new.found c.is_typedef.result _ _ _ _
    (rw (c.new.ensures, c.new-2.ensures) at c.in_ok-gather.ensures) c.in_ok-hide_all.ensures c.is_typedef.ensures c.in_ok-declare_words.ensures tagged) c.declare_tags.ensures
