use Rattle.std.proofs.Common.{[], ap, ◌∙◌, subst}
use Rattle.std.specs.Prelude.{Contains}
use Rattle.po_tree.specs.NameSets.{Adds}
use Rattle.po_tree.specs.InForce.{InForce, outer_of}
use Rattle.po_tree.proofs.Behind.{behind_copy}
use Rattle.po_tree.proofs.names.Names.after.Goals as goal

pub returns : goal.returns
returns c =
    let h = c.in_ok-declare.ensures in
    let types = subst (λ (v : InForce). Adds (Contains v.typedefs) [] c.in_ok-copied.field-0) c.self.view_is c.in_ok-copied.ensures.same in
    let tags = subst (λ (v : InForce). Adds (Contains v.tags) [] c.in_ok-copied-2.field-0) c.self.view_is c.in_ok-copied-2.ensures.same in
    (behind_copy _ _ _ _ types tags h.0, h.1 ∙ ap (λ v. outer_of v c.in_ok-copied.field-0 c.in_ok-copied-2.field-0) c.new.ensures)
