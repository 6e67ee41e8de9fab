use Rattle.std.proofs.Common.{◌≡◌, ◌∷◌, [], ◌++◌, map, length, sym, ap, ◌∙◌, arith}
use Rattle.std.proofs.lemmas.List.{map-append}
use Rattle.std.specs.Vec.Iter.{into_iter_items}
use Rattle.po_link.specs.Joined.{renamed_node}
use Rattle.po_link.proofs.Owned.{taken_more}
use Rattle.po_link.proofs.rename.rename_nodes.Goals as goal

pub loop-node-preserved : goal.loop-node-preserved
loop-node-preserved c =
    let at = c.loop-node in
    let x = c.in-Some.node in
    let steps : into_iter_items at.node-iterator ≡ x ∷ into_iter_items c.next.new.self = c.in-Some.ensures.steps.0 in
    record {
      taken = taken_more at.yielded x _ _ _ at.invariant.taken steps;
      left = let was = at.invariant.left in let gone = c.in-Some.ensures.steps.1 in let short = ap length steps in omega arith;
      made = λ names h.
          c.in_ok-push.ensures.ok ∙ ap (λ z. z ++ c.in_ok-rename_node.field-0 ∷ []) (at.invariant.made names h)
          ∙ ap (λ n. map (renamed_node names) at.yielded ++ n ∷ []) (c.in_ok-rename_node.ensures names h) ∙ sym (map-append (renamed_node names) at.yielded (x ∷ []));
    }
