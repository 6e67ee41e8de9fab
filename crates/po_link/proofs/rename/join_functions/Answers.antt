use Rattle.std.proofs.Common.{◌≡◌, ◌∷◌, [], ◌++◌, map, length, sym, ap, ◌∙◌, append_assoc, arith}
use Rattle.std.proofs.lemmas.List.{map-append}
use Rattle.std.specs.Vec.Iter.{into_iter_items}
use Rattle.po_link.specs.Joined.{joined_function}
use Rattle.po_link.proofs.Owned.{taken_more}
use Rattle.po_link.proofs.rename.join_functions.Goals as goal

pub loop-function-preserved : goal.loop-function-preserved
loop-function-preserved c =
    let at = c.loop-function in
    let x = c.in-Some.function in
    let steps : into_iter_items at.function-iterator ≡ x ∷ into_iter_items c.next.new.self = c.in-Some.ensures.steps.0 in
    record {
      taken = taken_more at.yielded x _ _ _ at.invariant.taken steps;
      left = let was = at.invariant.left in let gone = c.in-Some.ensures.steps.1 in let short = ap length steps in omega arith;
      made = λ names h.
          c.in_ok-push.ensures.ok ∙ ap (λ z. z ++ c.in_ok-join_function.field-0 ∷ []) (at.invariant.made names h)
          ∙ append_assoc c.args.all.now _ _
          ∙ ap (λ n. c.args.all.now ++ (map (joined_function names c.args.file.0) at.yielded ++ n ∷ [])) (c.in_ok-join_function.ensures names h)
          ∙ ap (λ z. c.args.all.now ++ z) (sym (map-append (joined_function names c.args.file.0) at.yielded (x ∷ [])));
    }
