use Rattle.std.proofs.Common.{◌≡◌, ◌∷◌, ◌++◌, [], length, sym, ap, ◌∙◌, arith, append_assoc}
use Rattle.std.specs.Vec.Iter.{into_iter_items}
use Rattle.po_fun_heads.proofs.Hiding.{parameters_hidden}
use Rattle.po_fun_heads.proofs.scopes.hide_parameters.Goals as goal

pub loop-param-preserved : goal.loop-param-preserved
loop-param-preserved c =
    let at = c.loop-param in
    let x = c.in-Some.param in
    let others = into_iter_items c.next.new.self in
    let steps : into_iter_items at.param-iterator ≡ x ∷ others = c.in-Some.ensures.steps.0 in
    record {
      taken = append_assoc at.yielded (x ∷ []) others ∙ ap (λ l. at.yielded ++ l) (sym steps) ∙ at.invariant.taken;
      left = let was = at.invariant.left in let gone = c.in-Some.ensures.steps.1 in let short = ap length steps in omega arith;
      same = c.in_ok-push.ensures.ok ∙ ap (λ l. l ++ c.in_ok-hide_parameter.field-0 ∷ []) at.invariant.same ∙ ap (λ y. at.yielded ++ y ∷ []) c.in_ok-hide_parameter.ensures.same;
      hides = parameters_hidden at.yielded x at.invariant.hides c.in_ok-hide_parameter.ensures.hides;
    }
