use Rattle.std.proofs.Common.{◌∙◌, ◌++◌, ◌∷◌, [], ap, sym, subst}
use Rattle.po_lower_names.specs.Indexed.{IsIndexed}
use Rattle.po_lower_names.proofs.Index.{popped, snoc_front, snoc_none}
use Rattle.po_lower_names.proofs.scope.Scope.add.Goals as goal

pub invariant_of-self-in-Ok : goal.invariant_of-self-in-Ok
invariant_of-self-in-Ok c =
    let pushed = c.in_ok-push.ensures.ok ∙ ap (λ name. c.self.inside.entries ++ (name, c.args.variable) ∷ []) c.in_ok-share.ensures in
    subst (λ es. IsIndexed es c.keep.new.numbers c.keep.new.kept.items) (sym pushed) (c.in-Ok.ensures.ok _ c.self.invariant)

pub invariant_of-self-in-Err : goal.invariant_of-self-in-Err
invariant_of-self-in-Err c =
    let last = popped _ _ _ c.pop.ensures (λ q. snoc_none _ _ (sym c.in_ok-push.ensures.ok ∙ q)) in
    let same = snoc_front _ _ _ _ (sym c.in_ok-push.ensures.ok ∙ last.1) in
    subst (λ es. IsIndexed es c.keep.new.numbers c.keep.new.kept.items) same (c.in-Err.ensures.err _ c.self.invariant)
