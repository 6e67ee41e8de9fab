use Rattle.std.proofs.Common.{ap, sym, ◌∙◌, subst}
use Rattle.std.specs.Prelude.{Some, None}
use Rattle.po_tree.specs.declared.expression.Member.{out-roll-Member}
use Rattle.po_tree.specs.Dropping.{Passes}
use Rattle.po_tree.proofs.Steps.{passes_back, back_to, back_past}
use Rattle.po_tree.proofs.dropping.go_back.Goals as goal

pub returns-in-Bare : goal.returns-in-Bare
returns-in-Bare c =
    let a = c.in-Bare.ensures in
    passes_back _ _ _ (subst (λ v. Passes (record { here = Some v; way = None; coming = None; waiting = c.args.waiting }) c.go_out.result) (sym a.2.1) (c.go_out.ensures a.2.0 (a.2.2 ∙ sym a.1) a.1 a.2.3))

pub returns-in-Body : goal.returns-in-Body
returns-in-Body c =
    let a = c.in-Last.ensures in
    let made = out-roll-Member (record { specs = c.from_vec-specs.result; declarators = c.in-Last.declarators }) in
    back_to _ _ _ _ a.2.0 _ _ _ _ c.in-Body._tag _ a.2.1 a.2.2 a.2.3 c.put_back-here.ensures (ap (λ v. v.specs) made ∙ c.from_vec-specs.ensures) (ap (λ v. v.declarators) made) c.in-Body.ensures

pub returns-in-Other : goal.returns-in-Other
returns-in-Other c =
    let a = c.in-Last.ensures in
    let made = out-roll-Member (record { specs = c.from_vec-specs.result; declarators = c.in-Last.declarators }) in
    back_past _ _ _ a.2.0 _ _ _ _ _ _ a.2.1 a.2.2 a.2.3 c.put_back-here.ensures (ap (λ v. v.specs) made ∙ c.from_vec-specs.ensures) (ap (λ v. v.declarators) made)
    c.in-Other.ensures.0 c.in-Other.ensures.1
