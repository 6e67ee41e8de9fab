use Rattle.std.proofs.Common.{◌≡◌, [], ◌∷◌, ◌++◌, ap, sym, ◌∙◌, subst, rules}
use Rattle.std.specs.Prelude.{Some, None}
use Rattle.po_tree.specs.declared.expression.Param.{out-roll-Param}
use Rattle.po_tree.specs.Dropping.{Goes}
use Rattle.po_tree.proofs.Steps.{past_param_specifier, into_param_body}
use Rattle.po_tree.proofs.dropping.go_into.Goals as goal

pub returns-in-None : goal.returns-in-None
returns-in-None c =
    let a = c.in-Last.ensures in
    let empty : c.from_vec.result ≡ [] = search rules in
    let none : c.in-Last.specs ≡ [] = search rules in
    subst (λ v. Goes (record { here = None; way = None; coming = None; waiting = Some v }) c.go_past.result) (sym a.1.1) (c.go_past.ensures a.1.0 (a.1.2 ∙ none ∙ sym empty) empty a.1.3)

pub returns-in-Body : goal.returns-in-Body
returns-in-Body c =
    let a = c.in-Last.ensures in
    let all : c.in-Last.specs ≡ c.pop.new.self.items ++ c.in-Some.spec ∷ [] = search rules in
    let made = out-roll-Param (record { specs = c.from_vec-specs.result; declarator = c.in-Last.declarator }) in
    into_param_body _ _ _ a.1.0 _ _ _ _ _ c.in-Body._tag _ a.1.1 a.1.2 all a.1.3 c.put_back-waiting.ensures (ap (λ v. v.specs) made ∙ c.from_vec-specs.ensures) (ap (λ v. v.declarator) made)
    c.in-Body.ensures

pub returns-in-Other : goal.returns-in-Other
returns-in-Other c =
    let a = c.in-Last.ensures in
    let all : c.in-Last.specs ≡ c.pop.new.self.items ++ c.in-Some.spec ∷ [] = search rules in
    let made = out-roll-Param (record { specs = c.from_vec-specs.result; declarator = c.in-Last.declarator }) in
    past_param_specifier _ _ _ a.1.0 _ _ _ _ _ _ a.1.1 a.1.2 all a.1.3 c.put_back-waiting.ensures (ap (λ v. v.specs) made ∙ c.from_vec-specs.ensures) (ap (λ v. v.declarator) made)
    c.in-Other.ensures.0 c.in-Other.ensures.1
