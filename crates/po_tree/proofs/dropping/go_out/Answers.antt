use Rattle.std.proofs.Common.{◌≡◌, [], ◌∷◌, ◌++◌, ap, refl, rules}
use Rattle.po_tree.specs.declared.expression.Member.{out-roll-Member}
use Rattle.po_tree.proofs.Steps.{past_member, past_declarator}
use Rattle.po_tree.proofs.dropping.go_out.Goals as goal

pub returns-in-None : goal.returns-in-None
returns-in-None c m p none d =
    let empty : c.from_vec.result ≡ [] = search rules in past_member _ _ _ m _ _ _ _ refl c.from_vec-in-None.ensures p none empty

pub returns-in-Some : goal.returns-in-Some
returns-in-Some c m p none d =
    let all : c.args.declarators ≡ c.pop.new.self.items ++ c.in-Some.declarator ∷ [] = search rules in
    let made = out-roll-Member (record { specs = c.args.specs; declarators = c.from_vec-declarators.result }) in
    past_declarator _ _ _ m _ _ _ _ _ _ _ _ _ _ refl p d all c.put_back-here.ensures (ap (λ v. v.specs) made) (ap (λ v. v.declarators) made) c.from_vec-declarators.ensures
    c.parts_of-coming.ensures
