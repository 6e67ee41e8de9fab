use Rattle.std.proofs.Common.{◌≡◌, [], ◌∷◌, ◌++◌, ap, arith, rules}
use Rattle.std.specs.Prelude.{Some}
use Rattle.po_tree.specs.DroppingInitialisers.{total_weight}
use Rattle.po_tree.proofs.InitSteps.{with_value, with_braces, lighter, nearer}
use Rattle.po_tree.proofs.dropping_initialisers.go_on.Goals as goal

pub returns-in-Value : goal.returns-in-Value
returns-in-Value c =
    let all : c.args.here ≡ c.pop.new.self.items ++ c.in-Some.init ∷ [] = search rules in
    let before = with_value _ _ _ c.in-Value.x all c.in-Value.ensures in
    let behind = ap total_weight c.from_vec-in-Value.ensures in
    lighter (Some c.args.here) (Some c.from_vec-in-Value.result) c.args.way c.args.way (omega (arith, before, behind))

pub returns-in-Braces : goal.returns-in-Braces
returns-in-Braces c =
    let all : c.args.here ≡ c.pop.new.self.items ++ c.in-Some.init ∷ [] = search rules in
    let before = with_braces _ _ _ c.in-Braces.inside c.in-Braces.field-1 all c.in-Braces.ensures in
    let behind = c.way_back.ensures in
    nearer (Some c.args.here) (Some c.in-Braces.inside) c.args.way (Some c.way_back.result) (omega (arith, before, behind)) (omega (arith, before))
