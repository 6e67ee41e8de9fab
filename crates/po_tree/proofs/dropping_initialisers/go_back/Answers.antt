use Rattle.std.proofs.Common.{◌≡◌, [], ◌∷◌, ◌++◌, ap, arith, rules}
use Rattle.std.specs.Prelude.{Some, None}
use Rattle.po_tree.specs.DroppingInitialisers.{total_weight}
use Rattle.po_tree.proofs.InitSteps.{with_value, with_braces, lighter}
use Rattle.po_tree.proofs.dropping_initialisers.go_back.Goals as goal

pub returns-in-Value : goal.returns-in-Value
returns-in-Value c =
    let all : c.args.way.inits ≡ c.pop.new.self.items ++ c.in-Some.init ∷ [] = search rules in
    let before = with_value _ _ _ c.in-Value.x all c.in-Value.ensures in
    let behind = ap total_weight c.from_vec-in-Value.ensures in
    lighter None (Some c.from_vec-in-Value.result) (Some c.args.way) None (omega (arith, before, behind))

pub returns-in-Braces : goal.returns-in-Braces
returns-in-Braces c =
    let all : c.args.way.inits ≡ c.pop.new.self.items ++ c.in-Some.init ∷ [] = search rules in
    let before = with_braces _ _ _ c.in-Braces.further c.in-Braces.linked all c.in-Braces.ensures in
    let behind = ap total_weight c.from_vec-in-Braces.ensures in
    lighter None (Some c.from_vec-in-Braces.result) (Some c.args.way) (Some (record { inits = c.in-Braces.further; linked = c.in-Braces.linked })) (omega (arith, before, behind))
