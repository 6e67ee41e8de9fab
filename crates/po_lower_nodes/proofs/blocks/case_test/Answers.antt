use Rattle.std.proofs.Common.{◌∷◌, [], FitsSigned, subst, rules, length}
use mir.Syntax.{w128}
use Rattle.std.proofs.lemmas.Int.{to_z-of_z}
use Rattle.po_lowering.specs.Blocks.{case_tests}
use Rattle.po_lower_nodes.specs.Groups.{AddsRow}
use Rattle.po_lower_nodes.proofs.Groups.{adds_test}
use Rattle.po_lower_nodes.proofs.blocks.case_test.Goals as goal

pub returns : goal.returns
returns c =
    let n = c.args.case.now.0 in
    let fits : FitsSigned w128 n = search rules in
    subst (λ z. AddsRow c.args.d.now c.branch-d.new.d (λ g. case_tests (length c.args.d.now.nodes) c.args.ty c.args.v c.args.spot.now ((z, g c.args.case.now.1.0) ∷ []))) (to_z-of_z w128 n fits)
    (adds_test c.args.d.now c.branch-d.new.d c.args.ty c.args.v c.args.spot.now _ c.args.case.now.1 c.in_ok-at.at.0 c.in_ok-at.ensures.0 c.in_ok-at.ensures.1 c.in_ok-branch.ensures)
