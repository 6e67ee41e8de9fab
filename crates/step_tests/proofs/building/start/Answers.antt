use Rattle.std.proofs.Common.{arith, rules, ap, refl, subst, ◌<◌, ◌∙◌, ℤ, [], ◌∷◌, length, FitsSigned}
use Rattle.po_memory.specs.declared.value.Value.TheVariants.{Number}
use Rattle.std.specs.Int.{w128}
use Rattle.std.proofs.lemmas.Int.{to_z-of_z}
use Rattle.po_arith.specs.Types.{IsOfType}
use Rattle.step_tests.specs.Bare.{int}
use Rattle.step_tests.proofs.Start.{alone, behind, first_values, single, starts}
use Rattle.step_tests.proofs.building.start.Goals as goal

pub returns : goal.returns
returns c =
    let inside : c.args.n < length c.args.p.now.functions = omega arith in
    let fits : FitsSigned w128 c.args.argument = search rules in
    let same = to_z-of_z w128 c.args.argument fits in
    let of : IsOfType int c.args.argument = subst (IsOfType int) same (c.if-not-is_small.ensures refl) in
    starts c.args.p.now c.requires c.args.n inside c.args.argument of _
    (alone c.args.n c.args.argument _ _ _ _ _ c.in_ok-push-6.ensures.ok c.new-frames.ensures
    (behind _ _ _ _ c.in_ok-push-3.ensures.ok (behind _ _ _ _ c.in_ok-push-2.ensures.ok (single _ _ _ c.in_ok-push.ensures.ok c.new-regs.ensures)) ∙ ap (λ (z : ℤ). first_values z) same)
    (single _ _ _ c.in_ok-push-4.ensures.ok c.new-slots.ensures)
    (single _ _ _ c.in_ok-push-5.ensures.ok c.new-args.ensures ∙ ap (λ (z : ℤ). Number z ∷ []) same)) c.new-blocks.ensures
