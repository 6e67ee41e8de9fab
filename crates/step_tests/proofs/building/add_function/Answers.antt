use Rattle.std.proofs.Common.{All, List, length, refl, sym, subst}
use Rattle.std.proofs.lemmas.List.Elements.{All-push}
use Rattle.po_ir.specs.declared.graph.Node.{Node}
use Rattle.step_tests.specs.Bare.{AreMarks, IsBare, IsBareFunction}
use Rattle.step_tests.proofs.Start.{single}
use Rattle.step_tests.proofs.Whole.{bare}
use Rattle.step_tests.proofs.building.add_function.Goals as goal

pub returns : goal.returns
returns c = λ all. subst (All (IsBareFunction c.args.count)) (sym c.in_ok-push-2.ensures.ok) (All-push (IsBareFunction c.args.count) _ _ all
    (bare c.args.count _ c.in_ok-regs.ensures (single _ _ _ c.in_ok-push.ensures.ok c.new-slots.ensures) refl c.in_ok-text.ensures c.args.nodes refl
    (subst (λ (nodes : List Node). All (λ (n : Node). IsBare c.args.count (length nodes) n.instr) nodes) c.as_slice.ensures (c.if-not-are_bare.ensures refl)) (c.if-not-valid.ensures.0 refl).1
    c.args.marks.now (subst (AreMarks c.args.marks.now) c.as_slice-2.ensures (c.if-not-are_marks.ensures refl))))
