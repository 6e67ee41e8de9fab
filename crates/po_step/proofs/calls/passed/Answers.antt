use Rattle.std.specs.Prelude.{◌+◌, ◌≡◌, length, List}
use Rattle.std.proofs.Common.{arith, subst, sym}
use Rattle.po_memory.specs.declared.value.Value.{Value}
use Rattle.po_step.specs.Passing.{ArePassedUpTo}
use Rattle.po_step.proofs.Passed.{passed_next, passed_of, passed_there, types_few}
use Rattle.po_step.proofs.calls.passed.Goals as goal

pub unreachable-requires : goal.unreachable-requires
unreachable-requires c = passed_there c.args.frame.now c.args.types.now c.args.args.now c.requires.0 c.requires.1 c.loop-place.place _ c.loop-place-test.true c.in-None.ensures

pub loop-place-preserved : goal.loop-place-preserved
loop-place-preserved c =
    subst (λ (list : List Value). ArePassedUpTo c.args.frame.now c.args.types.now c.args.args.now (c.loop-place.place + 1) list) (sym c.in_ok-push-in-Some.ensures.ok)
    (passed_next c.args.frame.now c.args.types.now c.args.args.now c.loop-place.place c.loop-place.values _ c.in-Some.v c.loop-place.invariant c.loop-place-test.true c.in-Some.ensures)

pub returns : goal.returns
returns c =
    let size = c.loop-place.invariant.count in
    let end = c.loop-place-test.false in
    let most = c.loop-place.auto.place-end in
    let count : length c.loop-place.values ≡ length c.args.args.now = omega (arith, size, end, most) in
    passed_of c.args.frame.now c.args.types.now c.args.args.now c.loop-place.values (types_few c.args.frame.now c.args.types.now c.args.args.now c.requires.0 c.requires.1) count c.loop-place.invariant.each
