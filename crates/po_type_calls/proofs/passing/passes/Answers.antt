use Rattle.std.proofs.Common.{arith}
use Rattle.po_type_calls.proofs.Passed.{begins, other_arguments, other_values, passed_on, stopped, ended}
use Rattle.po_type_calls.proofs.passing.passes.Goals as goal

pub returns-then-xs-ts : goal.returns-then-xs-ts
returns-then-xs-ts c = other_arguments c.args.context.now c.args.xs.now c.args.vs.now c.args.ts.now (λ e. omega (arith, c.if-xs-ts.true, e))

pub returns-then-vs-ts : goal.returns-then-vs-ts
returns-then-vs-ts c = other_values c.args.context.now c.args.xs.now c.args.vs.now c.args.ts.now (λ e. omega (arith, c.if-vs-ts.true, e))

pub loop-i-init : goal.loop-i-init
loop-i-init c = begins c.args.context.now c.args.xs.now c.args.vs.now c.args.ts.now

pub returns-then-not-branch : goal.returns-then-not-branch
returns-then-not-branch c =
    let other = rw c.if-not-branch.true at c.in_ok-assigns.ensures in
    stopped c.args.context.now c.args.xs.now c.args.vs.now c.args.ts.now c.loop-i.i c.index-xs-i.result c.index-vs-i.result c.index-ts-i.result (omega (arith, c.loop-i-test.true, c.if-xs-ts.false)) (omega (arith, c.loop-i-test.true, c.if-vs-ts.false)) c.loop-i-test.true c.index-xs-i.is c.index-vs-i.is c.index-ts-i.is other c.loop-i.invariant

pub loop-i-preserved : goal.loop-i-preserved
loop-i-preserved c =
    let fits = rw c.if-not-branch.false at c.in_ok-assigns.ensures in
    passed_on c.args.context.now c.args.xs.now c.args.vs.now c.args.ts.now c.loop-i.i c.index-xs-i.result c.index-vs-i.result c.index-ts-i.result (omega (arith, c.loop-i-test.true, c.if-xs-ts.false)) (omega (arith, c.loop-i-test.true, c.if-vs-ts.false)) c.loop-i-test.true c.index-xs-i.is c.index-vs-i.is c.index-ts-i.is fits c.loop-i.invariant

pub returns : goal.returns
returns c = ended c.args.context.now c.args.xs.now c.args.vs.now c.args.ts.now (omega (arith, c.if-xs-ts.false)) (omega (arith, c.if-vs-ts.false)) c.loop-i.i (omega (arith, c.loop-i-test.false)) c.loop-i.invariant
