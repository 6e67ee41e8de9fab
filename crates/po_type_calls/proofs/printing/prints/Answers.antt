use Rattle.std.proofs.Common.{arith}
use Rattle.po_type_calls.proofs.Printed.{begins, other_count, printed_on, stopped, ended}
use Rattle.po_type_calls.proofs.printing.prints.Goals as goal

pub returns-then-vs-specs : goal.returns-then-vs-specs
returns-then-vs-specs c = other_count c.args.target c.args.specs.now c.args.vs.now (λ e. omega (arith, c.if-vs-specs.true, e))

pub loop-i-init : goal.loop-i-init
loop-i-init c = begins c.args.target c.args.specs.now c.args.vs.now _ c.new-conversions.ensures

pub returns-in-None : goal.returns-in-None
returns-in-None c =
    stopped c.args.target c.args.specs.now c.args.vs.now c.loop-i.i _ c.index-vs-i.result c.loop-i-test.true (omega (arith, c.loop-i-test.true, c.if-vs-specs.false)) c.index-vs-i.is (rw c.in-None.is at c.in_ok-prints_as.ensures) c.loop-i.conversions c.loop-i.invariant

pub loop-i-preserved : goal.loop-i-preserved
loop-i-preserved c =
    let read = rw c.in-Some.is at c.in_ok-prints_as.ensures in
    printed_on c.args.target c.args.specs.now c.args.vs.now c.loop-i.i _ c.index-vs-i.result c.loop-i-test.true (omega (arith, c.loop-i-test.true, c.if-vs-specs.false)) c.index-vs-i.is c.in-Some.conversion c.loop-i.conversions c.push.new.self read c.in_ok-push-in-Some.ensures.ok c.loop-i.invariant

pub returns : goal.returns
returns c = ended c.args.target c.args.specs.now c.args.vs.now (omega (arith, c.if-vs-specs.false)) c.loop-i.i (omega (arith, c.loop-i-test.false)) c.loop-i.conversions c.loop-i.invariant
