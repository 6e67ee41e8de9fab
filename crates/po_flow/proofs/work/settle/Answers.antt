use Rattle.std.proofs.Common.{length, sym, ◌∙◌, ap, subst, arith}
use Rattle.std.specs.List.{Contains}
use Rattle.po_flow.specs.Waiting.{NoneWaits}
use Rattle.po_flow.specs.Working.{IsUnderWay}
use Rattle.po_flow.proofs.Settling.{goes_on, left-falls, nexts_read, taken_is_work}
use Rattle.po_flow.proofs.work.settle.Goals as goal

pub visit-requires : goal.visit-requires
visit-requires g c = record {
  work = taken_is_work (g.F.Flow.meaning c.args.flow.now) (g.F.Flow.proper c.args.flow.now) (g.met.F.Flow.lawful c.args.flow.now) c.loop-n.work c.loop-n.work c.in-Some.n c.take.new.self c.in-Some.ensures c.loop-n.invariant.is_work;
  there = let l = c.in-Some.ensures.0 in omega (arith, c.loop-n.invariant.is_work.listed);
  nexts = c.as_slice.ensures ∙ nexts_read (g.F.Flow.meaning c.args.flow.now) (g.F.Flow.proper c.args.flow.now) (g.met.F.Flow.lawful c.args.flow.now) c.args.graph.now c.requires.graph c.loop-n.work c.in-Some.n c.take.new.self c.in-Some.ensures c.loop-n.invariant.is_work _ c.index-graph-n.is;
}

pub loop-n-preserved : goal.loop-n-preserved
loop-n-preserved g c =
    let q = c.as_slice.ensures ∙ nexts_read (g.F.Flow.meaning c.args.flow.now) (g.F.Flow.proper c.args.flow.now) (g.met.F.Flow.lawful c.args.flow.now) c.args.graph.now c.requires.graph c.loop-n.work c.in-Some.n c.take.new.self c.in-Some.ensures c.loop-n.invariant.is_work _ c.index-graph-n.is in
    goes_on (g.F.Flow.meaning c.args.flow.now) (g.F.Flow.proper c.args.flow.now) (g.met.F.Flow.lawful c.args.flow.now) c.loop-n.work c.visit.new.work c.in-Some.n c.take.new.self c.in-Some.ensures c.args.work.now.table c.loop-n.steps c.visit.new.steps c.requires.under_way.is_work.is_table c.loop-n.invariant c.in_ok-visit.ensures.rises
    (λ m h. c.in_ok-visit.ensures.edges m (subst (λ xs. Contains xs m) (sym q) h))
    (let few = c.in_ok-visit.ensures.at_most in let e = ap length q in omega arith)
    (let enough = c.in_ok-visit.ensures.at_least in let e = ap length q in omega arith)

pub loop-n-smaller : goal.loop-n-smaller
loop-n-smaller g c = left-falls (g.F.Flow.meaning c.args.flow.now) (g.F.Flow.proper c.args.flow.now) (g.met.F.Flow.lawful c.args.flow.now) c.loop-n.work c.visit.new.work c.in-Some.n c.take.new.self c.in-Some.ensures c.loop-n.invariant.is_work c.in_ok-visit.ensures.rises

pub returns-clause-under_way : goal.returns-clause-under_way
returns-clause-under_way g c =
    let a = c.loop-n.work in
    subst (λ list. IsUnderWay (g.F.Flow.meaning c.args.flow.now) (g.F.Flow.proper c.args.flow.now) c.args.work.now.table (record { table = a.table; rises = a.rises; list = list }) c.loop-n.steps) (sym c.in_default.ensures.1) c.loop-n.invariant

pub returns-clause-none : goal.returns-clause-none
returns-clause-none g c = subst NoneWaits (sym c.in_default.ensures.1) c.in_default.ensures.0
