use Rattle.std.proofs.Common.{arith}
use Rattle.po_flow.proofs.Following.{all_edges, has_edge, one_more_edge}
use Rattle.po_flow.proofs.Rising.{rises_along, unchanged}
use Rattle.po_flow.proofs.work.visit.Goals as goal

pub follow-requires-clause-work : goal.follow-requires-clause-work
follow-requires-clause-work g c = c.loop-m.invariant.rises.is_work

pub follow-requires-clause-edge : goal.follow-requires-clause-edge
follow-requires-clause-edge g c = has_edge (g.F.Flow.meaning c.args.flow.now) (g.F.Flow.proper c.args.flow.now) (g.met.F.Flow.lawful c.args.flow.now) c.args.n c.args.nexts.now c.requires.there c.requires.nexts c.loop-m.m-index _ c.loop-m-test.true

pub loop-m-init : goal.loop-m-init
loop-m-init g c = record {
  rises = unchanged (g.F.Flow.meaning c.args.flow.now) (g.F.Flow.proper c.args.flow.now) (g.met.F.Flow.lawful c.args.flow.now) c.args.work.now c.requires.work;
  edges = λ k h. absurd (omega arith);
  at_most = omega arith;
  at_least = omega arith;
}

pub loop-m-preserved : goal.loop-m-preserved
loop-m-preserved g c = record {
  rises = rises_along (g.F.Flow.meaning c.args.flow.now) (g.F.Flow.proper c.args.flow.now) (g.met.F.Flow.lawful c.args.flow.now) c.args.work.now c.loop-m.work c.follow.new.work c.requires.work c.loop-m.invariant.rises c.in_ok-follow.ensures.rises;
  edges = one_more_edge (g.F.Flow.meaning c.args.flow.now) (g.F.Flow.proper c.args.flow.now) (g.met.F.Flow.lawful c.args.flow.now) c.args.n c.args.nexts.now c.requires.there c.requires.nexts c.loop-m.work c.follow.new.work c.loop-m.m-index _ c.loop-m-test.true c.loop-m.invariant.edges c.in_ok-follow.ensures.rises c.in_ok-follow.ensures.edge;
  at_most = let one = c.in_ok-follow.ensures.counted in let before = c.loop-m.invariant.at_most in omega arith;
  at_least = let one = c.in_ok-follow.ensures.counted in let before = c.loop-m.invariant.at_least in omega arith;
}

pub returns-clause-edges : goal.returns-clause-edges
returns-clause-edges g c = all_edges (g.F.Flow.meaning c.args.flow.now) (g.F.Flow.proper c.args.flow.now) (g.met.F.Flow.lawful c.args.flow.now) c.args.n c.args.nexts.now c.requires.there c.requires.nexts c.loop-m.work c.loop-m.m-index c.loop-m-test.false c.loop-m.invariant.edges
