use Rattle.po_flow.proofs.Following.{held, m_within, raises, raises_edge}
use Rattle.po_flow.proofs.Rising.{unchanged}
use Rattle.po_flow.proofs.work.follow.Goals as goal

pub at-requires-2 : goal.at-requires-2
at-requires-2 g c = m_within (g.F.Flow.meaning c.args.flow.now) (g.F.Flow.proper c.args.flow.now) (g.met.F.Flow.lawful c.args.flow.now) c.args.n c.args.m _ c.requires.edge c.requires.work.is_table.long

pub at-requires-3 : goal.at-requires-3
at-requires-3 g c = m_within (g.F.Flow.meaning c.args.flow.now) (g.F.Flow.proper c.args.flow.now) (g.met.F.Flow.lawful c.args.flow.now) c.args.n c.args.m _ c.requires.edge c.requires.work.is_table.long

pub rise-requires-clause-table : goal.rise-requires-clause-table
rise-requires-clause-table g c = m_within (g.F.Flow.meaning c.args.flow.now) (g.F.Flow.proper c.args.flow.now) (g.met.F.Flow.lawful c.args.flow.now) c.args.n c.args.m _ c.requires.edge c.requires.work.is_table.long

pub rise-requires-clause-rises : goal.rise-requires-clause-rises
rise-requires-clause-rises g c = m_within (g.F.Flow.meaning c.args.flow.now) (g.F.Flow.proper c.args.flow.now) (g.met.F.Flow.lawful c.args.flow.now) c.args.n c.args.m _ c.requires.edge c.requires.work.are_rises.long

pub rise-requires-clause-list : goal.rise-requires-clause-list
rise-requires-clause-list g c = m_within (g.F.Flow.meaning c.args.flow.now) (g.F.Flow.proper c.args.flow.now) (g.met.F.Flow.lawful c.args.flow.now) c.args.n c.args.m _ c.requires.edge c.requires.work.listed

pub returns-then-below-clause-rises : goal.returns-then-below-clause-rises
returns-then-below-clause-rises g c = unchanged (g.F.Flow.meaning c.args.flow.now) (g.F.Flow.proper c.args.flow.now) (g.met.F.Flow.lawful c.args.flow.now) c.args.work.now c.requires.work

pub returns-then-below-clause-edge : goal.returns-then-below-clause-edge
returns-then-below-clause-edge g c =
    held (g.F.Flow.meaning c.args.flow.now) (g.F.Flow.proper c.args.flow.now) (g.met.F.Flow.lawful c.args.flow.now)
    c.args.work.now c.args.n c.args.m c.in_ok-moved.moved c.at.result.now c.at-2.result.now c.at.ensures c.at-2.ensures c.in_ok-moved.ensures.moved c.if-below.ensures

pub returns-clause-rises : goal.returns-clause-rises
returns-clause-rises g c =
    raises (g.F.Flow.meaning c.args.flow.now) (g.F.Flow.proper c.args.flow.now) (g.met.F.Flow.lawful c.args.flow.now)
    c.args.work.now c.args.n c.args.m c.in_ok-moved.moved c.at.result.now c.at-2.result.now c.at.ensures c.at-2.ensures c.in_ok-moved.ensures.moved
    c.rise.new.self c.at-3.result.now c.in_ok-risen.risen c.at-3.ensures c.requires.work c.requires.edge c.if-below.ensures c.in_ok-risen.ensures c.rise.ensures.table c.rise.ensures.rises c.rise.ensures.list

pub returns-clause-edge : goal.returns-clause-edge
returns-clause-edge g c =
    raises_edge (g.F.Flow.meaning c.args.flow.now) (g.F.Flow.proper c.args.flow.now) (g.met.F.Flow.lawful c.args.flow.now)
    c.args.work.now c.args.n c.args.m c.in_ok-moved.moved c.at.result.now c.at-2.result.now c.at.ensures c.at-2.ensures c.in_ok-moved.ensures.moved
    c.rise.new.self c.at-3.result.now c.in_ok-risen.risen c.at-3.ensures c.requires.work c.requires.edge c.if-below.ensures c.in_ok-risen.ensures c.rise.ensures.table c.rise.ensures.rises c.rise.ensures.list
