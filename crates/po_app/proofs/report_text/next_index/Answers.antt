use Rattle.std.proofs.Common.{arith}
use Rattle.po_app.proofs.Numbering.{index_first, index_next, index_below, compared}
use Rattle.po_app.proofs.report_text.next_index.Goals as goal

pub overflow_add-result : goal.overflow_add-result
overflow_add-result c =
    let below = index_below _ _ _ c.requires.within (omega (arith, c.if-at-eq0.false)) c.requires.before in
    omega (arith, below, c.ranges.at)

pub returns-then-share_node : goal.returns-then-share_node
returns-then-share_node c =
    index_next _ _ _ c.requires.within (omega (arith, c.if-at-eq0.false)) (λ d. compared _ _ _ _ _ c.requires.within c.if-share_node.ensures d) c.requires.before

pub returns-then-at-eq0 : goal.returns-then-at-eq0
returns-then-at-eq0 c =
    index_first _ _ c.requires.order c.requires.within (λ d some. absurd (omega (arith, c.if-at-eq0.true)))

pub returns : goal.returns
returns c =
    index_first _ _ c.requires.order c.requires.within (λ d some. compared _ _ _ _ _ c.requires.within c.if-share_node.ensures d)
