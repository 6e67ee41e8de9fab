use Rattle.po_app.proofs.Numbering.{written_more, index_kept}
use Rattle.po_app.proofs.report_text.add_lines.Goals as goal

pub loop-at-preserved : goal.loop-at-preserved
loop-at-preserved c = record {
  written = written_more c.args.project.now c.args.lines.now _ _ _ _ _ _ c.loop-at-test.true c.next_index-index.ensures c.loop-at.invariant.written c.in_ok-add_numbered.ensures;
  counted = index_kept _ _ _ c.next_index-index.ensures;
}
