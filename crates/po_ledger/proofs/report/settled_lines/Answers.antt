use Rattle.po_ledger.proofs.Lined.{lines_more}
use Rattle.po_ledger.proofs.report.settled_lines.Goals as goal

pub loop-i-preserved : goal.loop-i-preserved
loop-i-preserved g c = lines_more c.args.marks.now.entries c.requires c.loop-i.i c.entry_at-entry.result (rw c.len-i-end.ensures.len at c.loop-i-test.true) c.entry_at-entry.ensures c.loop-i.lines.items c.add_line.new.lines.items c.loop-i.invariant c.in_ok-add_line.ensures
