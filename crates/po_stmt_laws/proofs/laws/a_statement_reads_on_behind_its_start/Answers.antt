use Rattle.po_stmt_laws.proofs.ReadingOn.{reads_both}
use Rattle.po_stmt_laws.proofs.laws.a_statement_reads_on_behind_its_start.Goals as goal

pub returns : goal.returns
returns c = λ types room signs left rest begun s h. reads_both begun h
