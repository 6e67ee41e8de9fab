use Rattle.po_lex.proofs.Markers.{marker_read}
use Rattle.po_lex.proofs.Numbering.{named_line_read, numbered_line_read}
use Rattle.po_lex.proofs.laws.line_markers_are_read.Goals as goal

pub returns-clause-markers : goal.returns-clause-markers
returns-clause-markers c = marker_read

pub returns-clause-names : goal.returns-clause-names
returns-clause-names c = named_line_read

pub returns-clause-numbers : goal.returns-clause-numbers
returns-clause-numbers c = numbered_line_read
