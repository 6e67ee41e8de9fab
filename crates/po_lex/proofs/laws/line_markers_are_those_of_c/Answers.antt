use Rattle.po_lex.proofs.Numbering.{what_names, what_numbers}
use Rattle.po_lex.proofs.laws.line_markers_are_those_of_c.Goals as goal

pub returns-clause-names : goal.returns-clause-names
returns-clause-names c = λ line name n h. what_names line n name h

pub returns-clause-numbers : goal.returns-clause-numbers
returns-clause-numbers c = λ line n h. what_numbers line n h
