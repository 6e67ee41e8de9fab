use Rattle.po_exp_parts.specs.Places.{at_comma, at_semicolon, at_bracket, at_brace, at_colon}
use Rattle.po_exp_parts.proofs.Ends.{told_end, told_last}
use Rattle.po_exp_parts.proofs.ranges.is_end.Goals as goal

pub returns-then-is_punct : goal.returns-then-is_punct
returns-then-is_punct c = told_end at_comma c.if-is_punct.ensures

pub returns-then-is_punct-2 : goal.returns-then-is_punct-2
returns-then-is_punct-2 c = told_end at_semicolon c.if-is_punct-2.ensures

pub returns-then-is_punct-3 : goal.returns-then-is_punct-3
returns-then-is_punct-3 c = told_end at_bracket c.if-is_punct-3.ensures

pub returns-then-is_punct-4 : goal.returns-then-is_punct-4
returns-then-is_punct-4 c = told_end at_brace c.if-is_punct-4.ensures

pub returns-then-is_punct-5 : goal.returns-then-is_punct-5
returns-then-is_punct-5 c = told_end at_colon c.if-is_punct-5.ensures

pub returns : goal.returns
returns c = told_last c.if-is_punct.ensures c.if-is_punct-2.ensures c.if-is_punct-3.ensures c.if-is_punct-4.ensures c.if-is_punct-5.ensures c.is_punct-6.ensures
