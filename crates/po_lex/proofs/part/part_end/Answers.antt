use Rattle.po_lex.proofs.part.part_end.Goals as goal

pub returns-in-Punctuator-clause-none : goal.returns-in-Punctuator-clause-none
returns-in-Punctuator-clause-none c = rw c.in-Punctuator.is c.sign_end.ensures.none
