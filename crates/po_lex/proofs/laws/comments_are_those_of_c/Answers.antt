use Rattle.po_lex.proofs.Texts.{comment_text, comment_stands}
use Rattle.po_lex.proofs.laws.comments_are_those_of_c.Goals as goal

pub returns-clause-only : goal.returns-clause-only
returns-clause-only c = comment_text

pub returns-clause-all : goal.returns-clause-all
returns-clause-all c = comment_stands
