use Rattle.po_lex.proofs.Texts.{string_literal, character_literal}
use Rattle.po_lex.proofs.laws.literals_are_those_of_c.Goals as goal

pub returns-clause-strings : goal.returns-clause-strings
returns-clause-strings c = string_literal

pub returns-clause-characters : goal.returns-clause-characters
returns-clause-characters c = character_literal
