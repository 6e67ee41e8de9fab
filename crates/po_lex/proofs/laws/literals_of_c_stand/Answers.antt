use Rattle.po_lex.proofs.Texts.{string_stands, character_stands}
use Rattle.po_lex.proofs.laws.literals_of_c_stand.Goals as goal

pub returns-clause-strings : goal.returns-clause-strings
returns-clause-strings c = string_stands

pub returns-clause-characters : goal.returns-clause-characters
returns-clause-characters c = character_stands
