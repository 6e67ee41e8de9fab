use Rattle.po_lex.proofs.Longest.{longest_stands}
use Rattle.po_lex.proofs.laws.longest_part_stands.Goals as goal

pub returns : goal.returns
returns c = longest_stands
