use Rattle.po_tree.specs.Signs.{word}
use Rattle.po_exp_parts.proofs.Standing.{stands_first}
use Rattle.po_exp_parts.proofs.TypeWordsRead.{starts_by}
use Rattle.po_exp_parts.proofs.type_words.starts_type.Goals as goal

pub returns-in-Some : goal.returns-in-Some
returns-in-Some c = starts_by c.args.names.now.typedefs (stands_first c.args.at c.args.tokens.now (word c.in-Some.text.now) c.in-Some.ensures) c.is_type_start.ensures
