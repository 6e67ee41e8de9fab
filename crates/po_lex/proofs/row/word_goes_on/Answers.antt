use Rattle.std.specs.Prelude.{◌||◌}
use Rattle.po_lex.specs.Bytes.{begins_word, is_digit}
use Rattle.po_lex.proofs.Tables.{by_table}
use Rattle.po_lex.proofs.row.word_goes_on.Goals as goal

pub returns : goal.returns
returns c = by_table (λ b. begins_word b || is_digit b) c.from.result c.args.byte c.ranges.byte.fits c.from.ensures
