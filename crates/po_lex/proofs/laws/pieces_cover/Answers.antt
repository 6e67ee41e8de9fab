use Rattle.std.proofs.Common.{length}
use Rattle.po_lex.proofs.Unique.{cover}
use Rattle.po_lex.proofs.laws.pieces_cover.Goals as goal

pub returns : goal.returns
returns c = λ tokens pieces h. cover 0 pieces tokens (length tokens) h
