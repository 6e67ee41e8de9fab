use Rattle.std.proofs.lemmas.Result.{IfOk-weaker}
use Rattle.po_lex.specs.Division.{AreTokens, ArePlaced}
use Rattle.po_lex.proofs.Placed.{placed}
use Rattle.po_lex.proofs.lexing.tokens.Goals as goal

pub returns-clause-placed : goal.returns-clause-placed
returns-clause-placed c =
    IfOk-weaker c.tokens_of_file.result (AreTokens c.args.name.now c.in_ok-file.file) ArePlaced (placed c.args.name.now c.in_ok-file.file) c.tokens_of_file.ensures.tokens
