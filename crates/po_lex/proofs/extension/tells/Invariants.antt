use Rattle.std.proofs.Common.{◌≡◌, drop}
use Rattle.std.specs.List.{list_any}
use Rattle.po_lex.specs.Keeping.{is_one_of, telling}
use Rattle.po_lex.proofs.extension.tells.Given as goal

abbrev pub invariant-loop-token : goal.invariant-loop-token
invariant-loop-token l = list_any (is_one_of telling) (drop l.token-index l.tokens) ≡ list_any (is_one_of telling) l.tokens
