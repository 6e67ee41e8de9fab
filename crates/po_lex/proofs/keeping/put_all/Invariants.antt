use Rattle.std.proofs.Common.{◌≡◌, ◌++◌, take}
use Rattle.po_lex.proofs.keeping.put_all.Given as goal

abbrev pub invariant-loop-token : goal.invariant-loop-token
invariant-loop-token l = l.list ≡ l.initial.list ++ take l.token-index l.tokens
