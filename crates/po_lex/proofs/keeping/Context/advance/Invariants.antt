use Rattle.std.proofs.Common.{◌≡◌, ◌≤◌, ◌+◌, drop}
use Rattle.po_lex.specs.Keeping.{advance}
use Rattle.po_lex.proofs.keeping.Context.advance.Given as goal

abbrev pub invariant-loop-token : goal.invariant-loop-token
invariant-loop-token l = record {
  value : advance l.context (drop l.token-index l.tokens) ≡ advance l.fn.self l.tokens;
  few : l.context.depth ≤ l.fn.self.depth + l.token-index;
}
