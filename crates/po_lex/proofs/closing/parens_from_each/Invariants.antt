use Rattle.std.proofs.Common.{◌≡◌, ◌-◌, length, drop, reverse}
use Rattle.po_lex.specs.Closings.{closings, parens_from_each}
use Rattle.po_lex.proofs.closing.parens_from_each.Given as goal

abbrev pub invariant-loop-behind : goal.invariant-loop-behind
invariant-loop-behind l = record {
  long : length l.widths ≡ length l.tokens;
  widths : drop (length l.tokens - l.behind) l.widths ≡ parens_from_each (drop (length l.tokens - l.behind) l.tokens);
  closings : reverse l.closings ≡ closings (drop (length l.tokens - l.behind) l.tokens);
}
