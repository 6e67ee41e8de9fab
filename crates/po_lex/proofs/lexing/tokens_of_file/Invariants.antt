use Rattle.std.proofs.Common.{◌+◌, ◌-◌, ◌^◌, ◌≤◌, List, length, drop}
use Rattle.po_lex.specs.Division.{Part, Divides, start}
use Rattle.po_lex.specs.Lexing.{IsRead}
use Rattle.po_lex.proofs.lexing.tokens_of_file.Given as goal

abbrev pub invariant-loop-at : goal.invariant-loop-at
invariant-loop-at l = record {
  within : l.at ≤ length l.file;
  own : l.lexer.position.own ≤ l.at + 1;
  named : l.lexer.position.named ≤ l.at;
  next : l.lexer.position.next ≤ 2 ^ 31 + l.at + 1;
  read : (front : List Part) × Divides start front l.file (drop l.at l.file) × IsRead l.name front l.lexer;
}

abbrev pub decreases-loop-at : goal.decreases-loop-at
decreases-loop-at l = length l.file - l.at
