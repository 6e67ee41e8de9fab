use Rattle.std.proofs.Common.{◌≡◌, ◌≤◌, take}
use Rattle.po_lex.specs.Bytes.{newlines}
use Rattle.po_lex.proofs.part.newlines.Given as goal

abbrev pub invariant-loop-byte : goal.invariant-loop-byte
invariant-loop-byte l = record {
  value : l.count ≡ newlines (take l.byte-index l.text);
  few : l.count ≤ l.byte-index;
}
