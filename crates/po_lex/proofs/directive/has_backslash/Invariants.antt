use Rattle.std.proofs.Common.{◌≡◌, drop}
use Rattle.std.specs.Prelude.{◌==◌}
use Rattle.std.specs.List.{list_any}
use Rattle.po_lex.proofs.directive.has_backslash.Given as goal

abbrev pub invariant-loop-byte : goal.invariant-loop-byte
invariant-loop-byte l = list_any (λ c. c == 92) (drop l.byte-index l.bytes) ≡ list_any (λ c. c == 92) l.bytes
