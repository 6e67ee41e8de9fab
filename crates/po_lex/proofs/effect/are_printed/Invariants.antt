use Rattle.std.proofs.Common.{◌≡◌, drop}
use Rattle.std.specs.Prelude.{nat_le}
use Rattle.std.specs.List.{list_all}
use Rattle.po_lex.proofs.effect.are_printed.Given as goal

abbrev pub invariant-loop-byte : goal.invariant-loop-byte
invariant-loop-byte l = list_all (λ c. nat_le 32 c) (drop l.byte-index l.bytes) ≡ list_all (λ c. nat_le 32 c) l.bytes
