use Rattle.std.proofs.Common.{◌≡◌, ◌++◌, drop, false}
use Rattle.po_lex.specs.Directives.{plain}
use Rattle.po_lex.proofs.directive.plain.Given as goal

abbrev pub invariant-loop-byte : goal.invariant-loop-byte
invariant-loop-byte l = l.name ++ plain l.taken (drop l.byte-index l.written) ≡ plain false l.written
