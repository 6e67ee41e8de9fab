use Rattle.std.proofs.Common.{◌≡◌, ◌≤◌, ◌-◌, ◌^◌, length, drop}
use Rattle.std.specs.Prelude.{min}
use Rattle.po_lex.specs.Directives.{value}
use Rattle.po_lex.proofs.directive.number.Given as goal

abbrev pub invariant-loop-end : goal.invariant-loop-end
invariant-loop-end l = record {
  few : l.number ≤ 2 ^ 31;
  value : min (2 ^ 31) (value l.number (drop l.end l.line)) ≡ min (2 ^ 31) (value 0 (drop l.at l.line));
}

abbrev pub decreases-loop-end : goal.decreases-loop-end
decreases-loop-end l = length l.line - l.end
