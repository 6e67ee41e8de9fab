use Rattle.std.proofs.Common.{◌≡◌, ◌-◌, ◌^◌, ◌≤◌, map, length, drop}
use Rattle.std.specs.Prelude.{sum_by}
use Rattle.po_straight.specs.Distinct.{AllDiffer}
use Rattle.po_straight.specs.Definitions.{graph_size, signature_of}
use Rattle.po_straight.specs.Outline.{AreFront}
use Rattle.po_straight.proofs.Sequences.{names_of}
use Rattle.po_straight.proofs.reading.definitions.Given as goal

abbrev pub invariant-loop-at : goal.invariant-loop-at
invariant-loop-at l = record {
  front : AreFront l.definitions l.functions (drop l.at l.lexemes) l.lexemes;
  known : l.functions ≡ map signature_of l.definitions;
  distinct : AllDiffer (names_of l.functions);
  few : length l.definitions ≤ 65535;
  sized : l.size ≡ sum_by graph_size l.definitions;
  small : l.size ≤ 2 ^ 24;
  within : l.at ≤ length l.lexemes;
}

abbrev pub decreases-loop-at : goal.decreases-loop-at
decreases-loop-at l = length l.lexemes - l.at
