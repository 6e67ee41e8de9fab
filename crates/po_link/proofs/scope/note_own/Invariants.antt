use Rattle.std.proofs.Common.{◌≡◌, ◌+◌, ℕ, List, take}
use Rattle.std.specs.Prelude.{option_map, position}
use Rattle.po_symbols.specs.Names.{named}
use Rattle.po_link.specs.Joined.{is_named}
use Rattle.po_link.proofs.scope.note_own.Given as goal

abbrev pub invariant-loop-function : goal.invariant-loop-function
invariant-loop-function l = record {
  number : l.number ≡ l.first + l.function-index;
  names : (q : List ℕ) → named l.names q ≡ option_map (λ place. l.first + place) (position (is_named q) (take l.function-index l.functions));
}
