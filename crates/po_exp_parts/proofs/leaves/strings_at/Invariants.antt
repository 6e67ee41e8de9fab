use Rattle.std.proofs.Common.{◌≡◌, ◌≤◌, ◌-◌, ◌++◌, map, length}
use Rattle.std.specs.Prelude.{All}
use Rattle.po_tree.specs.Signs.{string}
use Rattle.po_tree.specs.Literals.{IsString}
use Rattle.po_exp_parts.specs.Places.{signs_from}
use Rattle.po_exp_parts.proofs.leaves.strings_at.Given as goal

abbrev pub invariant-loop-text : goal.invariant-loop-text
invariant-loop-text l = record {
  read : signs_from l.tokens l.at ≡ map string l.texts ++ signs_from l.tokens l.end;
  all : All IsString l.texts;
  after : l.at ≤ l.end;
  within : l.end ≤ length l.tokens;
}

abbrev pub decreases-loop-text : goal.decreases-loop-text
decreases-loop-text l = length l.tokens - l.end
