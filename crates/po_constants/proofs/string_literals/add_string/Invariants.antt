use Rattle.std.proofs.Common.{◌≡◌, ℕ, ◌-◌, List, ◌++◌, length}
use Rattle.po_constants.proofs.StringLiterals.{IsQuoted}
use Rattle.po_constants.proofs.string_literals.add_string.Given as goal

abbrev pub invariant-loop-character : goal.invariant-loop-character
invariant-loop-character l = (done : List ℕ) × (l.bytes ≡ l.initial.bytes ++ done) × IsQuoted l.text l.end done

abbrev pub decreases-loop-character : goal.decreases-loop-character
decreases-loop-character l = length l.text - l.end
