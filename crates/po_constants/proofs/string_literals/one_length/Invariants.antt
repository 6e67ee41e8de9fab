use Rattle.std.proofs.Common.{◌≡◌, ℕ, ◌-◌, ◌<◌, List, length}
use Rattle.po_constants.proofs.StringLiterals.{IsQuoted}
use Rattle.po_constants.proofs.string_literals.one_length.Given as goal

abbrev pub invariant-loop-character : goal.invariant-loop-character
invariant-loop-character l = (done : List ℕ) × (l.count ≡ length done) × (l.count < l.end) × IsQuoted l.text l.end done

abbrev pub decreases-loop-character : goal.decreases-loop-character
decreases-loop-character l = length l.text - l.end
