use Rattle.std.proofs.Common.{◌≡◌, ◌≤◌, ◌*◌, ◌^◌, ℕ, List, take, length}
use Rattle.po_typed.specs.Constants.{AreStrings}
use Rattle.po_constants.proofs.string_literals.string_length.Given as goal

abbrev pub invariant-loop-text : goal.invariant-loop-text
invariant-loop-text l = (values : List ℕ) × AreStrings (take l.text-index l.texts) values × (l.count ≡ length values) × (l.count ≤ l.text-index * 2 ^ 64)
