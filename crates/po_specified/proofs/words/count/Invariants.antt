use Rattle.std.proofs.Common.{◌≡◌, ◌≤◌, take}
use Rattle.std.specs.Prelude.{count_by}
use Rattle.po_specified.specs.Words.{says}
use Rattle.po_specified.proofs.words.count.Given as goal

abbrev pub invariant-loop-specifier : goal.invariant-loop-specifier
invariant-loop-specifier l = (l.count ≡ count_by (says l.word) (take l.specifier-index l.specs)) × (l.count ≤ l.specifier-index)
