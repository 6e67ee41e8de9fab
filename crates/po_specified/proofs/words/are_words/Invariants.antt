use Rattle.std.proofs.Common.{take}
use Rattle.std.specs.Prelude.{All}
use Rattle.po_specified.specs.Words.{IsSomeWord}
use Rattle.po_specified.proofs.words.are_words.Given as goal

abbrev pub invariant-loop-specifier : goal.invariant-loop-specifier
invariant-loop-specifier l = All IsSomeWord (take l.specifier-index l.specs)
