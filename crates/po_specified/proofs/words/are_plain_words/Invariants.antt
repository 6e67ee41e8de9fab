use Rattle.std.proofs.Common.{take}
use Rattle.std.specs.Prelude.{All}
use Rattle.po_typed.specs.BaseTypes.{IsPlainWord}
use Rattle.po_specified.proofs.words.are_plain_words.Given as goal

abbrev pub invariant-loop-specifier : goal.invariant-loop-specifier
invariant-loop-specifier l = All IsPlainWord (take l.specifier-index l.specs)
