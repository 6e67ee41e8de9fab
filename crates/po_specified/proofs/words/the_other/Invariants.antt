use Rattle.std.proofs.Common.{take}
use Rattle.std.specs.Prelude.{All}
use Rattle.po_typed.specs.BaseTypes.{IsPlainWord}
use Rattle.po_specified.proofs.words.the_other.Given as goal

abbrev pub invariant-loop-i : goal.invariant-loop-i
invariant-loop-i l = All IsPlainWord (take l.i l.specs)
