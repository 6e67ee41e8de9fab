use Rattle.std.proofs.Common.{take}
use Rattle.po_typed.specs.Constants.{AreStrings}
use Rattle.po_constants.proofs.string_literals.strings.Given as goal

abbrev pub invariant-loop-text : goal.invariant-loop-text
invariant-loop-text l = AreStrings (take l.text-index l.texts) l.bytes
