use Rattle.std.specs.Prelude.{take}
use Rattle.std.specs.List.{flat_map}
use Rattle.po_gen.specs.Reads.{variable_in}
use Rattle.po_gen.specs.Seen.{AreFirsts}
use Rattle.po_gen.proofs.reads.variables.Given as goal

abbrev pub invariant-loop-operand : goal.invariant-loop-operand
invariant-loop-operand l = AreFirsts (flat_map (variable_in l.g) (take l.operand-index l.operands)) l.seen l.list
