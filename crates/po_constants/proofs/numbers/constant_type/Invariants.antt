use Rattle.std.proofs.Common.{◌≡◌, drop}
use Rattle.std.specs.Prelude.{flat_map}
use Rattle.po_types.specs.Integers.{first_to_hold, of_width, constant_type}
use Rattle.po_constants.proofs.numbers.constant_type.Given as goal

abbrev pub invariant-loop-bits : goal.invariant-loop-bits
invariant-loop-bits l =
    first_to_hold l.value (flat_map (of_width l.unsigned l.decimal) (drop l.bits-index l.bits-items)) ≡ constant_type l.fn.target l.unsigned l.decimal l.longs l.value
