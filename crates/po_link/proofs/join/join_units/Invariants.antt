use Rattle.std.proofs.Common.{◌≡◌, ◌++◌, length, drop}
use Rattle.std.specs.Prelude.{flat_map}
use Rattle.std.specs.Vec.Iter.{into_iter_items, into_iter_len}
use Rattle.po_link.specs.Joined.{globals_of}
use Rattle.po_link.specs.Parted.{AreParts}
use Rattle.po_link.proofs.join.join_units.Given as goal

abbrev pub invariant-loop-unit : goal.invariant-loop-unit
invariant-loop-unit l = record {
  taken : l.yielded ++ into_iter_items l.unit-iterator ≡ l.fn.units;
  left : into_iter_len l.unit-iterator ≡ length (into_iter_items l.unit-iterator);
  made : AreParts l.fn.units (length l.yielded) l.parts;
  numbers : l.rest ≡ drop (length (flat_map globals_of l.yielded)) l.numbers;
}
