use Rattle.std.proofs.Common.{◌≡◌, drop}
use Rattle.std.specs.Prelude.{filter_map}
use Rattle.po_interval.specs.Sets.{insert_all}
use Rattle.po_interval.specs.Results.{binary}
use Rattle.po_interval.proofs.gathering.put_row.Given as goal

abbrev pub invariant-loop-y : goal.invariant-loop-y
invariant-loop-y l = insert_all l.numbers (filter_map (binary l.op l.t l.x) (drop l.y-index l.ys)) ≡ insert_all l.initial.numbers (filter_map (binary l.op l.t l.x) l.ys)
