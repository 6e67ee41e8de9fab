use Rattle.std.proofs.Common.{◌≡◌, [], drop}
use Rattle.std.specs.Prelude.{filter_map}
use Rattle.po_interval.specs.Sets.{insert_all}
use Rattle.po_interval.specs.Results.{unary}
use Rattle.po_interval.proofs.gathering.un_few.Given as goal

abbrev pub invariant-loop-x : goal.invariant-loop-x
invariant-loop-x l = insert_all l.numbers (filter_map (unary l.op l.t) (drop l.x-index l.xs)) ≡ insert_all [] (filter_map (unary l.op l.t) l.xs)
