use Rattle.std.proofs.Common.{◌≡◌, [], drop}
use Rattle.po_interval.specs.Sets.{insert_all}
use Rattle.po_interval.specs.Results.{binary}
use Rattle.po_interval.specs.Gathering.{pairs}
use Rattle.po_interval.proofs.gathering.of_pairs.Given as goal

abbrev pub invariant-loop-x : goal.invariant-loop-x
invariant-loop-x l = insert_all l.numbers (pairs (binary l.op l.t) (drop l.x-index l.xs) l.ys) ≡ insert_all [] (pairs (binary l.op l.t) l.xs l.ys)
