use Rattle.std.proofs.Common.{map}
use Rattle.po_tree.specs.Gathering.{Gathers, count_all}
use Rattle.po_tree.proofs.names.gather.Given as goal

abbrev pub invariant-loop-spec : goal.invariant-loop-spec
invariant-loop-spec l = Gathers l.specs (map (λ s. s.now) l.waiting) l.initial.found l.found

abbrev pub decreases-loop-spec : goal.decreases-loop-spec
decreases-loop-spec l = count_all (map (λ s. s.now) l.waiting)
