use Rattle.std.proofs.Common.{◌≡◌, ◌++◌, map, take}
use Rattle.po_tree.proofs.names.wait.Given as goal

abbrev pub invariant-loop-spec : goal.invariant-loop-spec
invariant-loop-spec l = map (λ s. s.now) l.waiting ≡ map (λ s. s.now) l.initial.waiting ++ take l.spec-index l.specs
