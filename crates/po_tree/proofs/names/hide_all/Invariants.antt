use Rattle.std.proofs.Common.{◌≡◌, ◌++◌, map}
use Rattle.std.specs.Prelude.{Contains}
use Rattle.po_tree.specs.Scope.{HidesTypes}
use Rattle.po_tree.proofs.names.hide_all.Given as goal

abbrev pub invariant-loop-name : goal.invariant-loop-name
invariant-loop-name l = HidesTypes (Contains (map (λ x. x.now) l.yielded)) l.initial.names l.names × (l.hidden ≡ map (λ x. x.now) l.yielded ++ l.name-iterator)
