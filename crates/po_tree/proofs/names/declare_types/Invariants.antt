use Rattle.std.proofs.Common.{◌≡◌, ◌++◌, map}
use Rattle.std.specs.Prelude.{Contains}
use Rattle.po_tree.specs.Scope.{AddsTypes}
use Rattle.po_tree.proofs.names.declare_types.Given as goal

abbrev pub invariant-loop-name : goal.invariant-loop-name
invariant-loop-name l = AddsTypes (Contains (map (λ x. x.now) l.yielded)) l.initial.names l.names × (l.types ≡ map (λ x. x.now) l.yielded ++ l.name-iterator)
