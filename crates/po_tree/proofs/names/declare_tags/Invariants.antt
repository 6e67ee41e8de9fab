use Rattle.std.proofs.Common.{◌≡◌, ◌++◌, map}
use Rattle.std.specs.Prelude.{Contains}
use Rattle.po_tree.specs.Scope.{AddsTags}
use Rattle.po_tree.proofs.names.declare_tags.Given as goal

abbrev pub invariant-loop-name : goal.invariant-loop-name
invariant-loop-name l = AddsTags (Contains (map (λ x. x.now) l.yielded)) l.initial.names l.names × (l.tags ≡ map (λ x. x.now) l.yielded ++ l.name-iterator)
