use Rattle.std.proofs.Common.{◌≡◌, [], ◌++◌, map}
use Rattle.std.specs.Prelude.{Contains}
use Rattle.po_tree.specs.NameSets.{Adds}
use Rattle.po_tree.specs.InForce.{IsAscending}
use Rattle.po_tree.proofs.names.copied.Given as goal

abbrev pub invariant-loop-name : goal.invariant-loop-name
invariant-loop-name l = Adds (Contains (map (λ x. x.now) l.yielded)) [] l.copy × IsAscending l.copy × (l.names ≡ map (λ x. x.now) l.yielded ++ l.name-iterator)
