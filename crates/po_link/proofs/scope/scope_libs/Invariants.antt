use Rattle.std.proofs.Common.{take}
use Rattle.po_link.specs.Scoped.{AreScoped}
use Rattle.po_link.proofs.scope.scope_libs.Given as goal

abbrev pub invariant-loop-one : goal.invariant-loop-one
invariant-loop-one l = AreScoped l.seen (take l.one-index l.used) l.libs
