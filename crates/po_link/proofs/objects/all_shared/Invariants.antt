use Rattle.std.proofs.Common.{take}
use Rattle.po_link.specs.Objects.{AreShared}
use Rattle.po_link.proofs.objects.all_shared.Given as goal

abbrev pub invariant-loop-global : goal.invariant-loop-global
invariant-loop-global l = AreShared (take l.global-index l.all) l.shared
