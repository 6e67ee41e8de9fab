use Rattle.po_link.specs.Objects.{AreObjects}
use Rattle.po_link.proofs.objects.all_objects.Given as goal

abbrev pub invariant-loop-global : goal.invariant-loop-global
invariant-loop-global l = AreObjects l.global-items l.global-index l.objects
