use Rattle.std.proofs.Common.{◌≡◌, ◌++◌, take}
use Rattle.po_link.proofs.objects.add_globals.Given as goal

abbrev pub invariant-loop-global : goal.invariant-loop-global
invariant-loop-global l = l.all ≡ l.fn.all ++ take l.global-index l.globals
