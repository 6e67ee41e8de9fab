use Rattle.std.proofs.Common.{◌≡◌, ◌++◌, map, take}
use Rattle.po_ir.specs.Leading.{caller_of}
use Rattle.po_ir.proofs.reach.add_callers.Given as goal

abbrev pub invariant-loop-site : goal.invariant-loop-site
invariant-loop-site l = l.stack ≡ l.fn.stack ++ map caller_of (take l.site-index l.sites)
