use Rattle.std.proofs.Common.{◌≡◌, map, take}
use Rattle.po_astate.specs.Rounding.{round_value}
use Rattle.po_astate.proofs.rounding.round_regs.Given as goal

abbrev pub invariant-loop-value : goal.invariant-loop-value
invariant-loop-value l = l.rounded ≡ map (round_value l.th l.head) (take l.value-index l.regs)
