use Rattle.std.specs.Prelude.{◌≡◌, map, take}
use Rattle.po_pred.specs.declared.pred.Pred.TheVariants.{RegSet}
use Rattle.po_gen.proofs.reads.reads.Given as goal

abbrev pub invariant-loop-variable : goal.invariant-loop-variable
invariant-loop-variable l = l.list ≡ map RegSet (take l.variable-index l.variable-items)
