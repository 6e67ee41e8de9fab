use Rattle.std.proofs.Common.{◌≡◌, ◌+◌, take}
use Rattle.std.specs.Prelude.{sum_by}
use Rattle.po_straight.specs.Expressions.{height}
use Rattle.po_straight.specs.Definitions.{operations}
use Rattle.po_straight.proofs.expression.Expression.+operations.Given as goal

abbrev pub decreases-operations : goal.decreases-operations
decreases-operations l = height l.self.now

abbrev pub invariant-loop-argument : goal.invariant-loop-argument
invariant-loop-argument l = l.count ≡ 1 + sum_by operations (take l.argument-index l.argument-items)
