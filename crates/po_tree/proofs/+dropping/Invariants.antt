use Rattle.std.proofs.Common.{◌≤◌, length}
use denote.Param.Weighed.{most}
use Rattle.po_tree.specs.declared.expression.Specifier.{size-Specifier}
use Rattle.po_tree.specs.Dropping.{measure, IsThin}
use Rattle.po_tree.specs.declared.expression.Member.{size-Member}
use Rattle.po_tree.specs.declared.expression.Param.{size-Param}
use Rattle.po_tree.proofs.+dropping.Given as goal

abbrev pub invariant-dropping::drop_specifiers-loop-rest : goal.invariant-dropping::drop_specifiers-loop-rest
invariant-dropping::drop_specifiers-loop-rest l = most size-Specifier l.left ≤ most size-Specifier l.fn.specs

abbrev pub decreases-dropping::drop_specifiers-loop-rest : goal.decreases-dropping::drop_specifiers-loop-rest
decreases-dropping::drop_specifiers-loop-rest l = length l.left

abbrev pub invariant-dropping::drop_members-loop-next : goal.invariant-dropping::drop_members-loop-next
invariant-dropping::drop_members-loop-next l = IsThin (most size-Member l.fn.members) l.left

abbrev pub decreases-dropping::drop_members-loop-next : goal.decreases-dropping::drop_members-loop-next
decreases-dropping::drop_members-loop-next l = measure l.left

abbrev pub invariant-dropping::drop_params-loop-next : goal.invariant-dropping::drop_params-loop-next
invariant-dropping::drop_params-loop-next l = IsThin (most size-Param l.fn.params) l.left

abbrev pub decreases-dropping::drop_params-loop-next : goal.decreases-dropping::drop_params-loop-next
decreases-dropping::drop_params-loop-next l = measure l.left
