use Rattle.std.proofs.Common.{◌≡◌, ◌≤◌, length, drop}
use Rattle.po_decl_read.proofs.read.close_lists.Given as goal

abbrev pub invariant-loop-left : goal.invariant-loop-left
invariant-loop-left l = record {
  few : l.left ≤ length l.names.outer;
  rest : drop l.left l.names.outer ≡ drop l.lists l.fn.names.outer;
}

abbrev pub decreases-loop-left : goal.decreases-loop-left
decreases-loop-left l = l.left
