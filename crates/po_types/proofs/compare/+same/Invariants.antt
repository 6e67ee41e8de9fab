use Rattle.std.proofs.Common.{◌≡◌, ◌↔◌, ◌≤◌}
use Rattle.std.specs.Prelude.{take}
use Rattle.po_types.specs.declared.ctype.CType.{size-CType}
use Rattle.po_types.proofs.compare.+same.Given as goal

abbrev pub invariant-all_same-loop-i : goal.invariant-all_same-loop-i
invariant-all_same-loop-i l = take l.i l.fn.xs ≡ take l.i l.fn.ys

abbrev pub invariant-same-loop-left : goal.invariant-same-loop-left
invariant-same-loop-left l = ((l.fn.a ≡ l.fn.b) ↔ (l.left ≡ l.right)) × (size-CType l.left ≤ size-CType l.fn.a)
