use Rattle.std.proofs.Common.{ap, of_z}
use Rattle.std.specs.Int.{w128}
use Rattle.po_arith.proofs.Shifted.{short}
use Rattle.po_arith.proofs.shifts.shift_left.Goals as goal

pub overflow_shl-result : goal.overflow_shl-result
overflow_shl-result c = short c.args.v c.args.n (λ zero. c.if-v-eq0.false (ap (of_z w128) zero)) c.requires
