use Rattle.std.proofs.Common.{refl}
use Rattle.po_lowering.specs.Conversions as conversions
use Rattle.po_lower_values.proofs.Fixed.{resolve-combines}
use Rattle.po_lower_values.proofs.Added.{adds_given}
use Rattle.po_lower_values.proofs.values.combine.Goals as goal

pub returns : goal.returns
returns c = λ f m.
    let x = c.args.x in
    adds_given _ _ _ c.args.held c.args.held c.in_ok-r.r.0 c.combines-instr.result (λ r. conversions.combines f c.args.operator x.left_type.now x.right_type.now x.left x.right r) c.args.spot.now
    refl c.in_ok-r.ensures.takes c.in_ok-r.ensures.nodes (c.combines-instr.ensures f m) c.in_ok-push.ensures (λ g. resolve-combines g f c.args.operator x.left_type.now x.right_type.now x.left x.right c.in_ok-r.r.0)
