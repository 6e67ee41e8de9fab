use Rattle.po_lowering.specs.Types as types
use Rattle.po_lowering.specs.Conversions as conversions
use Rattle.po_lower_values.proofs.Fixed.{resolve-steps}
use Rattle.po_lower_values.proofs.Added.{adds_given}
use Rattle.po_lower_values.proofs.values.step.Goals as goal

pub returns : goal.returns
returns c = λ f m.
    let a = c.args in
    adds_given _ _ _ (types.register_type a.t.now) c.register_type.result c.in_ok-r.r.0 c.steps-instr.result (λ r. conversions.steps f a.operator a.t.now a.v r) a.spot.now
    c.register_type.ensures c.in_ok-r.ensures.takes c.in_ok-r.ensures.nodes (c.steps-instr.ensures f m) c.in_ok-push.ensures (λ g. resolve-steps g f a.operator a.t.now a.v c.in_ok-r.r.0)
