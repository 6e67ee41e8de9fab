use Rattle.po_lowering.specs.Conversions as conversions
use Rattle.po_lower_nodes.proofs.Groups.{adds_fixed}
use Rattle.po_lower_values.proofs.Fixed.{resolve-store}
use Rattle.po_lower_values.proofs.values.write.Goals as goal

pub returns : goal.returns
returns c = λ f m.
    let a = c.args in
    adds_fixed _ _ c.store-instr.result (conversions.store f a.t.now a.to a.v) a.spot.now (c.store-instr.ensures f m) c.in_ok-push.ensures (λ g. resolve-store g f a.t.now a.to a.v)
