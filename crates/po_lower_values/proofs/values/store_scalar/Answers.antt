use Rattle.std.proofs.Common.{refl, ap}
use Rattle.po_ir.specs.declared.instr.Instr.TheVariants as ins
use Rattle.po_lowering.specs.Types as types
use Rattle.po_lower_nodes.proofs.Groups.{adds_fixed}
use Rattle.po_lower_values.proofs.values.store_scalar.Goals as goal

pub returns : goal.returns
returns c = λ f m.
    let a = c.args in
    adds_fixed _ _ (ins.Store a.at a.value c.access_of.result) (ins.Store a.at a.value (types.access_of f a.t.now)) a.spot.now (ap (ins.Store a.at a.value) (c.access_of.ensures f m)) c.in_ok-push.ensures (λ g. refl)
