use Rattle.std.proofs.Common.{refl, ap}
use Rattle.po_ir.specs.declared.instr.Instr.TheVariants as ins
use Rattle.po_lowering.specs.Types as types
use Rattle.po_lowering.specs.Temporaries.{reg}
use Rattle.po_lower_values.proofs.Added.{adds_given}
use Rattle.po_lower_forms.proofs.stepping.load_register.Goals as goal

pub returns : goal.returns
returns c = λ f m.
    let a = c.args in
    let r = c.in_ok-q.q.0 in
    adds_given _ _ _ (types.register_type a.t.now) c.register_type.result r (ins.Load (reg r) a.at c.access_of.result) (λ q. ins.Load (reg q) a.at (types.access_of f a.t.now)) a.spot.now
    c.register_type.ensures c.in_ok-q.ensures.takes c.in_ok-q.ensures.nodes (ap (ins.Load (reg r) a.at) (c.access_of.ensures f m)) c.in_ok-push.ensures (λ g. refl)
