use Rattle.std.proofs.Common.{subst, sym}
use Rattle.po_lower_forms.specs.Made.{MakesSteps}
use Rattle.po_lower_forms.proofs.Stepped.{stepped_register}
use Rattle.po_lower_forms.proofs.stepping.step_register.Goals as goal

pub returns : goal.returns
returns c = λ f s y p h m stepped is.
    subst (MakesSteps f s _ _ y p h c.args.by.operator c.args.by.old) (sym c.saved_or.ensures)
    (stepped_register f s p h _ _ y c.args.r.0 _ _ _ _ _ c.args.spot.now _ stepped c.register_type.ensures is c.in_ok-saved.ensures (c.in_ok-next.ensures f m) (c.in_ok-v.ensures f m) c.in_ok-put.ensures)
