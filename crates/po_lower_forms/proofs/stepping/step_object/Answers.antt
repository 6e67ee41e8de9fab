use Rattle.std.proofs.Common.{subst, sym}
use Rattle.po_lower_forms.specs.Made.{MakesSteps}
use Rattle.po_lower_forms.proofs.Stepped.{stepped_object}
use Rattle.po_lower_forms.proofs.stepping.step_object.Goals as goal

pub returns : goal.returns
returns c = λ f s before y p h m stepped is address.
    subst (MakesSteps f s _ _ y p h c.args.by.operator c.args.by.old) (sym c.saved_or.ensures)
    (stepped_object f s p h _ _ y c.in_ok-q.q.0 _ c.args.at _ _ _ _ c.args.spot.now _ stepped c.register_type.ensures is address (c.in_ok-q.ensures f m) c.in_ok-saved.ensures (c.in_ok-next.ensures f m) (c.in_ok-v.ensures f m) (c.in_ok-store_scalar.ensures f m))
