use Rattle.std.proofs.Common.{subst, sym}
use Rattle.po_lists.proofs.Results.{if_ok-map}
use Rattle.po_ir.specs.Callers.{AreCallers}
use Rattle.po_ir.proofs.Reaching.{reaching}
use Rattle.po_ir.proofs.effects.reaching.Goals as goal

pub returns : goal.returns
returns c =
    if_ok-map c.reach.result (λ marks leads test marked. reaching c.args.project.now test c.deref.result.now c.args.here.now marks
    (subst (λ l. AreCallers c.args.project.now l) (sym c.deref.ensures.value) c.in_ok-callers.ensures) marked c.requires leads) c.reach.ensures
