use Rattle.std.proofs.Common.{subst, sym}
use Rattle.po_lists.proofs.Results.{if_ok-map}
use Rattle.po_lower_nodes.specs.Groups.{AddsHolding}
use Rattle.po_lower_nodes.proofs.Groups.{adds_kept}
use Rattle.po_lower_nodes.proofs.operands.hold.Goals as goal

pub returns-then-changed : goal.returns-then-changed
returns-then-changed c =
    if_ok-map c.copy_operand.result (λ w h. subst (λ b. AddsHolding c.args.d.now c.copy_operand.new.d c.args.spot.now c.args.v b w) (sym c.if-changed.true) h) c.copy_operand.ensures

pub returns : goal.returns
returns c = adds_kept _ c.args.spot.now c.args.v c.args.changed c.if-changed.false
