use Rattle.std.proofs.Common.{◌∙◌, sym}
use Rattle.po_operate.proofs.Following.{copy_follows}
use Rattle.po_operate.proofs.accesses.copy_bytes.Goals as goal

pub returns-in_ok-onward-in-Some-pointer_value : goal.returns-in_ok-onward-in-Some-pointer_value
returns-in_ok-onward-in-Some-pointer_value c = λ p g align.
    copy_follows c.args.to.now c.args.from.now c.args.size c.args.frame.now c.onward.new.frame c.args.m.now.blocks c.copy.new.m.blocks c.in-Some.v c.in-Some-pointer_value.x c.in_ok-done-in-Some-pointer_value.done
    (sym c.pointer_value.ensures ∙ c.in-Some.is) (sym c.pointer_value-in-Some.ensures ∙ c.in-Some-pointer_value.is) c.in_ok-done-in-Some-pointer_value.ensures c.in_ok-onward-in-Some-pointer_value.ensures
