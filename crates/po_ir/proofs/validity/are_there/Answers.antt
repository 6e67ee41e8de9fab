use Rattle.std.proofs.Common.{arith, refl, sym, take_all}
use Rattle.std.proofs.lemmas.List.Elements.{All-more, All-same}
use Rattle.po_ir.specs.Valid.{IsThere}
use Rattle.po_ir.proofs.validity.are_there.Goals as goal

pub loop-operand-preserved : goal.loop-operand-preserved
loop-operand-preserved c = All-more (IsThere c.args.registers) c.args.operands.now c.loop-operand.operand-index _ (omega arith) c.loop-operand.invariant (c.if-not-is_there.ensures.0 refl)

pub returns : goal.returns
returns c = (λ _. All-same (IsThere c.args.registers) _ _ (sym (take_all c.loop-operand.operand-index c.args.operands.now (omega arith))) c.loop-operand.invariant, λ _. refl)
