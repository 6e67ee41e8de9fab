use Rattle.std.proofs.Common.{arith}
use Rattle.po_link.proofs.Noted.{own_more}
use Rattle.po_link.proofs.scope.note_own.Goals as goal

pub loop-function-preserved : goal.loop-function-preserved
loop-function-preserved c = record {
  number = let next = c.in_ok-number.ensures in let at = c.loop-function.invariant.number in omega arith;
  names = own_more c.args.first c.loop-function.number c.loop-function.function-index c.args.functions.now c.function-item.result c.loop-function.names c.note_name.new.map
      c.loop-function-test.true c.function-item.is c.loop-function.invariant.number c.loop-function.invariant.names c.in_ok-note_name.ensures;
}
