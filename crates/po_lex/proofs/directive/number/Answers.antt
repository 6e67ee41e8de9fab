use Rattle.std.proofs.Common.{◌∙◌, sym, arith}
use Rattle.po_lex.proofs.Directives.{number_more}
use Rattle.po_lex.proofs.directive.number.Goals as goal

pub loop-end-preserved : goal.loop-end-preserved
loop-end-preserved c = record {
  few = omega (arith, c.with_digit-number.ensures);
  value = number_more c.loop-end.number c.with_digit-number.result c.args.line.now c.args.at c.loop-end.end c.loop-end-test.true (sym c.is_digit.ensures ∙ c.if-is_digit.true) c.with_digit-number.ensures c.loop-end.invariant.value;
}
