use Rattle.std.proofs.Common.{[]}
use Rattle.po_ir.specs.Calls.{function_calls}
use Rattle.po_ir.proofs.General.{each_from-onto}
use Rattle.po_ir.proofs.calls.call_sites.Goals as goal

pub loop-place-preserved : goal.loop-place-preserved
loop-place-preserved c = record {
  functions = c.loop-place.invariant.functions;
  sites = each_from-onto (function_calls c.args.callee) _ _ _ _ [] _ _ c.loop-place-test.true c.function-item.is c.in_ok-counted.ensures c.loop-place.invariant.sites c.in_ok-add_sites.ensures;
}
