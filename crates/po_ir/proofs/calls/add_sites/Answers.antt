use Rattle.po_ir.specs.Calls.{node_call}
use Rattle.po_ir.proofs.General.{each_from-onto}
use Rattle.po_ir.proofs.calls.add_sites.Goals as goal

pub loop-place-preserved : goal.loop-place-preserved
loop-place-preserved c = record {
  nodes = c.loop-place.invariant.nodes;
  sites = each_from-onto (node_call c.args.callee c.args.fun.0) _ _ _ _ _ _ _ c.loop-place-test.true c.node-item.is c.in_ok-counted.ensures c.loop-place.invariant.sites c.in_ok-add_site.ensures;
}
