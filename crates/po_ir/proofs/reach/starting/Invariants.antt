use Rattle.std.proofs.Common.{◌≡◌, take}
use Rattle.po_ir.specs.General.{each_from}
use Rattle.po_ir.specs.Leading.{start_of}
use Rattle.po_ir.proofs.reach.starting.Given as goal

abbrev pub invariant-loop-place : goal.invariant-loop-place
invariant-loop-place l = record {
  marks : l.mark-items ≡ l.here;
  stack : l.stack ≡ each_from start_of 0 (take l.place l.mark-items);
}
