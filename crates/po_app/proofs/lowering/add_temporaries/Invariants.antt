use Rattle.std.proofs.Common.{◌≡◌, ◌++◌, replicate}
use Rattle.po_app.specs.Lowering.{temporary_register}
use Rattle.po_app.proofs.lowering.add_temporaries.Given as goal

abbrev pub invariant-loop-taken : goal.invariant-loop-taken
invariant-loop-taken l = l.regs ≡ l.initial.regs ++ replicate l._taken temporary_register
