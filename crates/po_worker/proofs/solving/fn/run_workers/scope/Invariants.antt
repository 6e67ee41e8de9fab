use Rattle.po_worker.proofs.solving.fn.run_workers.scope.Given as goal

abbrev pub invariant-loop-before : goal.invariant-loop-before
invariant-loop-before g l = Unit {0}
