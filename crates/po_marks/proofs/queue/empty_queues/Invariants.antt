use Rattle.std.proofs.Common.{◌≡◌, replicate, [], false}
use Rattle.po_marks.specs.declared.queue.Queue.{Queue}
use Rattle.po_marks.proofs.queue.empty_queues.Given as goal

abbrev pub invariant-loop-made : goal.invariant-loop-made
invariant-loop-made g l = l.queues.items ≡ replicate l.made (record { back = []; fresh = []; is_held = false })
