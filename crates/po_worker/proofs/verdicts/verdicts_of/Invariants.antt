use Rattle.std.proofs.Common.{◌≡◌, take, map}
use Rattle.po_ledger.specs.Calls.{KeepsTicket}
use Rattle.po_ledger.specs.View.{items_of}
use Rattle.po_worker.proofs.verdicts.verdicts_of.Given as goal

abbrev pub invariant-loop-k : goal.invariant-loop-k
invariant-loop-k g l = KeepsTicket l.initial.t l.t × (l.verdicts.items ≡ map g.J.Naming.book.verdict_of (take l.k (items_of l.initial.t.hand)))
