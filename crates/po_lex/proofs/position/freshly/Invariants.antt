use Rattle.std.proofs.Common.{◌≡◌, ◌≤◌, length, take}
use Rattle.po_lex.specs.Division.{freshly}
use Rattle.po_lex.proofs.position.freshly.Given as goal

abbrev pub invariant-loop-end : goal.invariant-loop-end
invariant-loop-end l = record {
  within : l.end ≤ length l.text;
  same : freshly l.fn.fresh (take l.end l.text) ≡ freshly l.fn.fresh l.text;
}

abbrev pub decreases-loop-end : goal.decreases-loop-end
decreases-loop-end l = l.end
