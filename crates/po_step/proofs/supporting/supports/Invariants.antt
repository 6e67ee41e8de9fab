use Rattle.std.specs.Prelude.{◌≡◌, take}
use Rattle.std.specs.List.{flat_map}
use Rattle.po_meaning.specs.Checks.{supports_in}
use Rattle.po_step.proofs.supporting.supports.Given as goal

abbrev pub invariant-loop-line : goal.invariant-loop-line
invariant-loop-line l = l.list ≡ flat_map (supports_in l.p l.f l.n) (take l.line-index l.line-items)
