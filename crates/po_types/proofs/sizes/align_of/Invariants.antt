use Rattle.std.proofs.Common.{◌≡◌}
use Rattle.po_types.specs.Types as types
use Rattle.po_types.proofs.sizes.align_of.Given as goal

abbrev pub invariant-loop-inner : goal.invariant-loop-inner
invariant-loop-inner l = types.align_of l.fn.target l.fn.structs l.fn.t ≡ types.align_of l.fn.target l.fn.structs l.inner
