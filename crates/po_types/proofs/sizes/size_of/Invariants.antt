use Rattle.std.proofs.Common.{◌≡◌, ◌*◌}
use Rattle.std.specs.Option.{option_map}
use Rattle.po_types.specs.Types as types
use Rattle.po_types.proofs.sizes.size_of.Given as goal

abbrev pub invariant-loop-inner : goal.invariant-loop-inner
invariant-loop-inner l = types.bytes_of l.fn.target l.fn.structs l.fn.t ≡ option_map (λ bytes. l.times * bytes) (types.bytes_of l.fn.target l.fn.structs l.inner)
