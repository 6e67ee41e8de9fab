use Rattle.std.proofs.Common.{◌≡◌, ◌++◌, take}
use Rattle.std.specs.Prelude.{flat_map}
use Rattle.po_link.specs.Joined.{opaque_of}
use Rattle.po_link.proofs.join.add_opaque.Given as goal

abbrev pub invariant-loop-piece : goal.invariant-loop-piece
invariant-loop-piece l = l.opaque ≡ l.fn.opaque ++ flat_map opaque_of (take l.piece-index l.pieces)
