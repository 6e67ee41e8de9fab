use Rattle.std.proofs.Common.{◌≡◌, ◌++◌, ℕ, List, false, take}
use Rattle.po_symbols.specs.Names.{listed}
use Rattle.po_symbols.specs.Said.{ends_with_file, typed_in}
use Rattle.po_symbols.proofs.types.note_types.Given as goal

abbrev pub invariant-loop-one : goal.invariant-loop-one
invariant-loop-one l = (q : List ℕ) → ends_with_file (listed l.fn.said q) l.file ≡ false → listed l.said q ≡ listed l.fn.said q ++ typed_in q l.file (take l.one-index l.declared)
