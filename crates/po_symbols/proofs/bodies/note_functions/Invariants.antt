use Rattle.std.proofs.Common.{◌≡◌, ◌++◌, ℕ, List, take}
use Rattle.std.specs.Prelude.{flat_map}
use Rattle.po_symbols.specs.Names.{listed}
use Rattle.po_symbols.specs.Said.{function_marks}
use Rattle.po_symbols.proofs.bodies.note_functions.Given as goal

abbrev pub invariant-loop-function : goal.invariant-loop-function
invariant-loop-function l = (q : List ℕ) → listed l.said q ≡ listed l.fn.said q ++ flat_map (function_marks q l.file) (take l.function-index l.functions)
