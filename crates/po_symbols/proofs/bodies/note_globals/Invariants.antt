use Rattle.std.proofs.Common.{◌≡◌, ◌++◌, ℕ, List, take}
use Rattle.std.specs.Prelude.{flat_map}
use Rattle.po_symbols.specs.Names.{listed}
use Rattle.po_symbols.specs.Said.{global_marks}
use Rattle.po_symbols.proofs.bodies.note_globals.Given as goal

abbrev pub invariant-loop-global : goal.invariant-loop-global
invariant-loop-global l = (q : List ℕ) → listed l.said q ≡ listed l.fn.said q ++ flat_map (global_marks q l.file) (take l.global-index l.globals)
