use Rattle.std.proofs.Common.{◌≡◌, map, drop}
use Rattle.po_types.specs.FormatReading.{first_row}
use Rattle.po_types.proofs.format.letters_of.Given as goal

abbrev pub invariant-loop-i : goal.invariant-loop-i
invariant-loop-i l = first_row (map (λ r. (r.0.now, r.1)) (drop l.i l.rows)) l.text ≡ first_row (map (λ r. (r.0.now, r.1)) l.rows) l.text
