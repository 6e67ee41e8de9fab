use Rattle.std.proofs.Common.{◌≡◌, map, take}
use Rattle.po_app.proofs.report_text.names_in.Given as goal

abbrev pub invariant-loop-register : goal.invariant-loop-register
invariant-loop-register l = l.names ≡ map (λ r. r.name) (take l.register-index l.register-items)
