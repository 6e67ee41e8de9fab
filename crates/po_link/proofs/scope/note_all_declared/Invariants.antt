use Rattle.std.proofs.Common.{◌≡◌, ℕ, List, take, cond, bytes_eq, None}
use Rattle.std.specs.List.{list_any}
use Rattle.std.specs.Option.{option_or}
use Rattle.po_ir.specs.declared.project.CTypeText.{CTypeText}
use Rattle.po_symbols.specs.Names.{named}
use Rattle.po_link.proofs.scope.note_all_declared.Given as goal

abbrev pub invariant-loop-pair : goal.invariant-loop-pair
invariant-loop-pair l = (q : List ℕ) → named l.names q ≡ option_or (named l.fn.names q) (cond (list_any (λ (d : List ℕ × CTypeText). bytes_eq d.0 q) (take l.pair-index l.declared)) (named l.seen.numbers q) None)
