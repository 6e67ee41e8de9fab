use Rattle.std.proofs.Common.{take}
use Rattle.po_tree.specs.Declarations.{IsTypedef}
use Rattle.po_decl_states.proofs.words.is_typedef.Given as goal

abbrev pub invariant-loop-spec : goal.invariant-loop-spec
invariant-loop-spec l = IsTypedef (take l.spec-index l.specs) → ⊥
