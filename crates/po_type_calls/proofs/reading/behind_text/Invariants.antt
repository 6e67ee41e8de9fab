use Rattle.std.proofs.Common.{◌≡◌, ◌∷◌, take}
use Rattle.po_types.specs.declared.format.Spec.TheVariants as f
use Rattle.po_type_calls.proofs.reading.behind_text.Given as goal

abbrev pub invariant-loop-spec : goal.invariant-loop-spec
invariant-loop-spec l = l.all ≡ f.Text ∷ take l.spec-index l.specs
