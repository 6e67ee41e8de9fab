use Rattle.std.proofs.Common.{◌∙◌, inl, inr, refl, subst, sym}
use Rattle.std.specs.List.{Contains}
use Rattle.po_ledger.proofs.Assuming.{adds_known}
use Rattle.po_ledger.proofs.assumed.assume.Goals as goal

pub returns-then-is_assumed-clause-marks : goal.returns-then-is_assumed-clause-marks
returns-then-is_assumed-clause-marks g c = adds_known _ _ (c.requires.supported (c.is_assumed.ensures.0 c.if-is_assumed.true))

pub add_supports-requires-clause-there : goal.add_supports-requires-clause-there
add_supports-requires-clause-there g c = λ h n k. c.requires.callers h n (subst (λ z. Contains z (h, n)) (c.as_slice.ensures ∙ c.call_sites_at-sites.ensures) k)
