-- What a remark keeps.
use Rattle.std.proofs.Common.{◌≡◌, refl, sym, ◌∙◌, subst, inl, inr}
use Rattle.po_core.specs.Core.{CoreState, HasMark, IsKnown, IsSettled, Remarks}
use Rattle.po_core.specs.Decided.{IsDecided}
use Rattle.po_core.specs.declared.event.Mark.{Mark}
use Rattle.po_core.specs.declared.event.Mark.TheVariants.{Settled}
use Rattle.po_core.specs.declared.obl.Obl.{Obl}
use Rattle.po_core.specs.declared.obl.Verdict.{Verdict}

module _ {P N : Type 0} (s t : CoreState P N) (W : Obl P → Type 0) (old new : Mark P N) (r : Remarks s t W old new) where
  -- what is known after a remark was known before, and the other way round
  pub remarked_known : (o : Obl P) (m : Mark P N) → HasMark t o m → IsKnown s o
  remarked_known o m h = elim ((r o m).0 h) [ inl x ↦ (old, x.1) | inr x ↦ (m, x.0) ]

  pub known_remarked : (o : Obl P) (m : Mark P N) → HasMark s o m → IsDecided ((m ≡ old) × W o) → IsKnown t o
  known_remarked o m h d = elim d [
    | inl x ↦ (new, (r o new).1 (inl (refl, subst (λ (k : Mark P N). HasMark s o k) x.0 h, x.1)))
    | inr x ↦ (m, (r o m).1 (inr (h, x)))
  ]

  pub settled_before : ((v : Verdict P N) → Settled v ≡ new → ⊥) → (o : Obl P) (v : Verdict P N) → IsSettled t o v → IsSettled s o v
  settled_before other o v h = elim ((r o (Settled v)).0 h) [ inl x ↦ absurd (other v x.0) | inr x ↦ x.0 ]

  pub one_mark_after : ((o : Obl P) (m n : Mark P N) → HasMark s o m → HasMark s o n → m ≡ n) → (o : Obl P) (m n : Mark P N) → HasMark t o m → HasMark t o n → m ≡ n
  one_mark_after one o m n h k = elim ((r o m).0 h) [
    | inl x ↦ elim ((r o n).0 k) [ inl y ↦ x.0 ∙ sym y.0 | inr y ↦ absurd (y.1 (one o n old y.0 x.1, x.2)) ]
    | inr x ↦ elim ((r o n).0 k) [ inl y ↦ absurd (x.1 (one o m old x.0 y.1, y.2)) | inr y ↦ one o m n x.0 y.0 ]
  ]
