-- Marks and hands that are one or that differ.
use Rattle.std.proofs.Common.{◌≡◌, refl, sym, inl, inr}
use Rattle.std.specs.Prelude.{Some}
use Rattle.po_core.specs.Decided.{IsDecided}
use Rattle.po_core.specs.declared.event.Hand.{Hand}
use Rattle.po_core.specs.declared.event.Mark.{Mark}
use Rattle.po_core.specs.declared.event.Mark.TheVariants.{Untaken, Taken, Settled}
use Rattle.po_core.specs.declared.obl.Verdict.{Verdict}

pub same_hand : {P : Type 0} (x y : Hand P) → Some (Some x) ≡ Some (Some y) → x ≡ y
same_hand x y q = cc

module _ {P N : Type 0} where
  pub settled_taken : (v : Verdict P N) → Settled v ≡ Taken → ⊥
  settled_taken v q = cc

  pub settled_untaken : (v : Verdict P N) → Settled v ≡ Untaken → ⊥
  settled_untaken v q = cc

  pub taken_untaken : ◌≡◌ {A = Mark P N} Taken Untaken → ⊥
  taken_untaken q = cc

  pub same_verdict : (v w : Verdict P N) → Settled v ≡ Settled w → v ≡ w
  same_verdict v w q = cc

  pub untaken_decided : (m : Mark P N) → IsDecided (m ≡ Untaken)
  untaken_decided Untaken = inl refl
  untaken_decided Taken = inr taken_untaken
  untaken_decided (Settled v) = inr (settled_untaken v)

  pub taken_decided : (m : Mark P N) → IsDecided (m ≡ Taken)
  taken_decided Untaken = inr (λ q. taken_untaken (sym q))
  taken_decided Taken = inl refl
  taken_decided (Settled v) = inr (settled_taken v)
