-- Files that are held, and that are put back.
use Rattle.std.proofs.Common.{◌≡◌, ℕ, ◌+◌, ◌<◌, ◌≤◌, ap, subst, inl, inr, arith}
use Rattle.std.proofs.lemmas.Bool.{cases_eq}
use Rattle.po_base.specs.declared.numbers.FileNo.{FileNo}
use Rattle.po_core.specs.Core.{CoreState, IsHeld, Frees}
use Rattle.po_worker.specs.Alone.{NoneHeld}
use Rattle.po_worker.specs.Work.{HoldsNoMore}
use Rattle.po_marks.proofs.InLine.{same_file}

module _ {P N : Type 0} where
  -- a file is free, and the others are held as before
  pub freed_no_more : (file : FileNo) (s t : CoreState P N) → Frees file s t → HoldsNoMore s t
  freed_no_more file s t free f held = elim (cases_eq f.0 file.0) [
    | inl q ↦ absurd (free.free (subst (λ (z : FileNo). IsHeld t z) (same_file f file q) held))
    | inr ne ↦ (held.0, (free.other_hands f held.0 (λ e. ne (ap (λ (z : FileNo). z.0) e))).0 held.1)
  ]

  -- the files up to one more
  pub one_more_free : (n : ℕ) (file : FileNo) (s t : CoreState P N) → file.0 ≡ n → ¬ IsHeld t file → HoldsNoMore s t → ((f : FileNo) → f.0 < n → ¬ IsHeld s f) → (f : FileNo) → f.0 < n + 1 → ¬ IsHeld t f
  one_more_free n file s t is free less before f l held = elim (cases_eq f.0 file.0) [
    | inl q ↦ free (subst (λ (z : FileNo). IsHeld t z) (same_file f file q) held)
    | inr ne ↦ before f (let other : f.0 ≡ file.0 → ⊥ = ne in omega arith) (less f held)
  ]

  -- none is held where none of the first files is and there are no others
  pub none_held : (n files : ℕ) (s : CoreState P N) → files ≤ n → ((f : FileNo) → f.0 < n → ¬ IsHeld s f) → ((f : FileNo) → IsHeld s f → f.0 < files) → NoneHeld s
  none_held n files s l free there f held = free f (let w : f.0 < files = there f held in omega arith) held
