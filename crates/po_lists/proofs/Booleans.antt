-- Truth values.
use Rattle.std.proofs.Common.{◌≡◌, ◌⊎◌, Bool, true, false, refl, inl, inr}

pub bool_cases : (b : Bool) → (b ≡ true) ⊎ (b ≡ false)
bool_cases true = inl refl
bool_cases false = inr refl

pub not_both_truths : {b : Bool} → b ≡ true → b ≡ false → ⊥
not_both_truths t f = cc

pub never_both : {A : Type 0} {b : Bool} → b ≡ true → b ≡ false → A
never_both t f = absurd (not_both_truths t f)

pub false_unless_true : (b : Bool) → (b ≡ true → ⊥) → b ≡ false
false_unless_true true never = absurd (never refl)
false_unless_true false never = refl
