-- What tests tell, one behind the other.
use Rattle.std.proofs.Common.{◌≡◌, ◌↔◌, refl, sym, subst}
use Rattle.std.specs.Prelude.{Bool, true, false, not, IsTrue}

pub not_tells : {A : Type 0} (b : Bool) → (IsTrue b ↔ A) → IsTrue (not b) ↔ (A → ⊥)
not_tells true p = (λ h. absurd (cc), λ n. absurd (n (p.0 refl)))
not_tells false p = (λ h a. let yes = p.1 a in absurd (cc), λ n. refl)

-- where the first of two doesn't hold
pub first_fails : {A B C : Type 0} (a : Bool) → (IsTrue a ↔ A) → ((A × B) ↔ C) → a ≡ false → IsTrue false ↔ C
first_fails a p r fails = (λ h. absurd (cc), λ x. let yes = p.1 (r.1 x).0 in absurd (cc))

-- where it holds
pub second_tells : {A B C : Type 0} (a b : Bool) → (IsTrue a ↔ A) → (IsTrue b ↔ B) → ((A × B) ↔ C) → a ≡ true → IsTrue b ↔ C
second_tells a b p q r holds = (λ h. r.0 (p.0 holds, q.0 h), λ x. q.1 (r.1 x).1)

-- the same where the test is of what mustn't be
pub first_met : {A B C : Type 0} (a : Bool) → (IsTrue (not a) ↔ A) → ((A × B) ↔ C) → a ≡ true → IsTrue false ↔ C
first_met a p r met = (λ h. absurd (cc), λ x. let none : not a ≡ true = p.1 (r.1 x).0 in let other : not true ≡ true = subst (λ b. not b ≡ true) met none in absurd (cc))

pub then_tells : {A B C : Type 0} (a b : Bool) → (IsTrue (not a) ↔ A) → (IsTrue b ↔ B) → ((A × B) ↔ C) → a ≡ false → IsTrue b ↔ C
then_tells a b p q r none = (λ h. r.0 (p.0 (subst (λ b. not b ≡ true) (sym none) refl), q.0 h), λ x. q.1 (r.1 x).1)
