-- What follows from what answers tell.
use Rattle.std.proofs.Common.{◌≡◌, Bool, true, false, Option, Some, None, refl, sym, ◌∙◌}
use Rattle.std.specs.Prelude.{MatchBool, MatchOption}
use Rattle.std.specs.Option.{is_some}
use Rattle.po_constants.specs.Found.{Finds}

-- the same found by another word
pub finds_as : {A : Type 0} {P Q : A → Type 0} (o : Option A) → ((x : A) → P x → Q x) → ((x : A) → Q x → P x) → Finds P o → Finds Q o
finds_as None f g h = λ x q. h x (g x q)
finds_as (Some x) f g h = f x h

pub is_some_told : {A N P' : Type 0} {P : A → Type 0} (o : Option A) → MatchOption o N P → ((x : A) → P x → P') → (N → P' → ⊥) → MatchBool (is_some o) P' (P' → ⊥)
is_some_told None h f g = g h
is_some_told (Some x) h f g = f x h

-- whether there is a value, told of what it equals
pub some_told : {A : Type 0} (b : Bool) (o p : Option A) → b ≡ is_some o → o ≡ p → MatchBool b ((x : A) × (p ≡ Some x)) ((x : A) × (p ≡ Some x) → ⊥)
some_told {A = A} b None p q e = rw q (λ h. let f : None ≡ Some h.0 = e ∙ h.1 in absurd cc)
some_told {A = A} b (Some x) p q e = rw q (x, sym e)

-- a test that holds just where P does, told of what P decides
pub decided : {P Q : Type 0} (b : Bool) → (b ≡ true → P) × (P → b ≡ true) → (P → Q) → ((P → ⊥) → Q → ⊥) → MatchBool b Q (Q → ⊥)
decided true e f g = f (e.0 refl)
decided false e f g = g (λ p. let k = e.1 p in absurd cc)

pub none_left : {A : Type 0} (o : Option A) → false ≡ is_some o → o ≡ None
none_left None q = refl
none_left (Some x) q = absurd cc
