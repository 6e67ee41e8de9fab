-- What follows from what tests answer.
use Rattle.std.proofs.Common.{◌≡◌, Bool, true, false, Option, Some, None, refl}
use Rattle.std.specs.Option.{is_some}
use Rattle.po_constants.specs.Found.{Finds}
use Rattle.po_choices.specs.Answering.{IsWhether}

-- the same told of another word
pub whether_as : {P Q : Type 0} (b : Bool) → (P → Q) → (Q → P) → IsWhether P b → IsWhether Q b
whether_as true f g h = f h
whether_as false f g h = λ q. h (g q)

-- whether something is found
pub is_found : {A : Type 0} {P : A → Type 0} {Q : Type 0} (o : Option A) → ((x : A) → P x → Q) → (Q → (x : A) × P x) → Finds P o → IsWhether Q (is_some o)
is_found None f g h = λ q. let k = g q in h k.0 k.1
is_found (Some x) f g h = f x h

-- a test that holds just where P does
pub whether_true : {P Q : Type 0} (b : Bool) → (b ≡ true → P) × (P → b ≡ true) → (P → Q) → (Q → P) → IsWhether Q b
whether_true true e f g = f (e.0 refl)
whether_true false e f g = λ q. let k : false ≡ true = e.1 (g q) in absurd cc

-- the same found by another word
pub found_as : {A : Type 0} {P Q : A → Type 0} (o : Option A) → ((x : A) → P x → Q x) → ((x : A) → Q x → P x) → Finds P o → Finds Q o
found_as None f g h = λ x q. h x (g x q)
found_as (Some x) f g h = f x h
