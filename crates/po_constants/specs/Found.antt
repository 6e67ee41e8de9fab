-- What a search answers.
use Rattle.std.specs.Prelude.{MatchOption, Option}

-- the answer is the one that the relation has, and None exactly where it has none
abbrev pub Finds : {A : Type 0} → (A → Type 0) → Option A → Type 0
Finds {A} P answer = MatchOption answer ((x : A) → P x → ⊥) P
