-- What is inserted at a key that is there replaces its value.
use Rattle.std.proofs.Common.{◌≡◌, Bool, true, false, cond, List, [], ◌∷◌, ap, refl, sym}
use Rattle.std.specs.Prelude.{IsSome, Some}
use Rattle.std.specs.Map.{lookup, set_value}
use Rattle.indexmap.specs.IndexMap.{insert_entry}

pub inserted_there : {K X : Type 0} (eq : K → K → Bool) (es : List (K × X)) (k : K) (v : X) → IsSome (lookup (eq k) es) → insert_entry eq es k v ≡ set_value (eq k) es v
inserted_there eq [] k v h = absurd (cc)
inserted_there eq (e ∷ es) k v h = elim (eq k e.0) as (λ b. IsSome (cond b (Some e.1) (lookup (eq k) es)) → cond b ((e.0, v) ∷ es) (e ∷ insert_entry eq es k v) ≡ cond b ((e.0, v) ∷ es) (e ∷ set_value (eq k) es v)) [
  | true ↦ (λ there. refl)
  | false ↦ (λ there. ap (λ l. e ∷ l) (inserted_there eq es k v there))
] h
