-- Functions as their names and their numbers of parameters.
use Rattle.std.proofs.Common.{◌≡◌, ℕ, zero, suc, List, [], ◌∷◌, ◌++◌, length, map, ap, refl, arith}
use Rattle.std.specs.Prelude.{Some, slice_get, slice_index_or}
use Rattle.po_straight.specs.Named.{signatures}

pub names_signed : (names : List (List ℕ)) (counts : List ℕ) → length names ≡ length counts → map (λ f. f.name) (signatures names counts) ≡ names
names_signed [] counts h = refl
names_signed (name ∷ names) [] h = absurd (omega arith)
names_signed (name ∷ names) (count ∷ counts) h = ap (λ v. name ∷ v) (names_signed names counts (omega arith))

pub signed_at : (names : List (List ℕ)) (counts : List ℕ) (n : ℕ) (name : List ℕ) → length names ≡ length counts → slice_get names n ≡ Some name →
    slice_get (signatures names counts) n ≡ Some (record { name = name; count = slice_index_or counts n 0 })
signed_at [] counts n name h q = absurd cc
signed_at (own ∷ names) [] n name h q = absurd (omega arith)
signed_at (own ∷ names) (count ∷ counts) zero name h q = let same : own ≡ name = cc in ap (λ v. Some (record { name = v; count = count })) same
signed_at (own ∷ names) (count ∷ counts) (suc n) name h q = signed_at names counts n name (omega arith) q

pub signed_push : (names : List (List ℕ)) (counts : List ℕ) (name : List ℕ) (count : ℕ) → length names ≡ length counts →
    signatures (names ++ name ∷ []) (counts ++ count ∷ []) ≡ signatures names counts ++ record { name = name; count = count } ∷ []
signed_push [] [] name count h = refl
signed_push [] (c ∷ cs) name count h = absurd (omega arith)
signed_push (n ∷ ns) [] name count h = absurd (omega arith)
signed_push (n ∷ ns) (c ∷ cs) name count h = ap (λ v. record { name = n; count = c } ∷ v) (signed_push ns cs name count (omega arith))

pub signed_long : (names : List (List ℕ)) (counts : List ℕ) → length names ≡ length counts → length (signatures names counts) ≡ length names
signed_long [] counts h = refl
signed_long (n ∷ ns) [] h = absurd (omega arith)
signed_long (n ∷ ns) (c ∷ cs) h = ap suc (signed_long ns cs (omega arith))
