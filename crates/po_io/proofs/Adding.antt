-- What a sink holds after several writes.
use Rattle.std.proofs.Common.{◌≡◌, ℕ, ◌+◌, ◌≤◌, List, [], ◌++◌, take, drop, length, refl, sym, ◌∙◌, ap, subst, append_assoc, arith, ◌∷◌, zero, suc, zero-add, suc-add, ◌-◌, length-drop}
use Rattle.std.proofs.lemmas.Grind.{common_steps}
use Rattle.std.specs.Prelude.{Option, Some, None}
use Rattle.po_io.specs.Writing.{Adds}

-- some bytes and then others are both, one after the other
pub adds_along : (before between after : Option (List ℕ)) (xs ys : List ℕ) → Adds before between xs → Adds between after ys → Adds before after (xs ++ ys)
adds_along None between after xs ys first second = tt
adds_along (Some old) between after xs ys first second =
    (let second' : Adds (Some (old ++ xs)) after ys = subst (λ v. Adds v after ys) first second in second' ∙ ap Some (append_assoc old xs ys))

take_nil : (n : ℕ) → take {A = ℕ} n [] ≡ []
take_nil zero = refl
take_nil (suc n) = refl

-- the first bytes, by the first of them and those behind
pub take-more : (i n : ℕ) (xs : List ℕ) → take (i + n) xs ≡ take i xs ++ take n (drop i xs)
take-more zero n xs = rw zero-add refl
take-more (suc i) n [] = take_nil (suc i + n) ∙ sym (take_nil n)
take-more (suc i) n (x ∷ xs) = let more = take-more i n xs in rw suc-add (ap (λ v. x ∷ v) more)

-- a piece up to the end is what is left
rest : (at : ℕ) (xs : List ℕ) → take (length xs - at) (drop at xs) ≡ drop at xs
rest at xs = grind (arith, common_steps)

-- a write of a front of what is left adds to what was written
pub adds_more : (before between after : Option (List ℕ)) (xs : List ℕ) (at n : ℕ) → Adds before between (take at xs) → Adds between after (take n (take (length xs - at) (drop at xs))) → Adds before after (take (at + n) xs)
adds_more before between after xs at n first second =
    rw take-more (adds_along before between after (take at xs) (take n (drop at xs)) first (rw (rest at xs) at second))

-- and stays within the bytes
pub within : (at n : ℕ) (xs : List ℕ) → at ≤ length xs → n ≤ length (take (length xs - at) (drop at xs)) → at + n ≤ length xs
within at n xs h g = let g' = rw (rest at xs) at g in omega (arith, length-drop at xs)
