-- A part of a part of a list.
use Rattle.std.proofs.Common.{ℕ, length, min, ◌≡◌, ◌≤◌, ◌+◌, ◌-◌, List, take, drop, arith, sym, ap, ◌∙◌}
use Rattle.std.proofs.lemmas.List.{drop-take, drop-drop, take-take, length-take}

-- The part from a to b of the m items behind place f is the part from f + a to f + b of the whole.
pub take-part : {X : Type 0} (xs : List X) (f a b m : ℕ) → a ≤ b → b ≤ m →
    take ((f + b) - (f + a)) (drop (f + a) xs) ≡ take (b - a) (drop a (take m (drop f xs)))
take-part xs f a b m h k =
    let e : (f + b) - (f + a) ≡ b - a = omega arith in
    let g : m ≡ a + (m - a) = omega arith in
    let l : b - a ≤ m - a = omega arith in
    ap (λ n. take n (drop (f + a) xs)) e
    ∙ ap (take (b - a)) (sym (drop-drop a f xs))
    ∙ sym (take-take (b - a) (m - a) (drop a (drop f xs)) l)
    ∙ ap (take (b - a)) (sym (drop-take a (m - a) (drop f xs)))
    ∙ ap (λ n. take (b - a) (drop a (take n (drop f xs)))) (sym g)

-- What lies within the first n items is at most n.
pub within_part : {X : Type 0} (ys zs : List X) (n b : ℕ) → ys ≡ take n zs → b ≤ length ys → b ≤ n
within_part ys zs n b q h =
    let e : length ys ≡ min n (length zs) = ap length q ∙ length-take n zs in
    omega arith
