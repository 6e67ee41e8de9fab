-- Lists of what is made of items and their places.
use Rattle.std.specs.Prelude.{ℕ, ◌+◌, ◌++◌, List, [], ◌∷◌}

-- what f makes of each item and its place, which is counted from n on
abbrev pub each_from : {X Y : Type 0} → (ℕ → X → List Y) → ℕ → List X → List Y
each_from f n [] = []
each_from f n (x ∷ xs) = f n x ++ each_from f (n + 1) xs
