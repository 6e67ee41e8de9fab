-- Lists of one length, place by place.
use Rattle.std.specs.Prelude.{Bool, true, false, ◌&&◌, List, [], ◌∷◌}

-- whether of two lists each item is below the other's at its place
abbrev pub each_within : {S : Type 0} → (S → S → Bool) → List S → List S → Bool
each_within w [] [] = true
each_within w [] (y ∷ ys) = false
each_within w (x ∷ xs) [] = false
each_within w (x ∷ xs) (y ∷ ys) = w x y && each_within w xs ys
