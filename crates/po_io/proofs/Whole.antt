-- What is known of a file after several reads.
use Rattle.std.proofs.Common.{◌≡◌, ℕ, ◌≤◌, List, [], ◌++◌, take, drop, length, refl, sym, ◌∙◌, ap, append_assoc, arith, length-drop}
use Rattle.std.proofs.lemmas.Grind.{common_steps}
use Rattle.std.specs.Prelude.{Option, Some, None, IfSome}
use Rattle.po_io.specs.Reading.{Gives}
use Rattle.po_io.specs.Progress.{IsFront}

-- the bytes behind the first ones
behind : (read rest : List ℕ) → drop (length read) (read ++ rest) ≡ rest
behind read rest = grind (arith, common_steps)

-- what a read gave stands at the front of its buffer
front : (n : ℕ) (given old new : List ℕ) → n ≤ length given → new ≡ take n given ++ drop n old → take n new ≡ take n given
front n given old new enough placed = grind (arith, common_steps)

-- the first n and those behind them are all
both : (n : ℕ) (xs : List ℕ) → take n xs ++ drop n xs ≡ xs
both n xs = grind (arith, common_steps)

-- no bytes are the first ones of any file
pub front_nothing : (told : Option (List ℕ)) → IsFront told []
front_nothing None = tt
front_nothing (Some bytes) = (bytes, refl)

-- with what a read behind the first bytes gives, they are the first bytes still
pub front_more : (told : Option (List ℕ)) (read old new : List ℕ) (at n : ℕ) → at ≡ length read → IsFront told read → IfSome told (λ bytes. Gives bytes at old new n) → IsFront told (read ++ take n new)
front_more None read old new at n here first given = tt
front_more (Some bytes) read old new at n here (rest, is) given =
    let left : drop at bytes ≡ rest = rw (here, is) (behind read rest) in
    let enough : n ≤ length (drop at bytes) = omega (arith, given.left, length-drop at bytes) in
    let taken : take n new ≡ take n rest = front n (drop at bytes) old new enough given.placed ∙ ap (λ xs. take n xs) left in
    let all : read ++ (take n rest ++ drop n rest) ≡ read ++ rest = ap (λ xs. read ++ xs) (both n rest) in
    (drop n rest, is ∙ sym all ∙ sym (append_assoc read (take n rest) (drop n rest)) ∙ ap (λ xs. (read ++ xs) ++ drop n rest) (sym taken))
