-- Sets of whole numbers, kept as the ascending list of them.
use Rattle.std.specs.Prelude.{nat_le, Bool, cond, ℤ, List, [], ◌∷◌, length, ◌⊎◌, ◌≡◌, fold, ◌<ℤ◌}
use Rattle.std.specs.List.{list_any, list_all}
use Rattle.std.specs.Ordering.{int_eq, int_cmp}
use Rattle.std.specs.BTreeSet.{insert_key}
use Rattle.po_interval.specs.declared.members.Members.{Members}
use Rattle.po_interval.specs.declared.members.Members.TheVariants.{Few, Any}

-- v is one of the numbers
abbrev pub IsAmong : ℤ → List ℤ → Type 0
IsAmong v [] = ⊥
IsAmong v (x ∷ xs) = (x ≡ v) ⊎ IsAmong v xs

-- each number is below those after it
abbrev pub IsBelowAll : ℤ → List ℤ → Type 0
IsBelowAll v xs = (w : ℤ) → IsAmong w xs → v <ℤ w

abbrev pub IsAscending : List ℤ → Type 0
IsAscending [] = Unit {0}
IsAscending (x ∷ xs) = IsBelowAll x xs × IsAscending xs

abbrev pub has : List ℤ → ℤ → Bool
has xs v = list_any (λ x. int_eq x v) xs

abbrev pub numbers_within : List ℤ → List ℤ → Bool
numbers_within xs ys = list_all (has ys) xs

-- the set with more numbers put in
abbrev pub insert_all : List ℤ → List ℤ → List ℤ
insert_all xs more = fold (insert_key int_cmp) xs more

-- the numbers of a list, ascending and each once
abbrev pub ascending : List ℤ → List ℤ
ascending xs = insert_all [] xs

-- a set of at most eight numbers, or any number
abbrev pub few : List ℤ → Members
few xs = cond (nat_le (length xs) 8) (Few xs) Any
