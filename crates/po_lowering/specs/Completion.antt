-- Which statements complete, and how deep labels stand.
use Rattle.std.specs.Prelude.{ℕ, suc, ◌+◌, length, List, [], ◌∷◌, ◌++◌, flat_map, map, Option, Some, None, Bool, true, false, cond, ◌||◌}
use Rattle.po_tree.specs.declared.statement.Stmt.{Stmt, fold-Stmt}
use Rattle.po_tree.specs.declared.statement.Stmt.TheOpen.{Stmt-F}
use Rattle.po_tree.specs.declared.statement.First.{First}
use Rattle.po_tree.specs.declared.statement.First.TheVariants as fi
use Rattle.po_lowering.specs.Naming.{is_same}

-- a block that isn't empty completes where its last statement does
abbrev pub last_of : List Bool → Bool
last_of [] = true
last_of (b ∷ []) = b
last_of (b ∷ c ∷ bs) = last_of (c ∷ bs)

-- return, goto, break and continue don't complete; an if with an else where one of its sides does; a label where its statement does; every
-- other statement does
abbrev pub completing : Stmt-F Bool → Bool
completing (Stmt-F.Block xs) = last_of xs
completing (Stmt-F.If x then_ None) = true
completing (Stmt-F.If x then_ (Some else_)) = then_ || else_
completing (Stmt-F.Label name body) = body
completing (Stmt-F.Goto name) = false
completing Stmt-F.Break = false
completing Stmt-F.Continue = false
completing (Stmt-F.Return x) = false
completing _ = true

unfoldable pub completes : Stmt → Bool
completes = fold-Stmt Bool completing

abbrev pub all_complete : List Stmt → Bool
all_complete xs = last_of (map completes xs)

-- a `for` that declares is a block of its own
abbrev pub opens : First → Bool
opens fi.Nothing = false
opens (fi.Value x) = false
opens (fi.Variables d) = true

abbrev pub within_first : First → ℕ → ℕ
within_first first n = cond (opens first) (suc n) n

abbrev pub if_any : {A B : Type 0} → (A → List B) → Option A → List B
if_any f None = []
if_any f (Some x) = f x

-- the labels of a statement, each with the number of blocks in the body that it stands in, from so many on
abbrev pub labelling : Stmt-F (ℕ → List (List ℕ × ℕ)) → ℕ → List (List ℕ × ℕ)
labelling (Stmt-F.Block xs) n = flat_map (λ (x : ℕ → List (List ℕ × ℕ)). x (suc n)) xs
labelling (Stmt-F.If x then_ else_) n = then_ n ++ if_any (λ (y : ℕ → List (List ℕ × ℕ)). y n) else_
labelling (Stmt-F.While x body) n = body n
labelling (Stmt-F.Do body x) n = body n
labelling (Stmt-F.For first test step body) n = body (within_first first n)
labelling (Stmt-F.Switch x body) n = body n
labelling (Stmt-F.Case x body) n = body n
labelling (Stmt-F.Default body) n = body n
labelling (Stmt-F.Label name body) n = (name, n) ∷ body n
labelling _ n = []

unfoldable pub labelled : Stmt → ℕ → List (List ℕ × ℕ)
labelled = fold-Stmt _ labelling

-- what is listed for a name first
abbrev pub first_of_name : List ℕ → List (List ℕ × ℕ) → Option ℕ
first_of_name name [] = None
first_of_name name ((other, n) ∷ rest) = cond (is_same name other) (Some n) (first_of_name name rest)

abbrev pub sum_of : List ℕ → ℕ
sum_of [] = 0
sum_of (n ∷ ns) = n + sum_of ns

abbrev pub declared_first : First → ℕ
declared_first fi.Nothing = 0
declared_first (fi.Value x) = 0
declared_first (fi.Variables d) = length d.parts

abbrev pub or_zero : Option ℕ → ℕ
or_zero None = 0
or_zero (Some n) = n

abbrev pub counting : Stmt-F ℕ → ℕ
counting (Stmt-F.Block xs) = sum_of xs
counting (Stmt-F.Declare d) = length d.parts
counting (Stmt-F.If x then_ else_) = then_ + or_zero else_
counting (Stmt-F.While x body) = body
counting (Stmt-F.Do body x) = body
counting (Stmt-F.For first test step body) = declared_first first + body
counting (Stmt-F.Switch x body) = body
counting (Stmt-F.Case x body) = body
counting (Stmt-F.Default body) = body
counting (Stmt-F.Label name body) = body
counting _ = 0

-- how many declarators stand in a statement
unfoldable pub declarators : Stmt → ℕ
declarators = fold-Stmt ℕ counting

abbrev pub case_counting : Stmt-F ℕ → ℕ
case_counting (Stmt-F.Block xs) = sum_of xs
case_counting (Stmt-F.If x then_ else_) = then_ + or_zero else_
case_counting (Stmt-F.While x body) = body
case_counting (Stmt-F.Do body x) = body
case_counting (Stmt-F.For first test step body) = body
case_counting (Stmt-F.Case x body) = suc body
case_counting (Stmt-F.Default body) = body
case_counting (Stmt-F.Label name body) = body
case_counting _ = 0

-- how many cases of the switch around it stand in a statement
unfoldable pub cases_in : Stmt → ℕ
cases_in = fold-Stmt ℕ case_counting
