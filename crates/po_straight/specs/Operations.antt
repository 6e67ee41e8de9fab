-- How many operators and calls each kind of expression has.
use Rattle.std.proofs.Common.{◌≡◌, ℕ, ◌+◌, List, [], ◌∷◌, map, sum, ap, sym, ◌∙◌, refl, arith}
use Rattle.std.specs.Prelude.{sum_by}
use Rattle.std.proofs.lemmas.List.Sums.{sum_by-cons}
use Rattle.po_base.specs.declared.operators.Op.{Op}
use Rattle.po_straight.specs.declared.expression.Expression.{Expression, fold-roll-Expression}
use Rattle.po_straight.specs.declared.expression.Expression.TheVariants as e
use Rattle.po_straight.specs.declared.expression.Expression.TheOpen.{Expression-F}
use Rattle.po_straight.specs.Definitions.{operations, operations_of}

pub operations-Parameter : (n : ℕ) → operations (e.Parameter n) ≡ 0
unfolding operations
operations-Parameter n = ap operations (sym (e.rolls-Parameter n)) ∙ fold-roll-Expression _ operations_of (Expression-F.Parameter n)

pub operations-Constant : (value : ℕ) → operations (e.Constant value) ≡ 0
unfolding operations
operations-Constant value = ap operations (sym (e.rolls-Constant value)) ∙ fold-roll-Expression _ operations_of (Expression-F.Constant value)

pub operations-Paren : (x : Expression) → operations (e.Paren x) ≡ operations x
unfolding operations
operations-Paren x = ap operations (sym (e.rolls-Paren x)) ∙ fold-roll-Expression _ operations_of (Expression-F.Paren x)

pub operations-Call : (f line : ℕ) (xs : List Expression) → operations (e.Call f line xs) ≡ sum (map operations xs) + 1
unfolding operations
operations-Call f line xs = ap operations (sym (e.rolls-Call f line xs)) ∙ fold-roll-Expression _ operations_of (Expression-F.Call f line xs)

pub operations-Binary : (o : Op) (line : ℕ) (x y : Expression) → operations (e.Binary o line x y) ≡ operations x + operations y + 1
unfolding operations
operations-Binary o line x y = ap operations (sym (e.rolls-Binary o line x y)) ∙ fold-roll-Expression _ operations_of (Expression-F.Binary o line x y)

-- the operators and calls of some expressions
pub sum_mapped : (xs : List Expression) → sum (map operations xs) ≡ sum_by operations xs
sum_mapped [] = refl
sum_mapped (x ∷ xs) =
    let h = sum_mapped xs in
    omega (arith, sum_by-cons (λ n. n) (operations x) (map operations xs), sum_by-cons operations x xs)
