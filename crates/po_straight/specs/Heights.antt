-- The height of each kind of expression.
use Rattle.std.proofs.Common.{◌≡◌, ℕ, zero, suc, ◌+◌, ◌<◌, ◌≤◌, List, [], ◌∷◌, length, get_or, map, ap, sym, ◌∙◌, arith}
use Rattle.std.specs.Prelude.{max}
use Rattle.po_base.specs.declared.operators.Op.{Op}
use Rattle.po_straight.specs.declared.expression.Expression.{Expression, fold-roll-Expression}
use Rattle.po_straight.specs.declared.expression.Expression.TheVariants as e
use Rattle.po_straight.specs.declared.expression.Expression.TheOpen.{Expression-F}
use Rattle.po_straight.specs.Expressions.{height, path_of, greatest}

pub height-Parameter : (n : ℕ) → height (e.Parameter n) ≡ 1
unfolding height
height-Parameter n = ap height (sym (e.rolls-Parameter n)) ∙ fold-roll-Expression _ path_of (Expression-F.Parameter n)

pub height-Constant : (value : ℕ) → height (e.Constant value) ≡ 1
unfolding height
height-Constant value = ap height (sym (e.rolls-Constant value)) ∙ fold-roll-Expression _ path_of (Expression-F.Constant value)

pub height-Paren : (x : Expression) → height (e.Paren x) ≡ height x + 1
unfolding height
height-Paren x = ap height (sym (e.rolls-Paren x)) ∙ fold-roll-Expression _ path_of (Expression-F.Paren x)

pub height-Call : (f line : ℕ) (xs : List Expression) → height (e.Call f line xs) ≡ greatest (1 ∷ map height xs) + 1
unfolding height
height-Call f line xs = ap height (sym (e.rolls-Call f line xs)) ∙ fold-roll-Expression _ path_of (Expression-F.Call f line xs)

pub height-Binary : (o : Op) (line : ℕ) (x y : Expression) → height (e.Binary o line x y) ≡ max (height x) (height y) + 1
unfolding height
height-Binary o line x y = ap height (sym (e.rolls-Binary o line x y)) ∙ fold-roll-Expression _ path_of (Expression-F.Binary o line x y)

-- no argument is higher than the greatest
pub height_at : (xs : List Expression) (i : ℕ) (d : Expression) → i < length xs → height (get_or xs i d) ≤ greatest (map height xs)
height_at [] i d h = absurd (omega arith)
height_at (x ∷ xs) zero d h = omega arith
height_at (x ∷ xs) (suc i) d h = let k = height_at xs i d (omega arith) in omega arith
