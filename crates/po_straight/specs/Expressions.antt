-- Which signs print which expression: C's calls, and its additive and multiplicative expressions (C99 6.5.2.2, 6.5.5, 6.5.6).
use Rattle.std.specs.Prelude.{ℕ, ◌+◌, ◌<◌, ◌≤◌, ◌≡◌, List, [], ◌∷◌, ◌++◌, Some, slice_get, length, Contains, max}
use Rattle.po_base.specs.declared.operators.Op.{Op}
use Rattle.po_base.specs.declared.operators.Op.TheVariants as op
use Rattle.po_straight.specs.declared.lexeme.Sign.{Sign}
use Rattle.po_straight.specs.declared.lexeme.Sign.TheVariants as s
use Rattle.po_straight.specs.declared.lexeme.Lexeme.{Lexeme}
use Rattle.po_straight.specs.declared.expression.Expression.{Expression, fold-Expression}
use Rattle.po_straight.specs.declared.expression.Expression.TheVariants as e
use Rattle.po_straight.specs.declared.expression.Expression.TheOpen.{Expression-F}
use Rattle.po_straight.specs.Scopes.{Scope, Signature}

-- the operator's sign and its level: 0 for sums, 1 for products; operands have 2
pub data IsOperator : Op → Sign → ℕ → Type 0 where
  add : IsOperator op.Add s.Plus 0
  sub : IsOperator op.Sub s.Minus 0
  mul : IsOperator op.Mul s.Star 1
  div : IsOperator op.Div s.Slash 1
  rem : IsOperator op.Rem s.Percent 1

-- An operator groups to the left: its left operand has its level or a higher one, its right operand a higher one.
-- A name that is a parameter is the parameter and calls nothing (6.2.1p4).
mutual
  -- Prints scope level x signs: the signs print x, an expression of this level over the names of the scope
  pub data Prints (scope : Scope) : ℕ → Expression → List Lexeme → Type 0 where
    parameter : (n line : ℕ) (name : List ℕ) → slice_get scope.parameters n ≡ Some name →
        Prints scope 2 (e.Parameter n) (record { sign = s.Name name; line = line } ∷ [])
    constant : (value line : ℕ) →
        Prints scope 2 (e.Constant value) (record { sign = s.Constant value; line = line } ∷ [])
    paren : (level first last : ℕ) (x : Expression) (xs : List Lexeme) → Prints scope level x xs →
        Prints scope 2 (e.Paren x) (record { sign = s.Open; line = first } ∷ (xs ++ record { sign = s.Close; line = last } ∷ []))
    call : (f line first last : ℕ) (called : Signature) (arguments : List Expression) (xs : List Lexeme) →
        slice_get scope.functions f ≡ Some called → (Contains scope.parameters called.name → ⊥) → length arguments ≡ called.count →
        PrintsAll scope arguments xs →
        Prints scope 2 (e.Call f first arguments)
        (record { sign = s.Name called.name; line = line } ∷ (record { sign = s.Open; line = first } ∷ (xs ++ record { sign = s.Close; line = last } ∷ [])))
    binary : (o : Op) (sign : Sign) (level line m k : ℕ) (x y : Expression) (xs ys : List Lexeme) →
        IsOperator o sign level → level ≤ m → level < k → Prints scope m x xs → Prints scope k y ys →
        Prints scope level (e.Binary o line x y) (xs ++ record { sign = sign; line = line } ∷ ys)

  -- the signs print the expressions, with a comma between every two neighbours
  pub data PrintsAll (scope : Scope) : List Expression → List Lexeme → Type 0 where
    empty : PrintsAll scope [] []
    single : (level : ℕ) (x : Expression) (xs : List Lexeme) → Prints scope level x xs → PrintsAll scope (x ∷ []) xs
    comma : (level line : ℕ) (x y : Expression) (ys : List Expression) (xs rest : List Lexeme) →
        Prints scope level x xs → PrintsAll scope (y ∷ ys) rest →
        PrintsAll scope (x ∷ (y ∷ ys)) (xs ++ record { sign = s.Comma; line = line } ∷ rest)

-- the greatest of some numbers, 0 where there are none
abbrev pub greatest : List ℕ → ℕ
greatest [] = 0
greatest (n ∷ ns) = max n (greatest ns)

-- the most expressions on a path from the root to a leaf, of one layer; the called name is an expression beside the arguments
abbrev pub path_of : Expression-F ℕ → ℕ
path_of (Expression-F.Parameter n) = 1
path_of (Expression-F.Constant n) = 1
path_of (Expression-F.Paren x) = x + 1
path_of (Expression-F.Call f line xs) = greatest (1 ∷ xs) + 1
path_of (Expression-F.Binary o line x y) = max x y + 1

-- the most expressions on a path from the root to a leaf
unfoldable pub height : Expression → ℕ
height = fold-Expression ℕ path_of

-- the signs print x, and no path from its root to a leaf has more than 256 expressions
pub record IsExpression (scope : Scope) (x : Expression) (xs : List Lexeme) : Type 0 where
  pub level : ℕ
  pub printed : Prints scope level x xs
  pub nested : height x ≤ 256
