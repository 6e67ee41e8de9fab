-- How an expression is read from the left: its first operand, then one after the other the operators that
-- follow it, each with its right operand.
use Rattle.std.specs.Prelude.{ℕ, ◌+◌, ◌≤◌, ◌≡◌, List, [], ◌∷◌, Some, slice_get, length, Contains}
use Rattle.po_base.specs.declared.operators.Op.{Op}
use Rattle.po_straight.specs.declared.lexeme.Sign.TheVariants as s
use Rattle.po_straight.specs.declared.lexeme.Lexeme.{Lexeme}
use Rattle.po_straight.specs.declared.expression.Expression.{Expression}
use Rattle.po_straight.specs.declared.expression.Expression.TheVariants as e
use Rattle.po_straight.specs.Scopes.{Scope, Signature}
use Rattle.po_straight.specs.Expressions.{IsOperator}

-- the signs begin with an operator of a level from l to m
abbrev pub GoesOn : ℕ → ℕ → List Lexeme → Type 0
GoesOn l m [] = ⊥
GoesOn l m (mark ∷ ts) = (o : Op) × (k : ℕ) × IsOperator o mark.sign k × (l ≤ k) × (k ≤ m)

mutual
  -- Reads scope l ts x us: ts begin with an expression x of level l or a higher one, and us are left
  pub data Reads (scope : Scope) : ℕ → List Lexeme → Expression → List Lexeme → Type 0 where
    begun : (l : ℕ) (x y : Expression) (ts us vs : List Lexeme) →
        Operand scope ts x us → Climbs scope l 2 x us y vs → Reads scope l ts y vs

  -- Operand scope ts x us: ts begin with an operand x, a parameter, a constant, parentheses or a call, and us are left
  pub data Operand (scope : Scope) : List Lexeme → Expression → List Lexeme → Type 0 where
    parameter : (n : ℕ) (name : List ℕ) (mark : Lexeme) (ts : List Lexeme) →
        mark.sign ≡ s.Name name → slice_get scope.parameters n ≡ Some name → Operand scope (mark ∷ ts) (e.Parameter n) ts
    constant : (value : ℕ) (mark : Lexeme) (ts : List Lexeme) →
        mark.sign ≡ s.Constant value → Operand scope (mark ∷ ts) (e.Constant value) ts
    paren : (x : Expression) (first last : Lexeme) (ts us : List Lexeme) →
        first.sign ≡ s.Open → last.sign ≡ s.Close → Reads scope 0 ts x (last ∷ us) → Operand scope (first ∷ ts) (e.Paren x) us
    call : (f : ℕ) (called : Signature) (xs : List Expression) (mark first : Lexeme) (ts us : List Lexeme) →
        mark.sign ≡ s.Name called.name → first.sign ≡ s.Open → slice_get scope.functions f ≡ Some called →
        (Contains scope.parameters called.name → ⊥) → length xs ≡ called.count → Arguments scope ts xs us →
        Operand scope (mark ∷ (first ∷ ts)) (e.Call f first.line xs) us

  -- Climbs scope l m x ts z us: x, which has the level m, goes on in ts by operators of level l or higher ones
  -- to z, with which it ends, and us are left
  pub data Climbs (scope : Scope) : ℕ → ℕ → Expression → List Lexeme → Expression → List Lexeme → Type 0 where
    stop : (l m : ℕ) (x : Expression) (ts : List Lexeme) → (GoesOn l m ts → ⊥) → Climbs scope l m x ts x ts
    more : (l m k : ℕ) (o : Op) (x y z : Expression) (mark : Lexeme) (ts us vs : List Lexeme) →
        IsOperator o mark.sign k → l ≤ k → k ≤ m → Reads scope (k + 1) ts y us →
        Climbs scope l k (e.Binary o mark.line x y) us z vs → Climbs scope l m x (mark ∷ ts) z vs

  -- Arguments scope ts xs us: ts begin with the arguments xs of a call and the closing parenthesis, and us are left
  pub data Arguments (scope : Scope) : List Lexeme → List Expression → List Lexeme → Type 0 where
    without : (last : Lexeme) (ts : List Lexeme) → last.sign ≡ s.Close → Arguments scope (last ∷ ts) [] ts
    with : (xs : List Expression) (ts us : List Lexeme) → Items scope ts xs us → Arguments scope ts xs us

  -- the same for one argument or more
  pub data Items (scope : Scope) : List Lexeme → List Expression → List Lexeme → Type 0 where
    final : (x : Expression) (last : Lexeme) (ts us : List Lexeme) →
        last.sign ≡ s.Close → Reads scope 0 ts x (last ∷ us) → Items scope ts (x ∷ []) us
    further : (x : Expression) (xs : List Expression) (mark : Lexeme) (ts us vs : List Lexeme) →
        mark.sign ≡ s.Comma → Reads scope 0 ts x (mark ∷ us) → Items scope us xs vs → Items scope ts (x ∷ xs) vs
