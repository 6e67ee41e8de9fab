-- Signs are those of one expression at most, where the names of the scope differ.
use Rattle.std.proofs.Common.{◌≡◌, ℕ, List, [], ap, sym, ◌∙◌, refl, subst, arith, append-nil}
use Rattle.po_base.specs.declared.operators.Op.{Op}
use Rattle.po_base.specs.declared.operators.Op.TheVariants as op
use Rattle.po_straight.specs.declared.lexeme.Sign.{Sign}
use Rattle.po_straight.specs.declared.lexeme.Lexeme.{Lexeme}
use Rattle.po_straight.specs.declared.expression.Expression.{Expression, fold-Expression, fold-roll-Expression}
use Rattle.po_straight.specs.declared.expression.Expression.TheVariants as e
use Rattle.po_straight.specs.declared.expression.Expression.TheOpen.{Expression-F}
use Rattle.po_straight.specs.Scopes.{Scope, NamesDiffer}
use Rattle.po_straight.specs.Expressions.{IsOperator, add, sub, mul, div, rem, Prints, parameter as prints_parameter, constant as prints_constant, paren as prints_paren, call as prints_call, binary as prints_binary}
use Rattle.po_straight.specs.Reading.{Reads, stop}
use Rattle.po_straight.proofs.Readings.{reads_same}
use Rattle.po_straight.proofs.Complete.{reads_self}

-- an expression's level
level_of_operator : Op → ℕ
level_of_operator op.Add = 0
level_of_operator op.Sub = 0
level_of_operator _ = 1

level_layer : Expression-F ℕ → ℕ
level_layer (Expression-F.Parameter n) = 2
level_layer (Expression-F.Constant n) = 2
level_layer (Expression-F.Paren x) = 2
level_layer (Expression-F.Call f line xs) = 2
level_layer (Expression-F.Binary o line x y) = level_of_operator o

level_of : Expression → ℕ
level_of = fold-Expression ℕ level_layer

level_of_known : {o : Op} {sign : Sign} {k : ℕ} → IsOperator o sign k → level_of_operator o ≡ k
unfolding level_of_operator
level_of_known add = refl
level_of_known sub = refl
level_of_known mul = refl
level_of_known div = refl
level_of_known rem = refl

level_known : {scope : Scope} {m : ℕ} {x : Expression} {xs : List Lexeme} → Prints scope m x xs → level_of x ≡ m
unfolding level_of level_layer
level_known (prints_parameter n line name q) = ap level_of (sym (e.rolls-Parameter n)) ∙ fold-roll-Expression _ level_layer (Expression-F.Parameter n)
level_known (prints_constant value line) = ap level_of (sym (e.rolls-Constant value)) ∙ fold-roll-Expression _ level_layer (Expression-F.Constant value)
level_known (prints_paren level first last x xs w) = ap level_of (sym (e.rolls-Paren x)) ∙ fold-roll-Expression _ level_layer (Expression-F.Paren x)
level_known (prints_call f line first last called arguments xs q n k all) =
    ap level_of (sym (e.rolls-Call f first arguments)) ∙ fold-roll-Expression _ level_layer (Expression-F.Call f first arguments)
level_known (prints_binary o sign level line m k x y xs ys v low high w u) =
    ap level_of (sym (e.rolls-Binary o line x y)) ∙ fold-roll-Expression _ level_layer (Expression-F.Binary o line x y) ∙ level_of_known v

-- the signs of an expression are read as it to the end
pub reads_whole : {scope : Scope} {m : ℕ} {x : Expression} {xs : List Lexeme} → Prints scope m x xs → Reads scope 0 xs x []
reads_whole {scope = scope} {m = m} {x = x} {xs = xs} w =
    subst (λ v. Reads scope 0 v x []) (append-nil xs) (reads_self {l = 0} [] w (omega arith) (λ g. g) (stop 0 m x [] (λ g. g)))

pub one_expression : (scope : Scope) (m k : ℕ) (x y : Expression) (xs : List Lexeme) → NamesDiffer scope → Prints scope m x xs → Prints scope k y xs → (x ≡ y) × (m ≡ k)
one_expression scope m k x y xs h w v =
    let same : x ≡ y = (reads_same h (reads_whole w) (reads_whole v)).0 in
    (same, sym (level_known w) ∙ ap level_of same ∙ level_known v)
