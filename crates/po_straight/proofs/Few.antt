-- An expression has fewer operators and calls than signs.
use Rattle.std.proofs.Common.{ℕ, ◌≤◌, ◌<◌, List, [], ◌∷◌, arith, length, length-append, map, sum}
use Rattle.std.proofs.lemmas.List.Sums.{sum_by-cons}
use Rattle.po_straight.specs.declared.lexeme.Sign.TheVariants as s
use Rattle.po_straight.specs.declared.lexeme.Lexeme.{Lexeme}
use Rattle.po_straight.specs.declared.expression.Expression.{Expression}
use Rattle.po_straight.specs.Scopes.{Scope}
use Rattle.po_straight.specs.Expressions.{Prints, parameter, constant, paren, call, binary, PrintsAll, empty, single, comma, IsExpression}
use Rattle.po_straight.specs.Definitions.{operations}
use Rattle.po_straight.specs.Operations.{operations-Parameter, operations-Constant, operations-Paren, operations-Call, operations-Binary}

mutual
  few_operations : {scope : Scope} {m : ℕ} {x : Expression} {xs : List Lexeme} → Prints scope m x xs → operations x < length xs
  few_operations (parameter n line name q) = omega (arith, operations-Parameter n)
  few_operations (constant value line) = omega (arith, operations-Constant value)
  few_operations (paren level first last x xs w) =
      let h = few_operations w in
      omega (arith, operations-Paren x, length-append xs (record { sign = s.Close; line = last } ∷ []))
  few_operations (call f line first last called arguments xs q free k all) =
      let h = few_in_all all in
      omega (arith, operations-Call f first arguments, length-append xs (record { sign = s.Close; line = last } ∷ []))
  few_operations (binary o sign level line m k x y xs ys v low high w u) =
      let h = few_operations w in
      let g = few_operations u in
      omega (arith, operations-Binary o line x y, length-append xs (record { sign = sign; line = line } ∷ ys))

  few_in_all : {scope : Scope} {xs : List Expression} {ys : List Lexeme} → PrintsAll scope xs ys → sum (map operations xs) ≤ length ys
  few_in_all empty = omega arith
  few_in_all (single level x xs w) =
      let h = few_operations w in
      omega (arith, sum_by-cons (λ n. n) (operations x) [])
  few_in_all (comma level line x y ys xs rest w v) =
      let h = few_operations w in
      let g = few_in_all v in
      omega (arith, sum_by-cons (λ n. n) (operations x) (map operations (y ∷ ys)), length-append xs (record { sign = s.Comma; line = line } ∷ rest))

pub few : {scope : Scope} {x : Expression} {xs : List Lexeme} → IsExpression scope x xs → operations x < length xs
few w = few_operations w.printed
