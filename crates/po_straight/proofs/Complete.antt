-- The signs of an expression are read as it, whatever stands behind them that does not go on with it.
use Rattle.std.proofs.Common.{◌≡◌, ℕ, ◌+◌, ◌≤◌, List, [], ◌∷◌, ◌++◌, refl, arith, append_assoc}
use Rattle.po_base.specs.declared.operators.Op.{Op}
use Rattle.po_straight.specs.declared.lexeme.Sign.{Sign}
use Rattle.po_straight.specs.declared.lexeme.Sign.TheVariants as s
use Rattle.po_straight.specs.declared.lexeme.Lexeme.{Lexeme}
use Rattle.po_straight.specs.declared.expression.Expression.{Expression}
use Rattle.po_straight.specs.declared.expression.Expression.TheVariants as e
use Rattle.po_straight.specs.Scopes.{Scope}
use Rattle.po_straight.specs.Expressions.{IsOperator, add, sub, mul, div, rem, Prints, parameter as prints_parameter, constant as prints_constant, paren as prints_paren, call as prints_call, binary as prints_binary, PrintsAll, empty, single, comma}
use Rattle.po_straight.specs.Reading.{GoesOn, Reads, begun, parameter, constant, paren, call, Climbs, stop, more, Arguments, without, with, Items, final, further}
use Rattle.po_straight.proofs.Readings.{one_operator}
use Rattle.po_straight.proofs.Sound.{operator_low}

-- the same in a narrower range of levels
pub goes_on-wider : (l m l' m' : ℕ) (ts : List Lexeme) → l' ≤ l → m ≤ m' → GoesOn l m ts → GoesOn l' m' ts
goes_on-wider l m l' m' [] h g k = k
goes_on-wider l m l' m' (mark ∷ ts) h g k = (k.0, k.1, k.2, omega (arith, k.3), omega (arith, k.4))

-- an operator of a level that is not above m doesn't go on above m
stops_at : {o : Op} {k m : ℕ} (mark : Lexeme) (ts : List Lexeme) → IsOperator o mark.sign k → k ≤ m → GoesOn (m + 1) 2 (mark ∷ ts) → ⊥
stops_at mark ts w h g =
    let p = one_operator w g.2 in
    omega (arith, g.3)

pub level_most : {scope : Scope} {m : ℕ} {x : Expression} {xs : List Lexeme} → Prints scope m x xs → m ≤ 2
level_most (prints_parameter n line name q) = omega arith
level_most (prints_constant value line) = omega arith
level_most (prints_paren level first last x xs w) = omega arith
level_most (prints_call f line first last called arguments xs q n k all) = omega arith
level_most (prints_binary o sign level line m k x y xs ys v low high w u) = omega (arith, operator_low v)

not_close : {o : Op} {sign : Sign} {k : ℕ} → IsOperator o sign k → sign ≡ s.Close → ⊥
not_close add q = cc
not_close sub q = cc
not_close mul q = cc
not_close div q = cc
not_close rem q = cc

not_comma : {o : Op} {sign : Sign} {k : ℕ} → IsOperator o sign k → sign ≡ s.Comma → ⊥
not_comma add q = cc
not_comma sub q = cc
not_comma mul q = cc
not_comma div q = cc
not_comma rem q = cc

-- at a sign that closes nothing goes on, nor at a comma
closed : (l m line : ℕ) (rest : List Lexeme) → GoesOn l m (record { sign = s.Close; line = line } ∷ rest) → ⊥
closed l m line rest g = not_close g.2 refl

parted : (l m line : ℕ) (rest : List Lexeme) → GoesOn l m (record { sign = s.Comma; line = line } ∷ rest) → ⊥
parted l m line rest g = not_comma g.2 refl

items_of : {scope : Scope} {x : Expression} {xs : List Expression} {ts us : List Lexeme} → Arguments scope ts (x ∷ xs) us → Items scope ts (x ∷ xs) us
items_of (with xs ts us w) = w

mutual
  pub reads_self : {scope : Scope} {l m : ℕ} {x z : Expression} {xs us : List Lexeme} (rest : List Lexeme) →
      Prints scope m x xs → l ≤ m → (GoesOn (m + 1) 2 rest → ⊥) → Climbs scope l m x rest z us → Reads scope l (xs ++ rest) z us
  reads_self rest (prints_parameter n line name q) h stops c =
      begun _ _ _ _ rest _ (parameter n name (record { sign = s.Name name; line = line }) rest refl q) c
  reads_self rest (prints_constant value line) h stops c =
      begun _ _ _ _ rest _ (constant value (record { sign = s.Constant value; line = line }) rest refl) c
  reads_self {scope = scope} {l = l} {z = z} {us = us} rest (prints_paren level first last x xs w) h stops c =
      let close : Lexeme = record { sign = s.Close; line = last } in
      let open_ : Lexeme = record { sign = s.Open; line = first } in
      let inside : Reads scope 0 (xs ++ close ∷ rest) x (close ∷ rest) = reads_self {l = 0} (close ∷ rest) w (omega arith) (closed _ _ last rest) (stop 0 level x (close ∷ rest) (closed _ _ last rest)) in
      rw append_assoc (begun l (e.Paren x) z _ rest us (paren x open_ close _ rest refl refl inside) c)
  reads_self {scope = scope} {l = l} {z = z} {us = us} rest (prints_call f line first last called arguments xs q n k all) h stops c =
      let mark : Lexeme = record { sign = s.Name called.name; line = line } in
      let open_ : Lexeme = record { sign = s.Open; line = first } in
      let inside : Arguments scope (xs ++ record { sign = s.Close; line = last } ∷ rest) arguments rest = arguments_self last rest all in
      rw append_assoc (begun l (e.Call f first arguments) z _ rest us (call f called arguments mark open_ _ rest refl refl q n k inside) c)
  reads_self {scope = scope} {l = l} {z = z} {us = us} rest (prints_binary o sign level line m k x y xs ys v low high w u) h stops c =
      let mark : Lexeme = record { sign = sign; line = line } in
      let below_right = λ (g : GoesOn (level + 1) k rest). stops (goes_on-wider _ _ _ _ rest (omega arith) (level_most u) g) in
      let above_right = λ (g : GoesOn (k + 1) 2 rest). stops (goes_on-wider _ _ _ _ rest (omega arith) (omega arith) g) in
      let right : Reads scope (level + 1) (ys ++ rest) y rest = reads_self {l = level + 1} rest u (omega arith) above_right (stop (level + 1) k y rest below_right) in
      rw append_assoc (reads_self (mark ∷ (ys ++ rest)) w (omega arith) (stops_at mark (ys ++ rest) v low) (more l m level o x y z mark (ys ++ rest) rest us v h low right c))

  arguments_self : {scope : Scope} {xs : List Expression} {ys : List Lexeme} (last : ℕ) (rest : List Lexeme) → PrintsAll scope xs ys →
      Arguments scope (ys ++ record { sign = s.Close; line = last } ∷ rest) xs rest
  arguments_self last rest empty = without (record { sign = s.Close; line = last }) rest refl
  arguments_self last rest (single level x xs w) =
      let close : Lexeme = record { sign = s.Close; line = last } in
      with (x ∷ []) _ rest
      (final x close _ rest refl (reads_self {l = 0} (close ∷ rest) w (omega arith) (closed _ _ last rest) (stop 0 level x (close ∷ rest) (closed _ _ last rest))))
  arguments_self {scope = scope} last rest (comma level line x y ys xs signs w v) =
      let mark : Lexeme = record { sign = s.Comma; line = line } in
      let left : List Lexeme = signs ++ record { sign = s.Close; line = last } ∷ rest in
      let first : Reads scope 0 (xs ++ (mark ∷ left)) x (mark ∷ left) =
      reads_self {l = 0} (mark ∷ left) w (omega arith) (parted _ _ line left) (stop 0 level x (mark ∷ left) (parted _ _ line left)) in
      rw append_assoc (with (x ∷ (y ∷ ys)) _ rest (further x (y ∷ ys) mark _ left rest refl first (items_of (arguments_self last rest v))))
