-- The body of a definition is read in one way.
use Rattle.std.proofs.Common.{◌≡◌, ℕ, suc, zero, ◌+◌, ◌-◌, ◌<◌, ◌≤◌, List, [], ◌∷◌, ◌++◌, length, get_or, drop, take, ap, sym, ◌∙◌, refl, arith, length-drop, get_or-drop}
use Rattle.std.specs.Prelude.{All}
use Rattle.std.proofs.lemmas.List.{take-append-drop, drop-drop}
use Rattle.std.proofs.lemmas.List.Elements.{All-more, All-cons, All-nil, All-append}
use Rattle.po_base.specs.declared.operators.Op.{Op}
use Rattle.po_straight.specs.declared.lexeme.Sign.{Sign}
use Rattle.po_straight.specs.declared.lexeme.Sign.TheVariants as s
use Rattle.po_straight.specs.declared.lexeme.Lexeme.{Lexeme}
use Rattle.po_straight.specs.declared.expression.Expression.{Expression}
use Rattle.po_straight.specs.Scopes.{Scope}
use Rattle.po_straight.specs.Expressions.{IsOperator, add, sub, mul, div, rem, Prints, parameter, constant, paren, call, binary, PrintsAll, empty, single, comma, IsExpression}
use Rattle.po_straight.specs.Definitions.{signs}
use Rattle.po_straight.specs.Outline.{Begins, IsOpen}
use Rattle.po_straight.proofs.Splits.{split_same}
use Rattle.po_straight.proofs.Listings.{drop_next}

pub first_of : {X : Type 0} (xs : List X) (at : ℕ) (y d : X) (ys : List X) → drop at xs ≡ y ∷ ys → get_or xs at d ≡ y
first_of [] zero y d ys e = absurd (cc)
first_of [] (suc at) y d ys e = absurd (cc)
first_of (x ∷ xs) zero y d ys e = cc
first_of (x ∷ xs) (suc at) y d ys e = first_of xs at y d ys e

-- one more sign that is no semicolon
pub open_more : (xs : List Lexeme) (start at : ℕ) → start ≤ at → at < length xs → All IsOpen (take (at - start) (drop start xs)) →
    (Begins s.Semicolon (drop at xs) → ⊥) → All IsOpen (take (at + 1 - start) (drop start xs))
open_more xs start at low in' h none = grow (drop at xs) refl none
  where
    grow : (zs : List Lexeme) → drop at xs ≡ zs → (Begins s.Semicolon zs → ⊥) → All IsOpen (take (at + 1 - start) (drop start xs))
    grow [] e n = absurd (let l : length (drop at xs) ≡ length xs - at = length-drop at xs in let z : length (drop at xs) ≡ 0 = ap length e in omega arith)
    grow (y ∷ ys) e n =
        let e1 : at + 1 - start ≡ (at - start) + 1 = omega arith in
        let e2 : start + (at - start) ≡ at = omega arith in
        let lt : at - start < length (drop start xs) = simp length-drop (omega arith) in
        let g : get_or (drop start xs) (at - start) y ≡ y = get_or-drop start xs (at - start) y ∙ ap (λ k. get_or xs k y) e2 ∙ first_of xs at y y ys e in
        let v : IsOpen (get_or (drop start xs) (at - start) y) = rw g n in
        rw e1 (All-more IsOpen (drop start xs) (at - start) y lt h v)

operator_open : {o : Op} {sign : Sign} {level : ℕ} → IsOperator o sign level → sign ≡ s.Semicolon → ⊥
operator_open add e = cc
operator_open sub e = cc
operator_open mul e = cc
operator_open div e = cc
operator_open rem e = cc

open_closed : (xs : List Lexeme) (last : ℕ) → All IsOpen xs → All IsOpen (xs ++ record { sign = s.Close; line = last } ∷ [])
open_closed xs last h =
    All-append IsOpen xs (record { sign = s.Close; line = last } ∷ []) h (All-cons IsOpen (record { sign = s.Close; line = last }) [] (λ e. cc) (All-nil IsOpen))

mutual
  pub all_open : {scope : Scope} {m : ℕ} {x : Expression} {xs : List Lexeme} → Prints scope m x xs → All IsOpen xs
  all_open (parameter n line name q) = All-cons IsOpen (record { sign = s.Name name; line = line }) [] (λ e. cc) (All-nil IsOpen)
  all_open (constant value line) = All-cons IsOpen (record { sign = s.Constant value; line = line }) [] (λ e. cc) (All-nil IsOpen)
  all_open (paren level first last x xs w) =
      All-cons IsOpen (record { sign = s.Open; line = first }) (xs ++ record { sign = s.Close; line = last } ∷ []) (λ e. cc) (open_closed xs last (all_open w))
  all_open (call f line first last called arguments xs q free k all) =
      All-cons IsOpen (record { sign = s.Name called.name; line = line }) (record { sign = s.Open; line = first } ∷ (xs ++ record { sign = s.Close; line = last } ∷ [])) (λ e. cc)
      (All-cons IsOpen (record { sign = s.Open; line = first }) (xs ++ record { sign = s.Close; line = last } ∷ []) (λ e. cc) (open_closed xs last (arguments_open all)))
  all_open (binary o sign level line m k x y xs ys v low high w u) =
      All-append IsOpen xs (record { sign = sign; line = line } ∷ ys) (all_open w)
      (All-cons IsOpen (record { sign = sign; line = line }) ys (operator_open v) (all_open u))

  arguments_open : {scope : Scope} {xs : List Expression} {ys : List Lexeme} → PrintsAll scope xs ys → All IsOpen ys
  arguments_open empty = All-nil IsOpen
  arguments_open (single level x xs w) = all_open w
  arguments_open (comma level line x y ys xs rest w v) =
      All-append IsOpen xs (record { sign = s.Comma; line = line } ∷ rest) (all_open w)
      (All-cons IsOpen (record { sign = s.Comma; line = line }) rest (λ e. cc) (arguments_open v))

pub closed_by : (tail left : List Lexeme) → signs tail ≡ s.Semicolon ∷ (s.CloseBrace ∷ []) → signs (tail ++ left) ≡ s.Semicolon ∷ (s.CloseBrace ∷ signs left)
closed_by [] left e = absurd (cc)
closed_by (x ∷ []) left e = absurd (let q : signs [] ≡ s.CloseBrace ∷ [] = cc in cc)
closed_by (x ∷ (y ∷ [])) left e =
    let p : x.sign ≡ s.Semicolon = cc in
    let r : y.sign ≡ s.CloseBrace = let q : y.sign ∷ [] ≡ s.CloseBrace ∷ [] = cc in cc in
    ap (λ v. v ∷ (y.sign ∷ signs left)) p ∙ ap (λ v. s.Semicolon ∷ (v ∷ signs left)) r
closed_by (x ∷ (y ∷ (z ∷ zs))) left e =
    absurd (let q : y.sign ∷ (z.sign ∷ signs zs) ≡ s.CloseBrace ∷ [] = cc in let r : z.sign ∷ signs zs ≡ [] = cc in cc)

-- no sign that is no semicolon stands behind an expression
pub open_ends : (tail left : List Lexeme) → signs tail ≡ s.Semicolon ∷ (s.CloseBrace ∷ []) → (y : Lexeme) (ys : List Lexeme) → tail ++ left ≡ y ∷ ys → IsOpen y → ⊥
open_ends tail left e y ys q o =
    let p : y.sign ∷ signs ys ≡ s.Semicolon ∷ (s.CloseBrace ∷ signs left) = sym (ap (λ v. signs v) q) ∙ closed_by tail left e in
    let r : y.sign ≡ s.Semicolon = cc in o r

module _ (xs : List Lexeme) (start stop : ℕ) (low : start ≤ stop) (opens : All IsOpen (take (stop - start) (drop start xs)))
    (here : stop < length xs → Begins s.Semicolon (drop stop xs)) where
  pub together : take (stop - start) (drop start xs) ++ drop stop xs ≡ drop start xs
  together =
      let e : start + (stop - start) ≡ stop = omega arith in
      let d : drop (stop - start) (drop start xs) ≡ drop stop xs = drop-drop (stop - start) start xs ∙ ap (λ n. drop n xs) e in
      rw (← d) (take-append-drop (stop - start) (drop start xs))

  stops : (y : Lexeme) (ys : List Lexeme) → drop stop xs ≡ y ∷ ys → IsOpen y → ⊥
  stops y ys e o = let b : Begins s.Semicolon (y ∷ ys) = rw e at (here (drop_next xs stop y ys e).1) in o b

  -- an expression and the two signs behind it are split at the first semicolon
  pub split_at_stop : (scope : Scope) (x : Expression) (range tail left : List Lexeme) → IsExpression scope x range →
      signs tail ≡ s.Semicolon ∷ (s.CloseBrace ∷ []) → range ++ (tail ++ left) ≡ drop start xs →
      (range ≡ take (stop - start) (drop start xs)) × (tail ++ left ≡ drop stop xs)
  split_at_stop scope x range tail left w e q =
      split_same IsOpen range (take (stop - start) (drop start xs)) (tail ++ left) (drop stop xs) (all_open w.printed) opens (open_ends tail left e) stops (q ∙ sym together)
