-- Rows of digits, one digit after the other.
use Rattle.std.proofs.Common.{◌≡◌, ℕ, ◌+◌, ◌*◌, ◌<◌, ◌≤◌, List, ◌∷◌, [], length, drop, get_or, arith, refl, sym, ◌∙◌}
use Rattle.std.specs.Prelude.{Option, Some, None, SomeIff, ◌^◌}
use Rattle.std.proofs.lemmas.List.{drop_more, drop_all}
use Rattle.po_tree.specs.Literals.{digit, behind_digits}
use Rattle.po_typed.specs.Constants.{digits_value}
use Rattle.po_exp_parts.proofs.Escapes.{below, not_below}
use Rattle.po_constants.specs.Digits.{IsIn64}

-- the digits from one place of a text to another have this value, and those behind them go on with it
pub record IsReadTo (text : List ℕ) (base from end : ℕ) (value : Option ℕ) : Type 0 where
  pub within : end ≤ length text
  pub behind : behind_digits base (drop end text) ≡ behind_digits base (drop from text)
  pub sum : ℕ
  pub held : IsIn64 value sum
  pub valued : digits_value base sum (drop end text) ≡ digits_value base 0 (drop from text)

-- what is known at the end of the row
pub record IsRow (text : List ℕ) (base from end : ℕ) (value : Option ℕ) : Type 0 where
  pub within : end ≤ length text
  pub behind : drop end text ≡ behind_digits base (drop from text)
  pub valued : IsIn64 value (digits_value base 0 (drop from text))

module _ (text : List ℕ) (base from end : ℕ) (value : Option ℕ) (r : IsReadTo text base from end value) where
  -- a digit more
  pub goes_on : (next : Option ℕ) → end < length text → digit (get_or text end 0) < base →
      ((n : ℕ) → IsIn64 value n → IsIn64 next (base * n + digit (get_or text end 0))) → IsReadTo text base from (end + 1) next
  goes_on next in' small step =
      let front : drop end text ≡ get_or text end 0 ∷ drop (end + 1) text = drop_more text end 0 in' in
      let test = below (digit (get_or text end 0)) base small in
      let one : behind_digits base (drop end text) ≡ behind_digits base (drop (end + 1) text) = rw (front, test) refl in
      let more : digits_value base r.sum (drop end text) ≡ digits_value base (base * r.sum + digit (get_or text end 0)) (drop (end + 1) text) = rw (front, test) refl in
      record {
        within = omega arith;
        behind = sym one ∙ r.behind;
        sum = base * r.sum + digit (get_or text end 0);
        held = step r.sum r.held;
        valued = sym more ∙ r.valued;
      }

  -- no digit more
  pub stops : end < length text → base ≤ digit (get_or text end 0) → IsRow text base from end value
  stops in' great =
      let front : drop end text ≡ get_or text end 0 ∷ drop (end + 1) text = drop_more text end 0 in' in
      let test = not_below (digit (get_or text end 0)) base great in
      let here : behind_digits base (drop end text) ≡ drop end text = rw (front, test) refl in
      let all : digits_value base r.sum (drop end text) ≡ r.sum = rw (front, test) refl in
      record { within = r.within; behind = sym here ∙ r.behind; valued = rw (← r.valued, all) r.held }

  -- no byte more
  pub ends : length text ≤ end → IsRow text base from end value
  ends past =
      let none : drop end text ≡ [] = drop_all end text past in
      let here : behind_digits base (drop end text) ≡ drop end text = rw none refl in
      let all : digits_value base r.sum (drop end text) ≡ r.sum = rw none refl in
      record { within = r.within; behind = sym here ∙ r.behind; valued = rw (← r.valued, all) r.held }

pub begins : (text : List ℕ) (base from : ℕ) (value : Option ℕ) → from ≤ length text → IsIn64 value 0 → IsReadTo text base from from value
begins text base from value in' none = record { within = in'; behind = refl; sum = 0; held = none; valued = refl }

-- a sum where 64 bits hold it
pub summed : (found : Option ℕ) (s n : ℕ) → s ≡ n → SomeIff found (s < 2 ^ 64) s → IsIn64 found n
summed None s n e out = let great : 2 ^ 64 ≤ s = grind arith in omega arith
summed (Some x) s n e (in', same) = same ∙ e
