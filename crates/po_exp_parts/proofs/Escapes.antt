-- Rows of digits in an escape, and simple escapes, with their values.
use Rattle.std.proofs.Common.{◌≡◌, ℕ, zero, suc, ◌+◌, ◌*◌, ◌-◌, ◌<◌, ◌≤◌, List, [], ◌∷◌, length, drop, get_or, true, false, arith, refl, sym, ◌==◌}
use Rattle.std.specs.Prelude.{Some, None, nat_lt, nat_le}
use Rattle.std.proofs.lemmas.List.{drop_more, drop_all, length-drop}
use Rattle.std.proofs.lemmas.Bool.Decides.{nat_tests}
use Rattle.po_tree.specs.Literals.{digit, row, simple, escaped, escape, hexadecimal}

pub below : (a b : ℕ) → a < b → nat_lt a b ≡ true
below a b h = grind (arith, nat_tests)

pub not_below : (a b : ℕ) → b ≤ a → nat_lt a b ≡ false
not_below a b h = grind (arith, nat_tests)

pub at_most : (a b : ℕ) → a ≤ b → nat_le a b ≡ true
at_most a b h = grind (arith, nat_tests)

pub above : (a b : ℕ) → b < a → nat_le a b ≡ false
above a b h = grind (arith, nat_tests)

-- one digit more
row_digit : (base most value c : ℕ) (cs : List ℕ) → digit c < base → base * value + digit c ≤ 255 →
    row base (suc most) value (c ∷ cs) ≡ row base most (base * value + digit c) cs
row_digit base most value c cs small fits = rw (below (digit c) base small, at_most (base * value + digit c) 255 fits) refl

-- no digit more
row_stops : (base most value c : ℕ) (cs : List ℕ) → base ≤ digit c → row base most value (c ∷ cs) ≡ Some (value, c ∷ cs)
row_stops base zero value c cs great = refl
row_stops base (suc most) value c cs great = rw (not_below (digit c) base great) refl

-- too great with the next digit
row_passes : (base most value c : ℕ) (cs : List ℕ) → digit c < base → 255 < base * value + digit c → row base (suc most) value (c ∷ cs) ≡ None
row_passes base most value c cs small great = rw (below (digit c) base small, above (base * value + digit c) 255 great) refl

row_empty : (base most value : ℕ) → row base most value [] ≡ Some (value, [])
row_empty base zero value = refl
row_empty base (suc most) value = refl

module _ (text : List ℕ) (base value at : ℕ) where
  -- the row goes on behind a digit
  pub row_goes_on : (most : ℕ) → 0 < most → at < length text → digit (get_or text at 0) < base → base * value + digit (get_or text at 0) ≤ 255 →
      row base (most - 1) (base * value + digit (get_or text at 0)) (drop (at + 1) text) ≡ row base most value (drop at text)
  row_goes_on zero some in' small fits = absurd (omega arith)
  row_goes_on (suc most) some in' small fits =
      let less : suc most - 1 ≡ most = omega arith in
      let front : drop at text ≡ get_or text at 0 ∷ drop (at + 1) text = drop_more text at 0 in' in
      rw (less, front) (sym (row_digit base most value (get_or text at 0) (drop (at + 1) text) small fits))

  -- the row fails where its value would pass 255
  pub row_fails : (most : ℕ) → 0 < most → at < length text → digit (get_or text at 0) < base → 255 < base * value + digit (get_or text at 0) →
      row base most value (drop at text) ≡ None
  row_fails zero some in' small great = absurd (omega arith)
  row_fails (suc most) some in' small great =
      let front : drop at text ≡ get_or text at 0 ∷ drop (at + 1) text = drop_more text at 0 in' in
      rw front (row_passes base most value (get_or text at 0) (drop (at + 1) text) small great)

  -- the row ends where no digit stands
  pub row_ends : (most : ℕ) → at < length text → base ≤ digit (get_or text at 0) → row base most value (drop at text) ≡ Some (value, drop at text)
  row_ends most in' great =
      let front : drop at text ≡ get_or text at 0 ∷ drop (at + 1) text = drop_more text at 0 in' in
      rw front (row_stops base most value (get_or text at 0) (drop (at + 1) text) great)

  -- the row ends where the text ends
  pub row_ends_all : (most : ℕ) → length text ≤ at → row base most value (drop at text) ≡ Some (value, drop at text)
  row_ends_all most past =
      let none : drop at text ≡ [] = drop_all at text past in
      rw none (row_empty base most value)

-- a simple escape is one byte long
pub simple_ends : (text : List ℕ) (at : ℕ) → at < length text → 8 ≤ digit (get_or text at 0) → (get_or text at 0 ≡ 120 → ⊥) →
    escape (drop at text) ≡ escaped (simple (get_or text at 0)) (drop (at + 1) text)
simple_ends text at in' great other =
    let front : drop at text ≡ get_or text at 0 ∷ drop (at + 1) text = drop_more text at 0 in' in
    let a : (get_or text at 0 == 120) ≡ false = grind (arith, nat_tests) in
    rw (front, not_below (digit (get_or text at 0)) 8 great, a) refl

-- the base of hexadecimal digits
abbrev hexadecimal_base : ℕ
hexadecimal_base = 16

-- hexadecimal digits up to the end of the text
pub hexadecimal_row : (text : List ℕ) (at : ℕ) → at < length text → digit (get_or text at 0) < hexadecimal_base →
    row hexadecimal_base (length text - at) 0 (drop at text) ≡ hexadecimal (drop at text)
hexadecimal_row text at in' small =
    let front : drop at text ≡ get_or text at 0 ∷ drop (at + 1) text = drop_more text at 0 in' in
    let count : length text - at ≡ suc (length (drop (at + 1) text)) = omega (arith, length-drop (at + 1) text) in
    rw (count, front, below (digit (get_or text at 0)) 16 small) refl
