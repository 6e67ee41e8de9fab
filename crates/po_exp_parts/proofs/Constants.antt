-- Where the digits of integer constants end.
use Rattle.std.proofs.Common.{◌≡◌, ℕ, ◌+◌, ◌-◌, ◌<◌, ◌≤◌, List, [], ◌∷◌, length, drop, get_or, Bool, false, cond, arith, refl, sym, ◌∙◌, ◌↔◌, IsTrue, ◌==◌, ◌&&◌, ◌||◌}
use Rattle.std.specs.Prelude.{Contains, Some}
use Rattle.std.proofs.lemmas.List.{drop_more, length-drop}
use Rattle.std.proofs.lemmas.Bool.Decides.{nat_tests}
use Rattle.po_tree.specs.Literals.{is_digit, behind_digits, behind_zero, behind_integer, suffixes, IsInteger}

few : (cs : List ℕ) → length cs < 2 → behind_zero cs ≡ behind_digits 8 cs
few [] h = refl
few (c ∷ []) h = refl
few (c ∷ d ∷ ds) h = absurd (omega arith)

-- behind the last bytes only octal digits stand
pub short_zero : (text : List ℕ) (at : ℕ) → length text - at < 2 → behind_zero (drop at text) ≡ behind_digits 8 (drop at text)
short_zero text at h = few (drop at text) (omega (arith, length-drop at text))

module _ (text : List ℕ) (at : ℕ) (long : at + 2 ≤ length text) where
  -- two bytes at least
  zero_at : behind_zero (drop at text) ≡
      cond (((get_or text at 0 == 120) || (get_or text at 0 == 88)) && is_digit 16 (get_or text (at + 1) 0))
      (behind_digits 16 (drop (at + 2) text)) (behind_digits 8 (drop at text))
  zero_at =
      let one : drop at text ≡ get_or text at 0 ∷ drop (at + 1) text = drop_more text at 0 (omega arith) in
      let two : drop (at + 1) text ≡ get_or text (at + 1) 0 ∷ drop (at + 1 + 1) text = drop_more text (at + 1) 0 (omega arith) in
      let place : at + 1 + 1 ≡ at + 2 = omega arith in
      rw (one, two, place) refl

  -- no `x`
  pub octal : (get_or text at 0 ≡ 120 → ⊥) → (get_or text at 0 ≡ 88 → ⊥) → behind_zero (drop at text) ≡ behind_digits 8 (drop at text)
  octal small great =
      let a : (get_or text at 0 == 120) ≡ false = grind (arith, nat_tests) in
      let b : (get_or text at 0 == 88) ≡ false = grind (arith, nat_tests) in
      zero_at ∙ rw (a, b) refl

-- behind the digits stands a suffix
pub suffixed : (text rest : List ℕ) (found : Bool) → Some rest ≡ behind_integer text → (IsTrue found ↔ Contains suffixes rest) → IsTrue found ↔ IsInteger text
suffixed text rest found q test = (
  (λ f. (rest, sym q, test.0 f)),
  (λ (suffix, p, h). let same : suffix ≡ rest = cc in test.1 (rw (← same) h)),
)
