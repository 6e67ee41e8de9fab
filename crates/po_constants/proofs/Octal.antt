-- Integer constants that begin with 0 and are not hexadecimal.
use Rattle.std.proofs.Common.{◌≡◌, ℕ, ◌<◌, List, ◌∷◌, [], length, drop, get_or, true, false, cond, arith, refl, sym, ap, ◌∙◌, subst, ◌*◌, ◌+◌, ◌⊎◌, inl, inr, ◌==◌, ◌||◌, ◌&&◌}
use Rattle.std.specs.Prelude.{Some}
use Rattle.std.proofs.lemmas.Bool.Decides.{Decides-eqb, Decides-or, Decides-and, Decides-ltb}
use Rattle.po_tree.specs.Literals.{digit, is_digit, behind_digits, behind_zero, behind_integer}
use Rattle.po_typed.specs.Constants.{digits_value, integer_value, is_x, is_decimal}
use Rattle.po_constants.specs.Integers.{IsHexadecimal}

hexadecimal : (x d : ℕ) (ds : List ℕ) → (x ≡ 120) ⊎ (x ≡ 88) → digit d < 16 → IsHexadecimal (48 ∷ (x ∷ (d ∷ ds)))
hexadecimal x d ds is small = record { x = x; d = d; rest = ds; begins = refl; is_x = is; is_digit = small }

x_is : (x : ℕ) → ((x == 120) || (x == 88)) ≡ true → (x ≡ 120) ⊎ (x ≡ 88)
x_is x q = (Decides-or (x == 120) (x == 88) (Decides-eqb x 120) (Decides-eqb x 88)).0 q

zero_behind : (cs : List ℕ) → (IsHexadecimal (48 ∷ cs) → ⊥) → behind_zero cs ≡ behind_digits 8 cs
zero_behind [] other = refl
zero_behind (x ∷ []) other = refl
zero_behind (x ∷ (d ∷ ds)) other =
    elim (((x == 120) || (x == 88)) && is_digit 16 d) as (λ b. (((x == 120) || (x == 88)) && is_digit 16 d) ≡ b → cond b (behind_digits 16 ds) (behind_digits 8 (x ∷ (d ∷ ds))) ≡ behind_digits 8 (x ∷ (d ∷ ds))) [
      | true ↦ (λ q.
          let both = (Decides-and ((x == 120) || (x == 88)) (is_digit 16 d) (Decides-or (x == 120) (x == 88) (Decides-eqb x 120) (Decides-eqb x 88)) (Decides-ltb (digit d) 16)).0 q in
          absurd (other (hexadecimal x d ds both.0 both.1)))
      | false ↦ (λ q. refl)
    ] refl

-- behind `0x` no hexadecimal digit stands
no_digits : (x : ℕ) (cs : List ℕ) → (x ≡ 120) ⊎ (x ≡ 88) → (IsHexadecimal (48 ∷ (x ∷ cs)) → ⊥) → digits_value 16 0 cs ≡ 0
no_digits x [] is other = refl
no_digits x (d ∷ ds) is other =
    elim (is_digit 16 d) as (λ b. is_digit 16 d ≡ b → cond b (digits_value 16 (16 * 0 + digit d) ds) 0 ≡ 0) [
      | true ↦ (λ q. absurd (other (hexadecimal x d ds is ((Decides-ltb (digit d) 16).0 q))))
      | false ↦ (λ q. refl)
    ] refl

no_octal : (x : ℕ) (cs : List ℕ) → (x ≡ 120) ⊎ (x ≡ 88) → digits_value 8 0 (x ∷ cs) ≡ 0
no_octal x cs (inl q) = rw q refl
no_octal x cs (inr q) = rw q refl

zero_value : (cs : List ℕ) → (IsHexadecimal (48 ∷ cs) → ⊥) → cond (is_x cs) (digits_value 16 0 (drop 1 cs)) (digits_value 8 0 cs) ≡ digits_value 8 0 cs
zero_value [] other = refl
zero_value (x ∷ cs) other =
    elim ((x == 120) || (x == 88)) as (λ b. ((x == 120) || (x == 88)) ≡ b → cond b (digits_value 16 0 cs) (digits_value 8 0 (x ∷ cs)) ≡ digits_value 8 0 (x ∷ cs)) [
      | true ↦ (λ q. let is = x_is x q in no_digits x cs is other ∙ sym (no_octal x cs is))
      | false ↦ (λ q. refl)
    ] refl

-- an octal constant is a row of octal digits, its first 0 among them
pub record IsOctal (text : List ℕ) : Type 0 where
  pub behind : behind_integer text ≡ Some (behind_digits 8 text)
  pub valued : integer_value text ≡ digits_value 8 0 text
  pub decimal : false ≡ is_decimal text

at_zero : (cs : List ℕ) → (IsHexadecimal (48 ∷ cs) → ⊥) → IsOctal (48 ∷ cs)
at_zero cs other = record { behind = ap Some (zero_behind cs other); valued = zero_value cs other; decimal = refl }

pub octal : (text : List ℕ) → 0 < length text → get_or text 0 0 ≡ 48 → (IsHexadecimal text → ⊥) → IsOctal text
octal [] some zero other = absurd (omega arith)
octal (c ∷ cs) some zero other =
    let first : c ∷ cs ≡ 48 ∷ cs = ap (λ z. z ∷ cs) zero in
    rw first (at_zero cs (subst (λ t. IsHexadecimal t → ⊥) first other))
