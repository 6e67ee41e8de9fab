-- The spelling of a result's type tells the type.
use Rattle.std.specs.Prelude.{ℕ, ◌+◌, ◌-◌, ◌*◌, ◌≡◌, ◌==◌, ◌||◌, Bool, true, false, List, [], ◌∷◌, Contains, Some, None, codes}
use Rattle.std.proofs.Common.{refl, sym, ap, ◌∙◌, subst}
use Rattle.po_arith.specs.declared.int_type.IntType.{IntType}
use Rattle.po_ir.specs.declared.instr.Ty.{Ty}
use Rattle.po_ir.specs.declared.instr.Ty.TheVariants.{Int, Ptr}
use Rattle.po_ir.specs.Types.{spelled, integer_spellings, IsResultType}
use Rattle.po_meaning.proofs.Held.{Each, each_all}

-- the number of decimal digits
abbrev number_of : ℕ → List ℕ → ℕ
number_of n [] = n
number_of n (digit ∷ rest) = number_of (n * 10 + (digit - 48)) rest

-- the integer type that is spelled so
abbrev type_of_text : List ℕ → IntType
type_of_text [] = spelled 0 false
type_of_text (letter ∷ digits) = spelled (number_of 0 digits) (letter == 105)

-- how the spelling begins
abbrev first_letter : List ℕ → ℕ
first_letter [] = 0
first_letter (letter ∷ rest) = letter

abbrev is_letter : ℕ → Bool
is_letter n = n == 105 || n == 117

-- what holds of each spelling
abbrev Tells : List ℕ × IntType → Type 0
Tells entry = (type_of_text entry.0 ≡ entry.1) × (is_letter (first_letter entry.0) ≡ true)

each_tells : Each Tells integer_spellings
each_tells = ((refl, refl), ((refl, refl), ((refl, refl), ((refl, refl), ((refl, refl), ((refl, refl), ((refl, refl), ((refl, refl), ((refl, refl), tt)))))))))

tells : (text : List ℕ) (t : IntType) → Contains integer_spellings (text, t) → Tells (text, t)
tells text t (k, within, same) = subst Tells same (each_all Tells integer_spellings each_tells k (text, t) within)

-- one type has the spelling
pub one_type : (text : List ℕ) (s t : Ty) → IsResultType text (Some s) → IsResultType text (Some t) → s ≡ t
one_type text (Int s) (Int t) one two = ap Int (sym (tells text s one).0 ∙ (tells text t two).0)
one_type text (Int s) Ptr one (rest, two) = absurd (let clash : false ≡ true = ap (λ (x : List ℕ). is_letter (first_letter x)) (sym two) ∙ (tells text s one).1 in cc)
one_type text Ptr (Int t) (rest, one) two = absurd (let clash : false ≡ true = ap (λ (x : List ℕ). is_letter (first_letter x)) (sym one) ∙ (tells text t two).1 in cc)
one_type text Ptr Ptr one two = refl

abbrev is_star : List ℕ → Bool
is_star text = first_letter text == 42

void_starts : is_letter (first_letter (codes "void")) ≡ false
void_starts = refl

void_is_no_star : is_star (codes "void") ≡ false
void_is_no_star = refl

star_is_one : (rest : List ℕ) → is_star (42 ∷ rest) ≡ true
star_is_one rest = refl

two_truths : (b : Bool) → b ≡ false → b ≡ true → ⊥
two_truths b is_not is = absurd (cc)

-- and that of void is none of a type with values
pub not_void : (text : List ℕ) (t : Ty) → IsResultType text None → IsResultType text (Some t) → ⊥
not_void text (Int t) void one = two_truths (is_letter (first_letter text)) (ap (λ (x : List ℕ). is_letter (first_letter x)) void ∙ void_starts) (tells text t one).1
not_void text Ptr void (rest, one) = two_truths (is_star text) (ap is_star void ∙ void_is_no_star) (ap is_star one ∙ star_is_one rest)
