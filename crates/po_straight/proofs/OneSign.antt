-- At the front of some bytes stands at most one sign.
use Rattle.std.proofs.Common.{◌≡◌, ℕ, ◌<◌, ◌^◌, List, [], ◌∷◌, ◌++◌, length, arith, ap, sym, ◌∙◌, refl, inl, inr, Bool, true, false, cond, eqb, leb, ◌&&◌, ◌||◌, lit<}
use Rattle.std.specs.Prelude.{All, codes, decimal, Contains}
use Rattle.std.specs.Str.{bytes_eq}
use Rattle.std.specs.Str.Parse.{digits_value}
use Rattle.std.proofs.lemmas.List.Elements.{All-head}
use Rattle.std.proofs.lemmas.Slice.Eq.{bytes_eq-Decides}
use Rattle.std.proofs.lemmas.Bool.Decides.{nat_tests}
use Rattle.std.proofs.lemmas.Fmt.{decimal_nonempty, decimal_is_IsNumeral}
use Rattle.po_straight.specs.declared.lexeme.Sign.{Sign}
use Rattle.po_straight.specs.declared.lexeme.Sign.TheVariants as s
use Rattle.po_straight.specs.Spelling.{IsSpelling, IsWordByte, IsDigit, IsNondigit, keywords, BeginsWithWordByte}
use Rattle.po_straight.specs.Lexing.{Stands}
use Rattle.po_straight.proofs.Numerals.{all_digits}
use Rattle.po_straight.proofs.Splits.{split_same}
use Rattle.po_straight.proofs.Shapes.{word, mark, shape}

-- the sign that is spelled by a text, where one is
abbrev digit_test : ℕ → Bool
digit_test c = leb 48 c && leb c 57

abbrev mark_of : ℕ → Sign
mark_of c =
    cond (eqb c 43) s.Plus (cond (eqb c 45) s.Minus (cond (eqb c 42) s.Star (cond (eqb c 47) s.Slash (cond (eqb c 37) s.Percent
    (cond (eqb c 40) s.Open (cond (eqb c 41) s.Close (cond (eqb c 123) s.OpenBrace (cond (eqb c 125) s.CloseBrace (cond (eqb c 44) s.Comma s.Semicolon)))))))))

abbrev word_of : List ℕ → Sign
word_of text = cond (bytes_eq text (codes "int")) s.Int (cond (bytes_eq text (codes "void")) s.Void (cond (bytes_eq text (codes "return")) s.Return (s.Name text)))

abbrev sign_of : List ℕ → Sign
sign_of [] = s.Int
sign_of (c ∷ cs) = cond (digit_test c) (s.Constant (digits_value 10 (c ∷ cs))) (cond (leb c 64 || leb 123 c) (mark_of c) (word_of (c ∷ cs)))

digit_tests : (c : ℕ) → IsDigit c → digit_test c ≡ true
digit_tests c h = grind (arith, nat_tests)

nondigit_tests : (c : ℕ) → IsNondigit c → (digit_test c ≡ false) × ((leb c 64 || leb 123 c) ≡ false)
nondigit_tests c (inl h) = (grind (arith, nat_tests), grind (arith, nat_tests))
nondigit_tests c (inr (inl h)) = (grind (arith, nat_tests), grind (arith, nat_tests))
nondigit_tests c (inr (inr h)) = (grind (arith, nat_tests), grind (arith, nat_tests))

not_same : (text other : List ℕ) → (text ≡ other → ⊥) → bytes_eq text other ≡ false
not_same text other h =
    elim (bytes_eq text other) as (λ b. bytes_eq text other ≡ b → b ≡ false) [ true ↦ (λ e. absurd (h ((bytes_eq-Decides text other).0 e))) | false ↦ (λ e. refl) ] refl

int_keyword : Contains keywords (codes "int")
int_keyword = (17, lit< tt, refl)

void_keyword : Contains keywords (codes "void")
void_keyword = (31, lit< tt, refl)

return_keyword : Contains keywords (codes "return")
return_keyword = (21, lit< tt, refl)

name_is : (text : List ℕ) → (Contains keywords text → ⊥) → word_of text ≡ s.Name text
name_is text h =
    let i : bytes_eq text (codes "int") ≡ false = not_same text (codes "int") (λ e. h (rw e int_keyword)) in
    let v : bytes_eq text (codes "void") ≡ false = not_same text (codes "void") (λ e. h (rw e void_keyword)) in
    let r : bytes_eq text (codes "return") ≡ false = not_same text (codes "return") (λ e. h (rw e return_keyword)) in
    rw (i, v, r) refl

constant_is : (text : List ℕ) (n : ℕ) → All IsDigit text → 0 < length text → digits_value 10 text ≡ n → sign_of text ≡ s.Constant n
constant_is [] n digits some value = absurd (omega arith)
constant_is (c ∷ cs) n digits some value = rw (digit_tests c (All-head IsDigit c cs digits)) (ap s.Constant value)

sign_is : (x : Sign) (text : List ℕ) → IsSpelling x text → sign_of text ≡ x
sign_is s.Int text e = rw e refl
sign_is s.Void text e = rw e refl
sign_is s.Return text e = rw e refl
sign_is (s.Name []) text h = elim h.0.0 [ ]
sign_is (s.Name (c ∷ cs)) text h =
    let t = nondigit_tests c h.0.0.0 in
    rw (h.1, t.0, t.1) (name_is (c ∷ cs) h.0.1)
sign_is (s.Constant n) text h =
    let wide : n < 2 ^ 64 = omega arith in
    rw h.1 (constant_is (decimal n) n (all_digits n wide) (decimal_nonempty n wide) (decimal_is_IsNumeral n wide).1)
sign_is s.Plus text e = rw e refl
sign_is s.Minus text e = rw e refl
sign_is s.Star text e = rw e refl
sign_is s.Slash text e = rw e refl
sign_is s.Percent text e = rw e refl
sign_is s.Open text e = rw e refl
sign_is s.Close text e = rw e refl
sign_is s.OpenBrace text e = rw e refl
sign_is s.CloseBrace text e = rw e refl
sign_is s.Comma text e = rw e refl
sign_is s.Semicolon text e = rw e refl

pub spelling_same : (x y : Sign) (text : List ℕ) → IsSpelling x text → IsSpelling y text → x ≡ y
spelling_same x y text h g = sym (sign_is x text h) ∙ sign_is y text g

-- a front of word bytes ends where no word byte follows
pub ends : (left : List ℕ) → (BeginsWithWordByte left → ⊥) → (y : ℕ) (ys : List ℕ) → left ≡ y ∷ ys → IsWordByte y → ⊥
ends left h y ys e w = h (rw e w)

-- a word and a mark begin with other bytes
apart : (text left rest : List ℕ) (c : ℕ) → All IsWordByte text → 0 < length text → (IsWordByte c → ⊥) → text ++ left ≡ c ∷ rest → ⊥
apart [] left rest c all some other q = omega arith
apart (b ∷ bs) left rest c all some other q = let e : b ≡ c = cc in other (rw (← e) (All-head IsWordByte b bs all))

module _ (x y : Sign) (bytes left rest : List ℕ) (h : Stands x bytes left) (g : Stands y bytes rest) where
  same_text : h.text ≡ g.text → (x ≡ y)
  same_text e = spelling_same x y g.text (rw (← e) h.spelled) g.spelled

  pub front_same : (x ≡ y) × (left ≡ rest)
  front_same =
      let q : h.text ++ left ≡ g.text ++ rest = sym h.parts ∙ g.parts in
      elim (shape x h.text h.spelled) as (λ _. (x ≡ y) × (left ≡ rest)) [
        | word wx ax nx ↦ elim (shape y g.text g.spelled) as (λ _. (x ≡ y) × (left ≡ rest)) [
          | word wy ay ny ↦
              (let p = split_same IsWordByte h.text g.text left rest ax ay (ends left (h.ends wx)) (ends rest (g.ends wy)) q in
              (same_text p.0, p.1))
          | mark d my ty ny by ↦ absurd (apart h.text left rest d ax nx ny (q ∙ ap (λ v. v ++ rest) ty))
        ]
        | mark c mx tx nx bx ↦ elim (shape y g.text g.spelled) as (λ _. (x ≡ y) × (left ≡ rest)) [
          | word wy ay ny ↦ absurd (apart g.text rest left c ay ny nx (sym q ∙ ap (λ v. v ++ left) tx))
          | mark d my ty ny by ↦
              (let r : c ∷ left ≡ d ∷ rest = sym (ap (λ v. v ++ left) tx) ∙ q ∙ ap (λ v. v ++ rest) ty in
              let e : c ≡ d = cc in
              let l : left ≡ rest = cc in
              (same_text (tx ∙ ap (λ v. v ∷ []) e ∙ sym ty), l))
        ]
      ]
