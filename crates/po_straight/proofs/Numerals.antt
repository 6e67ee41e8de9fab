-- The digits of a decimal constant.
use Rattle.std.proofs.Common.{◌≡◌, ℕ, ◌+◌, ◌*◌, ◌/◌, ◌%◌, ◌^◌, ◌<◌, ◌≤◌, List, [], ◌∷◌, ◌++◌, length, get_or, take, arith, ap, sym, ◌∙◌, zero, suc, true, false, eqb}
use Rattle.std.specs.Prelude.{All, decimal}
use Rattle.std.proofs.Math.Pow.{pow_mono}
use Rattle.std.proofs.lemmas.Nat.{pow-add}
use Rattle.std.proofs.lemmas.Bool.Decides.{Decides-eqb}
use Rattle.std.proofs.lemmas.List.{take_more}
use Rattle.std.proofs.lemmas.List.Elements.{All-push, All-cons, All-nil, All-get_or}
use Rattle.std.proofs.lemmas.Fmt.{decimal_digit, decimal_step, decimal_by_steps, length-decimal-le, decimal_nonempty, first_decimal, decimal_injective}
use Rattle.po_straight.specs.Spelling.{IsDigit}

wide : (n : ℕ) → n < 2 ^ 31 → n < 2 ^ 64
wide n h = omega arith

pub all_digits : (n : ℕ) → n < 2 ^ 64 → All IsDigit (decimal n)
all_digits n h = decimal_by_steps (λ n ds. All IsDigit ds)
    (λ n small. All-cons IsDigit (48 + n) [] (omega arith, omega arith) (All-nil IsDigit))
    (λ n ds big before. let rem : n % 10 < 10 = omega arith in All-push IsDigit ds _ before (omega arith, omega arith)) n h

pub not_empty : (word : List ℕ) (n : ℕ) → true ≡ eqb (length word) 0 → n < 2 ^ 31 → word ≡ decimal n → ⊥
not_empty word n none small e = let p : 0 < length (decimal n) = decimal_nonempty n (wide n small) in
    let q : length word ≡ length (decimal n) = ap length e in
    let z : length word ≡ 0 = (Decides-eqb (length word) 0).0 (sym none) in omega arith

pub not_nothing : (word : List ℕ) → false ≡ eqb (length word) 0 → 0 < length word
not_nothing [] h = absurd (cc)
not_nothing (c ∷ cs) h = omega arith

pub not_long : (word : List ℕ) (n : ℕ) → 10 < length word → n < 2 ^ 31 → word ≡ decimal n → ⊥
not_long word n long small e =
    let p : length (decimal n) ≤ 10 = length-decimal-le 10 n (omega arith) (omega arith) (wide n small) in
    let q : length word ≡ length (decimal n) = ap length e in omega arith

pub not_digit : (word : List ℕ) (at n : ℕ) → at < length word → (IsDigit (get_or word at 0) → ⊥) → n < 2 ^ 31 → word ≡ decimal n → ⊥
not_digit word at n in' bad small e =
    let q : length word ≡ length (decimal n) = ap length e in
    bad (rw e (All-get_or IsDigit (decimal n) at 0 (omega arith) (all_digits n (wide n small))))

pub first : (word : List ℕ) (d : ℕ) → 0 < length word → d < 10 → get_or word 0 0 ≡ 48 + d → take 1 word ≡ decimal d
first [] d some small e = absurd (omega arith)
first (c ∷ cs) d some small e = ap (λ x. x ∷ []) e ∙ sym (decimal_digit d small)

pub next : (word : List ℕ) (at value d : ℕ) → at < length word → 0 < value → value < 2 ^ 40 → d < 10 → get_or word at 0 ≡ 48 + d →
    take at word ≡ decimal value → take (at + 1) word ≡ decimal (10 * value + d)
next word at value d in' some small digit e before =
    let n : (10 * value + d) / 10 ≡ value = omega arith in
    let r : (10 * value + d) % 10 ≡ d = omega arith in
    let s : decimal (10 * value + d) ≡ decimal value ++ ((48 + d) ∷ []) =
    (let t = decimal_step (10 * value + d) (omega arith) (omega arith) in rw (n, r) at t) in
    let m : take (at + 1) word ≡ take at word ++ (get_or word at 0 ∷ []) = take_more word at 0 in' in
    m ∙ (rw (before, e) (sym s))

pub below : (at value d : ℕ) → value < 2 ^ (4 * at) → d < 10 → 10 * value + d < 2 ^ (4 * (at + 1))
below at value d small digit =
    let e : 4 * (at + 1) ≡ 4 * at + 4 = omega arith in
    let p : 2 ^ (4 * at + 4) ≡ 2 ^ (4 * at) * 2 ^ 4 = pow-add 2 (4 * at) 4 in
    rw (e, p) (omega arith)

pub bounded : (at value : ℕ) → at ≤ 10 → value < 2 ^ (4 * at) → value < 2 ^ 40
bounded at value few small = let q : 4 * at ≤ 40 = omega arith in let p : 2 ^ (4 * at) ≤ 2 ^ 40 = pow_mono q in omega arith

-- a constant that begins with 0 is 0
pub not_longer : (word : List ℕ) (at n : ℕ) → 0 < at → at < length word → take at word ≡ decimal 0 → n < 2 ^ 31 → word ≡ decimal n → ⊥
not_longer word at zero some in' zeros small e =
    let p : length (decimal 0) ≡ 1 = ap length (decimal_digit 0 (omega arith)) in
    let q : length word ≡ length (decimal 0) = ap length e in omega arith
not_longer (c ∷ cs) zero (suc n) some in' zeros small e = elim some [ ]
not_longer [] at (suc n) some in' zeros small e = absurd (omega arith)
not_longer (c ∷ cs) (suc at) (suc n) some in' zeros small e =
    let p : 48 < get_or (decimal (suc n)) 0 0 = first_decimal (suc n) (omega arith) (wide (suc n) small) in
    let q : get_or (c ∷ cs) 0 0 ≡ get_or (decimal (suc n)) 0 0 = ap (λ w. get_or w 0 0) e in
    let r : get_or (c ∷ take at cs) 0 0 ≡ get_or (decimal 0) 0 0 = ap (λ w. get_or w 0 0) zeros in
    let z : get_or (decimal 0) 0 0 ≡ 48 = ap (λ w. get_or w 0 0) (decimal_digit 0 (omega arith)) in omega arith

pub not_large : (word : List ℕ) (value n : ℕ) → 2 ^ 31 ≤ value → value < 2 ^ 40 → word ≡ decimal value → n < 2 ^ 31 → word ≡ decimal n → ⊥
not_large word value n large bound here small e =
    let p : value ≡ n = decimal_injective value n (omega arith) (wide n small) (sym here ∙ e) in omega arith
