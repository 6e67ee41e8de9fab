-- How the spelling of signs goes on from byte to byte and from sign to sign.
use Rattle.std.proofs.Common.{◌≡◌, ℕ, ◌+◌, ◌<◌, ◌≤◌, List, [], ◌∷◌, ◌++◌, length, length-append, arith, ap, sym, ◌∙◌, refl, subst, add-zero, cond}
use Rattle.std.specs.Prelude.{All, ◌==◌}
use Rattle.std.proofs.lemmas.List.Sums.{sum_by-cons}
use Rattle.std.proofs.lemmas.List.Elements.{All-head, All-tail, All-cons, All-nil}
use Rattle.po_straight.specs.declared.lexeme.Sign.{Sign}
use Rattle.po_straight.specs.declared.lexeme.Lexeme.{Lexeme}
use Rattle.po_straight.specs.Spelling.{IsWordByte, IsBlank, newlines, Spells, nothing, sign}
use Rattle.po_straight.specs.Lexing.{Stands}
use Rattle.po_straight.proofs.Shapes.{Shape, word, mark, shape, word_not_blank}
use Rattle.po_straight.proofs.OneSign.{front_same}

-- a sign's text doesn't begin with a blank, and isn't empty
pub no_blank_front : (x : Sign) (text : List ℕ) → Shape x text → (c : ℕ) (cs rest : List ℕ) → text ++ rest ≡ c ∷ cs → IsBlank c → ⊥
no_blank_front x [] (word w a n) c cs rest q blank = omega arith
no_blank_front x (b ∷ bs) (word w a n) c cs rest q blank = let e : b ≡ c = cc in word_not_blank c (rw e at (All-head IsWordByte b bs a)) blank
no_blank_front x text (mark d w e nd bd) c cs rest q blank =
    let r : d ∷ rest ≡ c ∷ cs = sym (ap (λ v. v ++ rest) e) ∙ q in
    let same : d ≡ c = cc in bd (rw same blank)

pub some_text : (x : Sign) (text : List ℕ) → Shape x text → (rest : List ℕ) → text ++ rest ≡ [] → ⊥
some_text x [] (word w a n) rest q = omega arith
some_text x (b ∷ bs) (word w a n) rest q = cc
some_text x text (mark d w e nd bd) rest q =
    let r : d ∷ rest ≡ [] = sym (ap (λ v. v ++ rest) e) ∙ q in cc

abbrev after : ℕ → ℕ → ℕ
after line c = line + newlines (c ∷ [])

newlines-cons : (line c : ℕ) (cs : List ℕ) → after line c + newlines cs ≡ line + newlines (c ∷ cs)
newlines-cons line c cs =
    let f : ℕ → ℕ = λ x. cond (x == 10) 1 0 in
    let e : newlines (c ∷ cs) ≡ f c + newlines cs = sum_by-cons f c cs in
    let g : newlines (c ∷ []) ≡ f c + newlines [] = sum_by-cons f c [] in
    let z : newlines [] ≡ 0 = refl in
    rw (e, g) (omega arith)

pub after_blank : (c : ℕ) (cs : List ℕ) (line : ℕ) (xs : List Lexeme) (bytes : List ℕ) → IsBlank c → Spells line xs bytes → bytes ≡ c ∷ cs →
    Spells (line + newlines (c ∷ [])) xs cs
after_blank c cs line xs bytes blank (nothing l blanks all) e =
    let h : All IsBlank (c ∷ cs) = rw e at all in nothing (after l c) cs (All-tail IsBlank c cs h)
after_blank c cs line xs bytes blank (sign l [] text rest x ys all spelled ends more) e =
    absurd (no_blank_front x text (shape x text spelled) c cs rest e blank)
after_blank c cs line xs bytes blank (sign l (b ∷ bs) text rest x ys all spelled ends more) e =
    let same : b ≡ c = cc in
    let left : bs ++ (text ++ rest) ≡ cs = cc in
    let q : l + newlines (b ∷ bs) ≡ after l c + newlines bs = rw same (sym (newlines-cons l c bs)) in
    let here = sign (after l c) bs text rest x ys (All-tail IsBlank b bs all) spelled ends (subst (λ n. Spells n ys rest) q more) in
    rw q (subst (λ v. Spells (after l c) (record { sign = x; line = after l c + newlines bs } ∷ ys) v) left here)

pub before_blank : (c : ℕ) (cs : List ℕ) (line : ℕ) (xs : List Lexeme) → IsBlank c → Spells (line + newlines (c ∷ [])) xs cs → Spells line xs (c ∷ cs)
before_blank c cs line xs blank h = before _ xs cs h refl
  where
    before : (n : ℕ) (ys : List Lexeme) (bytes : List ℕ) → Spells n ys bytes → n ≡ after line c → Spells line ys (c ∷ bytes)
    before n ys bytes (nothing l blanks all) e = nothing line (c ∷ blanks) (All-cons IsBlank c blanks blank all)
    before n ys bytes (sign l blanks text rest x zs all spelled ends more) e =
        let q : l + newlines blanks ≡ line + newlines (c ∷ blanks) = rw e (newlines-cons line c blanks) in
        let here = sign line (c ∷ blanks) text rest x zs (All-cons IsBlank c blanks blank all) spelled ends (subst (λ k. Spells k zs rest) q more) in
        rw q here

pub before_sign : (x : Sign) (bytes left : List ℕ) (line : ℕ) (xs : List Lexeme) → Stands x bytes left → Spells line xs left →
    Spells line (record { sign = x; line = line } ∷ xs) bytes
before_sign x bytes left line xs h more =
    let z : line + newlines [] ≡ line = add-zero line in
    let here = sign line [] h.text left x xs (All-nil IsBlank) h.spelled h.ends (rw z more) in
    rw h.parts (rw z at here)

not_blanks : (x : Sign) (bytes left : List ℕ) → Stands x bytes left → All IsBlank bytes → ⊥
not_blanks x [] left h all = some_text x h.text (shape x h.text h.spelled) left (sym h.parts)
not_blanks x (c ∷ cs) left h all = no_blank_front x h.text (shape x h.text h.spelled) c cs left (sym h.parts) (All-head IsBlank c cs all)

pub after_sign : (x : Sign) (bytes left : List ℕ) (line : ℕ) (xs : List Lexeme) → Stands x bytes left → Spells line xs bytes →
    (ys : List Lexeme) × (xs ≡ record { sign = x; line = line } ∷ ys) × Spells line ys left
after_sign x bytes left line xs h (nothing l blanks all) = absurd (not_blanks x bytes left h all)
after_sign x bytes left line xs h (sign l [] text rest y ys all spelled ends more) =
    let same = front_same x y (text ++ rest) left rest h (record { text = text; parts = refl; spelled = spelled; ends = ends }) in
    let z : line + newlines [] ≡ line = add-zero line in (
      ys,
      ap (λ n. record { sign = y; line = n } ∷ ys) z ∙ ap (λ v. record { sign = v; line = line } ∷ ys) (sym same.0),
      rw same.1 (rw z at more),
    )
after_sign x bytes left line xs h (sign l (b ∷ bs) text rest y ys all spelled ends more) =
    absurd (no_blank_front x h.text (shape x h.text h.spelled) b (bs ++ (text ++ rest)) left (sym h.parts) (All-head IsBlank b bs all))

-- where no sign stands and no blank, no signs are spelled
pub no_sign : (bytes : List ℕ) (line : ℕ) (xs : List Lexeme) → ((x : Sign) (left : List ℕ) → Stands x bytes left → ⊥) →
    (c : ℕ) (cs : List ℕ) → bytes ≡ c ∷ cs → (IsBlank c → ⊥) → Spells line xs bytes → ⊥
no_sign bytes line xs none c cs q solid (nothing l blanks all) = solid (All-head IsBlank c cs (rw q at all))
no_sign bytes line xs none c cs q solid (sign l [] text rest y ys all spelled ends more) =
    none y rest (record { text = text; parts = refl; spelled = spelled; ends = ends })
no_sign bytes line xs none c cs q solid (sign l (b ∷ bs) text rest y ys all spelled ends more) =
    let same : b ≡ c = cc in solid (rw same at (All-head IsBlank b bs all))

after_blanks : (blanks rest : List ℕ) (line : ℕ) (xs : List Lexeme) → All IsBlank blanks → Spells line xs (blanks ++ rest) →
    Spells (line + newlines blanks) xs rest
after_blanks [] rest line xs all h = let z : line + newlines [] ≡ line = add-zero line in rw z h
after_blanks (b ∷ bs) rest line xs all h =
    let next = after_blank b (bs ++ rest) line xs ((b ∷ bs) ++ rest) (All-head IsBlank b bs all) h refl in
    rw (← newlines-cons line b bs) (after_blanks bs rest (after line b) xs (All-tail IsBlank b bs all) next)

only_blanks : (bytes : List ℕ) (line : ℕ) (ys : List Lexeme) → All IsBlank bytes → Spells line ys bytes → ys ≡ []
only_blanks bytes line ys all (nothing l blanks blank) = refl
only_blanks bytes line ys all (sign l [] text rest x xs none spelled ends more) =
    absurd (not_blanks x (text ++ rest) rest (record { text = text; parts = refl; spelled = spelled; ends = ends }) all)
only_blanks bytes line ys all (sign l (b ∷ bs) text rest x xs none spelled ends more) =
    let tail : All IsBlank (bs ++ (text ++ rest)) = All-tail IsBlank b (bs ++ (text ++ rest)) all in
    absurd (not_blanks x (text ++ rest) rest (record { text = text; parts = refl; spelled = spelled; ends = ends })
    (blanks_behind bs (text ++ rest) tail))
  where
    blanks_behind : (vs ws : List ℕ) → All IsBlank (vs ++ ws) → All IsBlank ws
    blanks_behind [] ws h = h
    blanks_behind (v ∷ vs) ws h = blanks_behind vs ws (All-tail IsBlank v (vs ++ ws) h)

pub one_spelling : (line : ℕ) (xs ys : List Lexeme) (bytes : List ℕ) → Spells line xs bytes → Spells line ys bytes → xs ≡ ys
one_spelling line xs ys bytes (nothing l blanks all) other = sym (only_blanks blanks line ys all other)
one_spelling line xs ys bytes (sign l blanks text rest x zs all spelled ends more) other =
    let behind = after_blanks blanks (text ++ rest) line ys all other in
    let next = after_sign x (text ++ rest) rest (line + newlines blanks) ys (record { text = text; parts = refl; spelled = spelled; ends = ends }) behind in
    ap (λ v. record { sign = x; line = line + newlines blanks } ∷ v) (one_spelling (line + newlines blanks) zs next.0 rest more next.2) ∙ sym next.1

some_bytes : (text : List ℕ) (x : Sign) → Shape x text → 0 < length text
some_bytes text x (word w a n) = n
some_bytes text x (mark c w e nw nb) = rw e (omega arith)

-- there are no more signs than bytes
pub fewer_signs : (line : ℕ) (xs : List Lexeme) (bytes : List ℕ) → Spells line xs bytes → length xs ≤ length bytes
fewer_signs line xs bytes (nothing l blanks all) = omega arith
fewer_signs line xs bytes (sign l blanks text rest x zs all spelled ends more) =
    let h = fewer_signs (line + newlines blanks) zs rest more in
    let n = some_bytes text x (shape x text spelled) in
    omega (arith, length-append blanks (text ++ rest), length-append text rest)
