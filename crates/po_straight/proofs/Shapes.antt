-- A sign is a word, made of word bytes, or a mark of one other byte.
use Rattle.std.proofs.Common.{◌≡◌, ℕ, ◌<◌, ◌≤◌, ◌^◌, List, [], ◌∷◌, length, arith, refl, inl, inr, ◌⊎◌}
use Rattle.std.specs.Prelude.{All, codes, decimal}
use Rattle.std.specs.List.{AllByRecursion}
use Rattle.std.proofs.lemmas.List.Elements.{All-cons, All-weaker, All-from_recursion}
use Rattle.std.proofs.lemmas.Fmt.{decimal_nonempty}
use Rattle.po_straight.specs.declared.lexeme.Sign.{Sign}
use Rattle.po_straight.specs.declared.lexeme.Sign.TheVariants as s
use Rattle.po_straight.specs.Spelling.{IsSpelling, IsWord, IsWordByte, IsDigit, IsBlank}
use Rattle.po_straight.proofs.Numerals.{all_digits}

pub data Shape (x : Sign) (text : List ℕ) : Type 0 where
  word : IsWord x → All IsWordByte text → 0 < length text → Shape x text
  mark : (c : ℕ) → (IsWord x → ⊥) → text ≡ c ∷ [] → (IsWordByte c → ⊥) → (IsBlank c → ⊥) → Shape x text

small_letter : (c : ℕ) → 97 ≤ c → c ≤ 122 → IsWordByte c
small_letter c low high = inr (inr (inl (low, high)))

-- the five ranges of word bytes, and the blanks
pub not_word_byte : (c : ℕ) → (48 ≤ c → c ≤ 57 → ⊥) → (65 ≤ c → c ≤ 90 → ⊥) → (97 ≤ c → c ≤ 122 → ⊥) → (c ≡ 95 → ⊥) → IsWordByte c → ⊥
not_word_byte c digit big small line (inl h) = digit h.0 h.1
not_word_byte c digit big small line (inr (inl h)) = big h.0 h.1
not_word_byte c digit big small line (inr (inr (inl h))) = small h.0 h.1
not_word_byte c digit big small line (inr (inr (inr h))) = line h

pub word_not_blank : (c : ℕ) → IsWordByte c → IsBlank c → ⊥
word_not_blank c w (inl h) = not_word_byte c (λ a b. omega arith) (λ a b. omega arith) (λ a b. omega arith) (λ a. omega arith) w
word_not_blank c w (inr (inl h)) = not_word_byte c (λ a b. omega arith) (λ a b. omega arith) (λ a b. omega arith) (λ a. omega arith) w
word_not_blank c w (inr (inr h)) = not_word_byte c (λ a b. omega arith) (λ a b. omega arith) (λ a b. omega arith) (λ a. omega arith) w

not_blank : (c : ℕ) → 33 ≤ c → IsBlank c → ⊥
not_blank c h (inl e) = omega arith
not_blank c h (inr (inl e)) = omega arith
not_blank c h (inr (inr e)) = omega arith

plain_mark : (x : Sign) (text : List ℕ) (c : ℕ) → (IsWord x → ⊥) → text ≡ c ∷ [] → 33 ≤ c → (c < 48) ⊎ ((c ≡ 59) ⊎ ((c ≡ 123) ⊎ (c ≡ 125))) → Shape x text
plain_mark x text c no_word e low (inl h) =
    mark c no_word e (λ w. not_word_byte c (λ a b. omega arith) (λ a b. omega arith) (λ a b. omega arith) (λ a. omega arith) w) (not_blank c low)
plain_mark x text c no_word e low (inr (inl h)) =
    mark c no_word e (λ w. not_word_byte c (λ a b. omega arith) (λ a b. omega arith) (λ a b. omega arith) (λ a. omega arith) w) (not_blank c low)
plain_mark x text c no_word e low (inr (inr (inl h))) =
    mark c no_word e (λ w. not_word_byte c (λ a b. omega arith) (λ a b. omega arith) (λ a b. omega arith) (λ a. omega arith) w) (not_blank c low)
plain_mark x text c no_word e low (inr (inr (inr h))) =
    mark c no_word e (λ w. not_word_byte c (λ a b. omega arith) (λ a b. omega arith) (λ a b. omega arith) (λ a. omega arith) w) (not_blank c low)

IsSmall : ℕ → Type 0
IsSmall c = (97 ≤ c) × (c ≤ 122)

small_letters : (text : List ℕ) → AllByRecursion IsSmall text → All IsWordByte text
unfolding IsSmall
small_letters text h = All-weaker IsSmall IsWordByte (λ c w. small_letter c w.0 w.1) text (All-from_recursion IsSmall text h)

small : (c : ℕ) → 97 ≤ c → c ≤ 122 → IsSmall c
unfolding IsSmall
small c low high = (low, high)

int_letters : All IsWordByte (codes "int")
int_letters = small_letters (codes "int") (small 105 (omega arith) (omega arith), (small 110 (omega arith) (omega arith), (small 116 (omega arith) (omega arith), tt)))

void_letters : All IsWordByte (codes "void")
void_letters = small_letters (codes "void")
    (small 118 (omega arith) (omega arith), (small 111 (omega arith) (omega arith), (small 105 (omega arith) (omega arith), (small 100 (omega arith) (omega arith), tt))))

return_letters : All IsWordByte (codes "return")
return_letters = small_letters (codes "return") (
  small 114 (omega arith) (omega arith),
  (
    small 101 (omega arith) (omega arith),
    (
      small 116 (omega arith) (omega arith),
      (small 117 (omega arith) (omega arith), (small 114 (omega arith) (omega arith), (small 110 (omega arith) (omega arith), tt))),
    ),
  ),
)

pub shape : (x : Sign) (text : List ℕ) → IsSpelling x text → Shape x text
shape s.Int text e = word tt (rw e int_letters) (rw e (omega arith))
shape s.Void text e = word tt (rw e void_letters) (rw e (omega arith))
shape s.Return text e = word tt (rw e return_letters) (rw e (omega arith))
shape (s.Name []) text h = elim h.0.0 [ ]
shape (s.Name (c ∷ cs)) text h = word tt (rw h.1 (All-cons IsWordByte c cs (inr h.0.0.0) h.0.0.1)) (rw h.1 (omega arith))
shape (s.Constant n) text h =
    let wide : n < 2 ^ 64 = omega arith in
    word tt (rw h.1 (All-weaker IsDigit IsWordByte (λ c d. inl d) (decimal n) (all_digits n wide))) (rw h.1 (decimal_nonempty n wide))
shape s.Plus text e = plain_mark s.Plus text 43 (λ w. w) e (omega arith) (inl (omega arith))
shape s.Minus text e = plain_mark s.Minus text 45 (λ w. w) e (omega arith) (inl (omega arith))
shape s.Star text e = plain_mark s.Star text 42 (λ w. w) e (omega arith) (inl (omega arith))
shape s.Slash text e = plain_mark s.Slash text 47 (λ w. w) e (omega arith) (inl (omega arith))
shape s.Percent text e = plain_mark s.Percent text 37 (λ w. w) e (omega arith) (inl (omega arith))
shape s.Open text e = plain_mark s.Open text 40 (λ w. w) e (omega arith) (inl (omega arith))
shape s.Close text e = plain_mark s.Close text 41 (λ w. w) e (omega arith) (inl (omega arith))
shape s.OpenBrace text e = plain_mark s.OpenBrace text 123 (λ w. w) e (omega arith) (inr (inr (inl refl)))
shape s.CloseBrace text e = plain_mark s.CloseBrace text 125 (λ w. w) e (omega arith) (inr (inr (inr refl)))
shape s.Comma text e = plain_mark s.Comma text 44 (λ w. w) e (omega arith) (inl (omega arith))
shape s.Semicolon text e = plain_mark s.Semicolon text 59 (λ w. w) e (omega arith) (inr (inl refl))
