-- Which signs a word and a mark can spell.
use Rattle.std.proofs.Common.{◌≡◌, ℕ, ◌<◌, ◌≤◌, ◌^◌, List, [], ◌∷◌, length, get_or, arith, sym, ◌∙◌, inl, inr, true, false}
use Rattle.std.specs.Prelude.{All, codes, decimal, Contains}
use Rattle.std.proofs.lemmas.List.Elements.{All-head, All-tail}
use Rattle.std.proofs.lemmas.Fmt.{decimal_nonempty}
use Rattle.std.proofs.lemmas.Slice.Eq.{bytes_eq-Decides}
use Rattle.std.specs.Str.{bytes_eq}
use Rattle.po_straight.specs.declared.lexeme.Sign.{Sign}
use Rattle.po_straight.specs.declared.lexeme.Sign.TheVariants as s
use Rattle.po_straight.specs.Spelling.{IsSpelling, IsWord, IsWordByte, IsDigit, IsNondigit, IsIdentifier, keywords}
use Rattle.po_straight.proofs.Numerals.{all_digits}
use Rattle.po_straight.proofs.Shapes.{Shape, word, mark, shape}

pub identifier : (text : List ℕ) → 0 < length text → IsNondigit (get_or text 0 0) → All IsWordByte text → IsIdentifier text
identifier [] some first all = omega arith
identifier (c ∷ cs) some first all = (first, All-tail IsWordByte c cs all)

not_both : (c : ℕ) → IsDigit c → IsNondigit c → ⊥
not_both c d (inl h) = omega arith
not_both c d (inr (inl h)) = omega arith
not_both c d (inr (inr h)) = omega arith

-- no mark is made of word bytes
no_mark_here : (x : Sign) (text : List ℕ) → Shape x text → (IsWord x → ⊥) → All IsWordByte text → ⊥
no_mark_here x text (word w a n) not_word all = not_word w
no_mark_here x text (mark c w e nw nb) not_word all = nw (All-head IsWordByte c [] (rw e at all))

first_digit : (text : List ℕ) (n : ℕ) → n < 2 ^ 31 → text ≡ decimal n → IsDigit (get_or text 0 0)
first_digit text n small e =
    let wide : n < 2 ^ 64 = omega arith in
    rw e (all_digits n wide 0 0 (decimal_nonempty n wide))

first_nondigit : (c : ℕ) → 97 ≤ c → c ≤ 122 → IsNondigit c
first_nondigit c low high = inr (inl (low, high))

pub none_keyword : (text : List ℕ) → All IsWordByte text → IsNondigit (get_or text 0 0) → Contains keywords text →
    (text ≡ codes "int" → ⊥) → (text ≡ codes "void" → ⊥) → (text ≡ codes "return" → ⊥) → (x : Sign) → IsSpelling x text → ⊥
none_keyword text all first keyword i v r s.Int h = i h
none_keyword text all first keyword i v r s.Void h = v h
none_keyword text all first keyword i v r s.Return h = r h
none_keyword text all first keyword i v r (s.Name name) h = h.0.1 (rw h.1 at keyword)
none_keyword text all first keyword i v r (s.Constant n) h = not_both (get_or text 0 0) (first_digit text n h.0 h.1) first
none_keyword text all first keyword i v r s.Plus h = no_mark_here s.Plus text (shape s.Plus text h) (λ w. w) all
none_keyword text all first keyword i v r s.Minus h = no_mark_here s.Minus text (shape s.Minus text h) (λ w. w) all
none_keyword text all first keyword i v r s.Star h = no_mark_here s.Star text (shape s.Star text h) (λ w. w) all
none_keyword text all first keyword i v r s.Slash h = no_mark_here s.Slash text (shape s.Slash text h) (λ w. w) all
none_keyword text all first keyword i v r s.Percent h = no_mark_here s.Percent text (shape s.Percent text h) (λ w. w) all
none_keyword text all first keyword i v r s.Open h = no_mark_here s.Open text (shape s.Open text h) (λ w. w) all
none_keyword text all first keyword i v r s.Close h = no_mark_here s.Close text (shape s.Close text h) (λ w. w) all
none_keyword text all first keyword i v r s.OpenBrace h = no_mark_here s.OpenBrace text (shape s.OpenBrace text h) (λ w. w) all
none_keyword text all first keyword i v r s.CloseBrace h = no_mark_here s.CloseBrace text (shape s.CloseBrace text h) (λ w. w) all
none_keyword text all first keyword i v r s.Comma h = no_mark_here s.Comma text (shape s.Comma text h) (λ w. w) all
none_keyword text all first keyword i v r s.Semicolon h = no_mark_here s.Semicolon text (shape s.Semicolon text h) (λ w. w) all

name_first : (text name : List ℕ) → IsIdentifier name → text ≡ name → IsNondigit (get_or text 0 0)
name_first text [] h e = elim h [ ]
name_first text (c ∷ cs) h e = rw e h.0

pub none_number : (text : List ℕ) → All IsWordByte text → (IsNondigit (get_or text 0 0) → ⊥) → ((n : ℕ) → n < 2 ^ 31 → text ≡ decimal n → ⊥) →
    (x : Sign) → IsSpelling x text → ⊥
none_number text all first none s.Int h = first (rw h (first_nondigit 105 (omega arith) (omega arith)))
none_number text all first none s.Void h = first (rw h (first_nondigit 118 (omega arith) (omega arith)))
none_number text all first none s.Return h = first (rw h (first_nondigit 114 (omega arith) (omega arith)))
none_number text all first none (s.Name name) h = first (name_first text name h.0.0 h.1)
none_number text all first none (s.Constant n) h = none n h.0 h.1
none_number text all first none s.Plus h = no_mark_here s.Plus text (shape s.Plus text h) (λ w. w) all
none_number text all first none s.Minus h = no_mark_here s.Minus text (shape s.Minus text h) (λ w. w) all
none_number text all first none s.Star h = no_mark_here s.Star text (shape s.Star text h) (λ w. w) all
none_number text all first none s.Slash h = no_mark_here s.Slash text (shape s.Slash text h) (λ w. w) all
none_number text all first none s.Percent h = no_mark_here s.Percent text (shape s.Percent text h) (λ w. w) all
none_number text all first none s.Open h = no_mark_here s.Open text (shape s.Open text h) (λ w. w) all
none_number text all first none s.Close h = no_mark_here s.Close text (shape s.Close text h) (λ w. w) all
none_number text all first none s.OpenBrace h = no_mark_here s.OpenBrace text (shape s.OpenBrace text h) (λ w. w) all
none_number text all first none s.CloseBrace h = no_mark_here s.CloseBrace text (shape s.CloseBrace text h) (λ w. w) all
none_number text all first none s.Comma h = no_mark_here s.Comma text (shape s.Comma text h) (λ w. w) all
none_number text all first none s.Semicolon h = no_mark_here s.Semicolon text (shape s.Semicolon text h) (λ w. w) all

pub other_text : (text other now : List ℕ) → false ≡ bytes_eq text now → now ≡ other → text ≡ other → ⊥
other_text text other now h e q =
    let t : bytes_eq text now ≡ true = (bytes_eq-Decides text now).1 (q ∙ sym e) in cc

pub no_mark : (c : ℕ) (text : List ℕ) → (IsWordByte c → ⊥) → (c ≡ 43 → ⊥) → (c ≡ 45 → ⊥) → (c ≡ 42 → ⊥) → (c ≡ 47 → ⊥) → (c ≡ 37 → ⊥) → (c ≡ 40 → ⊥) →
    (c ≡ 41 → ⊥) → (c ≡ 123 → ⊥) → (c ≡ 125 → ⊥) → (c ≡ 44 → ⊥) → (c ≡ 59 → ⊥) → (x : Sign) → Shape x (c ∷ text) → IsSpelling x (c ∷ text) → ⊥
no_mark c text other n1 n2 n3 n4 n5 n6 n7 n8 n9 n10 n11 x (word w a n) h = other (All-head IsWordByte c text a)
no_mark c text other n1 n2 n3 n4 n5 n6 n7 n8 n9 n10 n11 s.Int (mark d w e nw nb) h = w tt
no_mark c text other n1 n2 n3 n4 n5 n6 n7 n8 n9 n10 n11 s.Void (mark d w e nw nb) h = w tt
no_mark c text other n1 n2 n3 n4 n5 n6 n7 n8 n9 n10 n11 s.Return (mark d w e nw nb) h = w tt
no_mark c text other n1 n2 n3 n4 n5 n6 n7 n8 n9 n10 n11 (s.Name name) (mark d w e nw nb) h = w tt
no_mark c text other n1 n2 n3 n4 n5 n6 n7 n8 n9 n10 n11 (s.Constant n) (mark d w e nw nb) h = w tt
no_mark c text other n1 n2 n3 n4 n5 n6 n7 n8 n9 n10 n11 s.Plus (mark d w e nw nb) h = n1 (cc)
no_mark c text other n1 n2 n3 n4 n5 n6 n7 n8 n9 n10 n11 s.Minus (mark d w e nw nb) h = n2 (cc)
no_mark c text other n1 n2 n3 n4 n5 n6 n7 n8 n9 n10 n11 s.Star (mark d w e nw nb) h = n3 (cc)
no_mark c text other n1 n2 n3 n4 n5 n6 n7 n8 n9 n10 n11 s.Slash (mark d w e nw nb) h = n4 (cc)
no_mark c text other n1 n2 n3 n4 n5 n6 n7 n8 n9 n10 n11 s.Percent (mark d w e nw nb) h = n5 (cc)
no_mark c text other n1 n2 n3 n4 n5 n6 n7 n8 n9 n10 n11 s.Open (mark d w e nw nb) h = n6 (cc)
no_mark c text other n1 n2 n3 n4 n5 n6 n7 n8 n9 n10 n11 s.Close (mark d w e nw nb) h = n7 (cc)
no_mark c text other n1 n2 n3 n4 n5 n6 n7 n8 n9 n10 n11 s.OpenBrace (mark d w e nw nb) h = n8 (cc)
no_mark c text other n1 n2 n3 n4 n5 n6 n7 n8 n9 n10 n11 s.CloseBrace (mark d w e nw nb) h = n9 (cc)
no_mark c text other n1 n2 n3 n4 n5 n6 n7 n8 n9 n10 n11 s.Comma (mark d w e nw nb) h = n10 (cc)
no_mark c text other n1 n2 n3 n4 n5 n6 n7 n8 n9 n10 n11 s.Semicolon (mark d w e nw nb) h = n11 (cc)
