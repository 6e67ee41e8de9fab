-- What the suffixes of integer constants say.
use Rattle.std.proofs.Common.{◌≡◌, ℕ, Bool, List, [], ◌∷◌, true, false, refl}
use Rattle.std.specs.Prelude.{All, Contains, codes, Option, Some, None, MatchOption, IfSome}
use Rattle.std.proofs.lemmas.List.Elements.{All-from_recursion, All-contains}
use Rattle.po_tree.specs.Literals.{suffixes}
use Rattle.po_typed.specs.Constants.{has_u, count_l}
use Rattle.po_constants.specs.declared.suffix.TypeMarks.{TypeMarks}

-- what a row says is what its text says
abbrev pub Says : List ℕ × TypeMarks → Type 0
Says row = (row.1.unsigned ≡ has_u row.0) × (row.1.longs ≡ count_l row.0)

abbrev marks : Bool → ℕ → TypeMarks
marks unsigned longs = record { unsigned = unsigned; longs = longs }

-- the table of the code
abbrev pub rows : List (List ℕ × TypeMarks)
rows =
    ([], marks false 0) ∷ (codes "u", marks true 0) ∷ (codes "U", marks true 0) ∷ (codes "l", marks false 1) ∷ (codes "L", marks false 1) ∷
    (codes "ll", marks false 2) ∷ (codes "LL", marks false 2) ∷ (codes "ul", marks true 1) ∷ (codes "uL", marks true 1) ∷ (codes "ull", marks true 2) ∷
    (codes "uLL", marks true 2) ∷ (codes "Ul", marks true 1) ∷ (codes "UL", marks true 1) ∷ (codes "Ull", marks true 2) ∷ (codes "ULL", marks true 2) ∷
    (codes "lu", marks true 1) ∷ (codes "lU", marks true 1) ∷ (codes "Lu", marks true 1) ∷ (codes "LU", marks true 1) ∷ (codes "llu", marks true 2) ∷
    (codes "llU", marks true 2) ∷ (codes "LLu", marks true 2) ∷ (codes "LLU", marks true 2) ∷ []

all_say : All Says rows
all_say =
    All-from_recursion Says rows
    ((refl, refl), ((refl, refl), ((refl, refl), ((refl, refl), ((refl, refl), ((refl, refl), ((refl, refl), ((refl, refl), ((refl, refl), ((refl, refl), ((refl, refl), ((refl, refl), ((refl, refl), ((refl, refl), ((refl, refl), ((refl, refl), ((refl, refl), ((refl, refl), ((refl, refl), ((refl, refl), ((refl, refl), ((refl, refl), ((refl, refl), tt)))))))))))))))))))))))

pub says : (text : List ℕ) (m : TypeMarks) → Contains {X = List ℕ × TypeMarks} rows (text, m) → (m.unsigned ≡ has_u text) × (m.longs ≡ count_l text)
says text m h = All-contains Says rows (text, m) all_say h

pub suffix_found : (text : List ℕ) (found : Option TypeMarks) →
    MatchOption found (Contains suffixes text → ⊥) (λ m. Contains suffixes text) → IfSome found (λ m. Contains {X = List ℕ × TypeMarks} rows (text, m)) →
    MatchOption found (Contains suffixes text → ⊥) (λ m. Contains suffixes text × (m.unsigned ≡ has_u text) × (m.longs ≡ count_l text))
suffix_found text None none row = none
suffix_found text (Some m) some row = let s = says text m row in (some, s.0, s.1)
