-- Stars, each with the qualifiers behind it (C99 6.7.5.1).
use Rattle.std.specs.Prelude.{ℕ, List, [], ◌∷◌, Contains}
use Rattle.po_tree.specs.Signs.{Sign, word, star}
use Rattle.po_tree.specs.Words.{qualifiers}
use Rattle.po_exp_parts.specs.Places.{Begins, BeginsQualifier}

-- QualifiersRead ts words us: these are all qualifiers at the front of ts, and us are left
pub data QualifiersRead : List Sign → List (List ℕ) → List Sign → Type 0 where
  no_qualifier : (ts : List Sign) → (BeginsQualifier ts → ⊥) → QualifiersRead ts [] ts
  one_qualifier : (text : List ℕ) (rest : List (List ℕ)) (ts us : List Sign) → Contains qualifiers text →
      QualifiersRead ts rest us → QualifiersRead (word text ∷ ts) (text ∷ rest) us

-- StarsRead ts stars us: these are all stars at the front of ts, each with all qualifiers behind it, and us are left
pub data StarsRead : List Sign → List (List (List ℕ)) → List Sign → Type 0 where
  no_star : (ts : List Sign) → (Begins star ts → ⊥) → StarsRead ts [] ts
  one_star : (words : List (List ℕ)) (stars : List (List (List ℕ))) (ts us vs : List Sign) → QualifiersRead ts words us →
      StarsRead us stars vs → StarsRead (star ∷ ts) (words ∷ stars) vs
