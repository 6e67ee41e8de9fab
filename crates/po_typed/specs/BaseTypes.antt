-- What words, stars and qualifiers make of a type (C99 6.7.2, 6.7.3, 6.7.5.1).
use Rattle.std.specs.Prelude.{ℕ, ◌≡◌, ◌≢◌, IsPermutation, List, [], ◌∷◌, codes, Contains, Option, None}
use Rattle.po_arith.specs.declared.target.Target.{Target}
use Rattle.po_tree.specs.declared.expression.Specifier.{Specifier}
use Rattle.po_tree.specs.declared.expression.Specifier.TheVariants as sp
use Rattle.po_tree.specs.Words.{type_words, storage_classes}
use Rattle.po_types.specs.declared.ctype.CType.{CType}
use Rattle.po_types.specs.declared.ctype.CType.TheVariants as c
use Rattle.po_types.specs.Integers.{signed_type, unsigned_type, bool_type, char_type, int_type, long_type, size_type}
use Rattle.po_types.specs.Types.{signature}

-- the word stands among the specifiers
abbrev pub HasWord : List ℕ → List Specifier → Type 0
HasWord word specs = Contains specs (sp.Word word)

-- storage classes and `inline` stand among the specifiers only where they are allowed (6.7.1, 6.7.4)
abbrev pub OnlyWords : List (List ℕ) → List Specifier → Type 0
OnlyWords allowed specs = (word : List ℕ) → Contains (codes "inline" ∷ storage_classes) word → HasWord word specs → Contains allowed word

-- a storage class, a qualifier or `inline`
abbrev pub IsPlainWord : Specifier → Type 0
IsPlainWord s = (text : List ℕ) × (s ≡ sp.Word text) × (Contains type_words text → ⊥)

-- the table of 6.7.2p2; long long has the width of 64 bits
abbrev pub word_types : Target → List (List (List ℕ) × CType)
word_types target =
    (codes "void" ∷ [], c.Void) ∷
    (codes "char" ∷ [], c.Int char_type) ∷
    (codes "signed" ∷ codes "char" ∷ [], c.Int char_type) ∷
    (codes "unsigned" ∷ codes "char" ∷ [], c.Int (unsigned_type 8)) ∷
    (codes "short" ∷ [], c.Int (signed_type 16)) ∷
    (codes "signed" ∷ codes "short" ∷ [], c.Int (signed_type 16)) ∷
    (codes "short" ∷ codes "int" ∷ [], c.Int (signed_type 16)) ∷
    (codes "signed" ∷ codes "short" ∷ codes "int" ∷ [], c.Int (signed_type 16)) ∷
    (codes "unsigned" ∷ codes "short" ∷ [], c.Int (unsigned_type 16)) ∷
    (codes "unsigned" ∷ codes "short" ∷ codes "int" ∷ [], c.Int (unsigned_type 16)) ∷
    (codes "int" ∷ [], c.Int int_type) ∷
    (codes "signed" ∷ [], c.Int int_type) ∷
    (codes "signed" ∷ codes "int" ∷ [], c.Int int_type) ∷
    (codes "unsigned" ∷ [], c.Int (unsigned_type 32)) ∷
    (codes "unsigned" ∷ codes "int" ∷ [], c.Int (unsigned_type 32)) ∷
    (codes "long" ∷ [], c.Int (long_type target)) ∷
    (codes "signed" ∷ codes "long" ∷ [], c.Int (long_type target)) ∷
    (codes "long" ∷ codes "int" ∷ [], c.Int (long_type target)) ∷
    (codes "signed" ∷ codes "long" ∷ codes "int" ∷ [], c.Int (long_type target)) ∷
    (codes "unsigned" ∷ codes "long" ∷ [], c.Int (size_type target)) ∷
    (codes "unsigned" ∷ codes "long" ∷ codes "int" ∷ [], c.Int (size_type target)) ∷
    (codes "long" ∷ codes "long" ∷ [], c.Int (signed_type 64)) ∷
    (codes "signed" ∷ codes "long" ∷ codes "long" ∷ [], c.Int (signed_type 64)) ∷
    (codes "long" ∷ codes "long" ∷ codes "int" ∷ [], c.Int (signed_type 64)) ∷
    (codes "signed" ∷ codes "long" ∷ codes "long" ∷ codes "int" ∷ [], c.Int (signed_type 64)) ∷
    (codes "unsigned" ∷ codes "long" ∷ codes "long" ∷ [], c.Int (unsigned_type 64)) ∷
    (codes "unsigned" ∷ codes "long" ∷ codes "long" ∷ codes "int" ∷ [], c.Int (unsigned_type 64)) ∷
    (codes "_Bool" ∷ [], c.Int bool_type) ∷ []

-- the type words among specifiers that are words
pub data TypeWords : List Specifier → List (List ℕ) → Type 0 where
  no_more_words : TypeWords [] []
  word_of_type : (text : List ℕ) (specs : List Specifier) (words : List (List ℕ)) → Contains type_words text → TypeWords specs words →
      TypeWords (sp.Word text ∷ specs) (text ∷ words)
  other_word : (text : List ℕ) (specs : List Specifier) (words : List (List ℕ)) → (Contains type_words text → ⊥) → TypeWords specs words →
      TypeWords (sp.Word text ∷ specs) words

-- the specifiers are words, and their type words are those of a row, in any order
pub record IsWordType (target : Target) (specs : List Specifier) (t : CType) : Type 0 where
  pub words : List (List ℕ)
  pub row : List (List ℕ)
  pub among : TypeWords specs words
  pub reordered : IsPermutation words row
  pub listed : Contains (word_types target) (row, t)

-- one pointer for each `*` (6.7.5.1)
abbrev pub starred : CType → List (List (List ℕ)) → CType
starred t [] = t
starred t (star ∷ stars) = starred (c.Ptr t) stars

-- pointers to functions are left out
abbrev pub CanBeStarred : List (List (List ℕ)) → CType → Type 0
CanBeStarred stars t = stars ≢ [] → signature t ≡ None

-- pointers, and arrays of them: what `restrict` may qualify (6.7.3p2, p8)
pub data ArePointers : CType → Type 0 where
  pointer_itself : (t : CType) → ArePointers (c.Ptr t)
  array_of_pointers : (t : CType) (n : Option ℕ) → ArePointers t → ArePointers (c.Array t n)

abbrev pub RestrictFits : List Specifier → CType → Type 0
RestrictFits specs t = HasWord (codes "restrict") specs → ArePointers t
