-- How the words of a type name are read (C99 6.7.6).
use Rattle.std.specs.Prelude.{ℕ, ◌≡◌, List, [], ◌∷◌, ◌++◌, codes, Contains, Some, None, false, ◌⊎◌}
use Rattle.po_base.specs.declared.token.TokenKind.TheVariants as k
use Rattle.po_tree.specs.declared.expression.Specifier.{Specifier}
use Rattle.po_tree.specs.declared.expression.Specifier.TheVariants as sp
use Rattle.po_tree.specs.Signs.{Sign, word}
use Rattle.po_tree.specs.Words.{IsName, type_words, qualifiers}
use Rattle.po_tree.specs.Expressions.{Typed, untyped, by_words, by_name, TakesWord}
use Rattle.po_exp_parts.specs.Places.{BeginsWord}

-- the keywords with which a type name may begin
abbrev pub type_keywords : List (List ℕ)
type_keywords = codes "struct" ∷ codes "enum" ∷ (type_words ++ qualifiers)

-- a word with which a type name may begin
abbrev pub IsTypeStart : List (List ℕ) → List ℕ → Type 0
IsTypeStart types text = Contains type_keywords text ⊎ (IsName text × Contains types text)

abbrev pub StartsType : List (List ℕ) → List Sign → Type 0
StartsType types [] = ⊥
StartsType types (t ∷ ts) = (t.kind ≡ k.Word) × IsTypeStart types t.text

-- SpecsRead types seen ts specs us: behind such specifiers all words at the front of ts are these specifiers, and us are left
pub data SpecsRead (types : List (List ℕ)) : Typed → List Sign → List Specifier → List Sign → Type 0 where
  specs_end : (seen : Typed) (ts : List Sign) → (BeginsWord ts → ⊥) → SpecsRead types seen ts [] ts
  qualifier : (seen : Typed) (text : List ℕ) (rest : List Specifier) (ts us : List Sign) → Contains qualifiers text →
      SpecsRead types seen ts rest us → SpecsRead types seen (word text ∷ ts) (sp.Word text ∷ rest) us
  type_word : (seen : Typed) (text : List ℕ) (rest : List Specifier) (ts us : List Sign) → Contains type_words text → TakesWord seen →
      SpecsRead types by_words ts rest us → SpecsRead types seen (word text ∷ ts) (sp.Word text ∷ rest) us
  typedef_name : (name : List ℕ) (rest : List Specifier) (ts us : List Sign) → IsName name → Contains types name →
      SpecsRead types by_name ts rest us → SpecsRead types untyped (word name ∷ ts) (sp.Named name ∷ rest) us
  struct_tag : (tag : List ℕ) (rest : List Specifier) (ts us : List Sign) → IsName tag →
      SpecsRead types by_name ts rest us → SpecsRead types untyped (word (codes "struct") ∷ (word tag ∷ ts)) (sp.Struct (Some tag) None ∷ rest) us
  enum_tag : (tag : List ℕ) (rest : List Specifier) (ts us : List Sign) → IsName tag →
      SpecsRead types by_name ts rest us → SpecsRead types untyped (word (codes "enum") ∷ (word tag ∷ ts)) (sp.Enum (Some tag) None false ∷ rest) us
