-- How one specifier of a type name is read (C99 6.7.6).
use Rattle.std.specs.Prelude.{ℕ, ◌≡◌, List, ◌∷◌, codes, Contains, Some, None, false}
use Rattle.po_tree.specs.declared.expression.Specifier.{Specifier}
use Rattle.po_tree.specs.declared.expression.Specifier.TheVariants as sp
use Rattle.po_exp_parts.specs.declared.seen.Seen.{Seen}
use Rattle.po_exp_parts.specs.Seen.{typed}
use Rattle.po_tree.specs.Signs.{Sign, word}
use Rattle.po_tree.specs.Words.{IsName, type_words, qualifiers}
use Rattle.po_tree.specs.Expressions.{Typed, untyped, by_words, by_name, TakesWord}
use Rattle.po_base.specs.declared.token.Token.{Token}
use Rattle.po_exp_parts.specs.Places.{signs_from}

-- TagRead text ts spec us: the word `text` and a tag at the front of ts are this specifier, and us are left
pub data TagRead (text : List ℕ) (ts : List Sign) : Specifier → List Sign → Type 0 where
  struct_tag : (tag : List ℕ) (us : List Sign) → text ≡ codes "struct" → IsName tag → ts ≡ word tag ∷ us →
      TagRead text ts (sp.Struct (Some tag) None) us
  enum_tag : (tag : List ℕ) (us : List Sign) → text ≡ codes "enum" → IsName tag → ts ≡ word tag ∷ us →
      TagRead text ts (sp.Enum (Some tag) None false) us

-- SpecRead types text ts before spec now us: behind such specifiers the word `text`, with ts behind it, begins this specifier,
-- with which such were seen, and us are left
pub data SpecRead (types : List (List ℕ)) (text : List ℕ) (ts : List Sign) : Typed → Specifier → Typed → List Sign → Type 0 where
  qualifier : (before : Typed) → Contains qualifiers text → SpecRead types text ts before (sp.Word text) before ts
  type_word : (before : Typed) → Contains type_words text → TakesWord before → SpecRead types text ts before (sp.Word text) by_words ts
  typedef_name : IsName text → Contains types text → SpecRead types text ts untyped (sp.Named text) by_name ts
  tag : (spec : Specifier) (us : List Sign) → TagRead text ts spec us → SpecRead types text ts untyped spec by_name us

-- what the reader finds where the word `text` stands before a place
abbrev pub StandsBehind : List (List ℕ) → List ℕ → List Token → ℕ → Seen → Specifier × Seen × ℕ → Type 0
StandsBehind types text tokens at before found =
    SpecRead types text (signs_from tokens at) (typed before) found.0 (typed found.1) (signs_from tokens found.2)

-- no specifier begins there
abbrev pub NoneBehind : List (List ℕ) → List ℕ → List Token → ℕ → Seen → Type 0
NoneBehind types text tokens at before =
    (spec : Specifier) (now : Typed) (left : List Sign) → SpecRead types text (signs_from tokens at) (typed before) spec now left → ⊥
