-- Specifiers (C99 6.7.1 to 6.7.4), but for the members of a struct.
use Rattle.std.specs.Prelude.{ℕ, ◌≡◌, Bool, true, false, IsTrue, List, ◌∷◌, Contains, codes, Option, Some, None}
use Rattle.po_tree.specs.declared.expression.Exp.{Exp}
use Rattle.po_tree.specs.declared.expression.Specifier.{Specifier}
use Rattle.po_tree.specs.declared.expression.Specifier.TheVariants as sp
use Rattle.po_tree.specs.Signs.{Sign, word, brace}
use Rattle.po_tree.specs.Words.{IsName, storage_classes, type_words, qualifiers}
use Rattle.po_tree.specs.Expressions.{Typed, untyped, by_words, by_name, TakesWord}
use Rattle.po_exp_parts.specs.Places.{Begins, signs_between}
use Rattle.po_exp_parts.specs.Seen.{typed}
use Rattle.po_base.specs.declared.token.Token.{Token}
use Rattle.po_tree.specs.NameSets.{AreSame}
use Rattle.po_decl_parts.specs.declared.specifiers.Found.{Found}
use Rattle.po_decl_parts.specs.Enumerators.{EnumeratorsRead}

-- a tag, where one is written before this brace; us are behind the brace
pub data TagRead (ts : List Sign) : Option (List ℕ) → List Sign → Type 0 where
  no_tag : (us : List Sign) → ts ≡ brace ∷ us → TagRead ts None us
  tagged : (tag : List ℕ) (us : List Sign) → IsName tag → ts ≡ word tag ∷ (brace ∷ us) → TagRead ts (Some tag) us

-- no tag stands alone at the front, before something else than a brace
abbrev pub NoTag : List Sign → Type 0
NoTag ts = (tag : List ℕ) (us : List Sign) → IsName tag → ts ≡ word tag ∷ us → (Begins brace us → ⊥) → ⊥

-- the body of a struct with this tag begins at the front of these signs; us are behind its brace
pub record Opens (signs : List Sign) (tag : Option (List ℕ)) (us : List Sign) : Type 0 where
  pub behind : List Sign
  pub first : signs ≡ word (codes "struct") ∷ behind
  pub named : TagRead behind tag us

-- SpecifierRead outer text ts free types seen spec free' types' seen' us: behind such specifiers the word `text`, with ts behind it,
-- begins this specifier, and us are left. `outer` says that the place is not in a struct, `free` that a storage class may still come;
-- `types` are the typedef names in force, and `seen` the type specifiers so far. The same behind it have a prime.
pub data SpecifierRead (outer : Bool) (text : List ℕ) (ts : List Sign) : Bool → List (List ℕ) → Typed → Specifier → Bool → List (List ℕ) → Typed → List Sign → Type 0 where
  storage_class : (types : List (List ℕ)) (seen : Typed) → Contains storage_classes text →
      SpecifierRead outer text ts true types seen (sp.Word text) false types seen ts
  inline_word : (free : Bool) (types : List (List ℕ)) (seen : Typed) → text ≡ codes "inline" → IsTrue outer →
      SpecifierRead outer text ts free types seen (sp.Word text) free types seen ts
  qualifier : (free : Bool) (types : List (List ℕ)) (seen : Typed) → Contains qualifiers text →
      SpecifierRead outer text ts free types seen (sp.Word text) free types seen ts
  type_word : (free : Bool) (types : List (List ℕ)) (seen : Typed) → Contains type_words text → TakesWord seen →
      SpecifierRead outer text ts free types seen (sp.Word text) free types by_words ts
  typedef_name : (free : Bool) (types : List (List ℕ)) → IsName text → Contains types text →
      SpecifierRead outer text ts free types untyped (sp.Named text) free types by_name ts
  struct_tag : (free : Bool) (types : List (List ℕ)) (tag : List ℕ) (us : List Sign) → text ≡ codes "struct" → IsName tag → ts ≡ word tag ∷ us →
      (Begins brace us → ⊥) → SpecifierRead outer text ts free types untyped (sp.Struct (Some tag) None) free types by_name us
  enum_tag : (free : Bool) (types : List (List ℕ)) (tag : List ℕ) (us : List Sign) → text ≡ codes "enum" → IsName tag → ts ≡ word tag ∷ us →
      (Begins brace us → ⊥) → SpecifierRead outer text ts free types untyped (sp.Enum (Some tag) None false) free types by_name us
  enum_body : (free more : Bool) (types types' : List (List ℕ)) (tag : Option (List ℕ)) (items : List (List ℕ × Option Exp)) (us vs : List Sign) →
      text ≡ codes "enum" → TagRead ts tag us → EnumeratorsRead types us items more types' vs →
      SpecifierRead outer text ts free types untyped (sp.Enum tag (Some items) more) free types' by_name vs

-- the same at the front of these signs
pub record SpecifierStands (outer free : Bool) (types : List (List ℕ)) (seen : Typed) (signs : List Sign)
    (spec : Specifier) (free' : Bool) (types' : List (List ℕ)) (seen' : Typed) (us : List Sign) : Type 0 where
  pub text : List ℕ
  pub behind : List Sign
  pub first : signs ≡ word text ∷ behind
  pub reads : SpecifierRead outer text behind free types seen spec free' types' seen' us

-- a word that is a specifier by itself
pub data IsSpecifierWord (text : List ℕ) : Type 0 where
  by_storage_class : Contains storage_classes text → IsSpecifierWord text
  by_inline : text ≡ codes "inline" → IsSpecifierWord text
  by_qualifier : Contains qualifiers text → IsSpecifierWord text
  by_type : Contains type_words text → IsSpecifierWord text

-- what is found where the word `text` stands before a place, with the typedef names `now` behind it
abbrev pub FoundBehind : Bool → List ℕ → List Token → ℕ → ℕ → Bool → List (List ℕ) → Typed → Found → List (List ℕ) → Type 0
FoundBehind outer text tokens at to free types seen found now =
    (behind : List (List ℕ)) ×
    SpecifierRead outer text (signs_between tokens at to) free types seen found.specifier found.free behind (typed found.seen) (signs_between tokens found.end to) ×
    AreSame behind now

-- the word `text` with ts behind it begins no specifier
abbrev pub NoneBehind : Bool → List ℕ → List Sign → Bool → List (List ℕ) → Typed → Type 0
NoneBehind outer text ts free types seen =
    (spec : Specifier) (free' : Bool) (types' : List (List ℕ)) (seen' : Typed) (us : List Sign) →
    SpecifierRead outer text ts free types seen spec free' types' seen' us → ⊥

-- no specifier stands at the front
abbrev pub NoSpecifier : Bool → Bool → List (List ℕ) → Typed → List Sign → Type 0
NoSpecifier outer free types seen signs =
    (spec : Specifier) (free' : Bool) (types' : List (List ℕ)) (seen' : Typed) (us : List Sign) →
    SpecifierStands outer free types seen signs spec free' types' seen' us → ⊥
