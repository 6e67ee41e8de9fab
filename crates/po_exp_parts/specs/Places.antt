-- What stands at a place of tokens.
use Rattle.std.specs.Prelude.{ℕ, ◌≡◌, ◌≢◌, List, [], ◌∷◌, Contains, map, take, drop}
use Rattle.po_base.specs.declared.token.Token.{Token}
use Rattle.po_base.specs.declared.token.TokenKind.TheVariants as k
use Rattle.po_tree.specs.declared.operator.Prefix.{Prefix}
use Rattle.po_tree.specs.Signs.{Sign, sign_of, word, string, opening, comma, semicolon, bracket_end, brace_end, colon, closing}
use Rattle.po_tree.specs.Words.{IsName, qualifiers}
use Rattle.po_tree.specs.Literals.{IsString}
use Rattle.po_tree.specs.Operators.{prefix_sign}

-- the kinds and bytes of the tokens from a place on
abbrev pub signs_from : List Token → ℕ → List Sign
signs_from tokens at = map sign_of (drop at tokens)

-- the kinds and bytes of the tokens from one place to another
abbrev pub signs_between : List Token → ℕ → ℕ → List Sign
signs_between tokens from to = map sign_of (drop from (take to tokens))

-- the signs begin with this one
abbrev pub Begins : Sign → List Sign → Type 0
Begins sign [] = ⊥
Begins sign (t ∷ ts) = t ≡ sign

-- with a word (C99 6.4.1, 6.4.2)
abbrev pub BeginsWord : List Sign → Type 0
BeginsWord [] = ⊥
BeginsWord (t ∷ ts) = t.kind ≡ k.Word

-- with this name (C99 6.4.2)
abbrev pub BeginsName : List ℕ → List Sign → Type 0
BeginsName name signs = IsName name × Begins (word name) signs

-- with a qualifier (C99 6.7.3)
abbrev pub BeginsQualifier : List Sign → Type 0
BeginsQualifier [] = ⊥
BeginsQualifier (t ∷ ts) = (t.kind ≡ k.Word) × Contains qualifiers t.text

-- with a string literal, well formed or not (C99 6.4.5)
abbrev pub BeginsString : List Sign → Type 0
BeginsString [] = ⊥
BeginsString (t ∷ ts) = t.kind ≡ k.Str

-- with this string literal, which is well formed
abbrev pub BeginsLiteral : List ℕ → List Sign → Type 0
BeginsLiteral text signs = IsString text × Begins (string text) signs

-- with a sign that is no string, no parenthesis and no operator before an operand
abbrev pub BeginsOtherwise : List Sign → Type 0
BeginsOtherwise [] = ⊥
BeginsOtherwise (t ∷ ts) = (t.kind ≢ k.Str) × (t ≢ opening) × ((p : Prefix) → t ≢ prefix_sign p)

-- what stands behind an argument, an initialiser, a size, an enumerator's value and the like
pub data IsEnd : Sign → Type 0 where
  at_comma : IsEnd comma
  at_semicolon : IsEnd semicolon
  at_bracket : IsEnd bracket_end
  at_brace : IsEnd brace_end
  at_colon : IsEnd colon
  at_parenthesis : IsEnd closing

-- with such an end
abbrev pub BeginsEnd : List Sign → Type 0
BeginsEnd [] = ⊥
BeginsEnd (sign ∷ signs) = IsEnd sign
