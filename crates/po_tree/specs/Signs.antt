-- What is printed: tokens without their places.
use Rattle.std.specs.Prelude.{ℕ, List, codes}
use Rattle.po_base.specs.declared.token.TokenKind.{TokenKind}
use Rattle.po_base.specs.declared.token.TokenKind.TheVariants as k
use Rattle.po_base.specs.declared.token.Token.{Token}

-- the kind and the bytes of a token (C99 6.4)
pub record Sign : Type 0 where
  pub kind : TokenKind
  pub text : List ℕ

-- a token without its place
abbrev pub sign_of : Token → Sign
sign_of t = record { kind = t.kind; text = t.text }

abbrev pub word : List ℕ → Sign
word text = record { kind = k.Word; text = text }

abbrev pub number : List ℕ → Sign
number text = record { kind = k.Number; text = text }

abbrev pub character : List ℕ → Sign
character text = record { kind = k.Char; text = text }

abbrev pub string : List ℕ → Sign
string text = record { kind = k.Str; text = text }

abbrev pub punct : List ℕ → Sign
punct text = record { kind = k.Punct; text = text }

abbrev pub opening : Sign
opening = punct (codes "(")

abbrev pub closing : Sign
closing = punct (codes ")")

abbrev pub bracket : Sign
bracket = punct (codes "[")

abbrev pub bracket_end : Sign
bracket_end = punct (codes "]")

abbrev pub brace : Sign
brace = punct (codes "{")

abbrev pub brace_end : Sign
brace_end = punct (codes "}")

abbrev pub comma : Sign
comma = punct (codes ",")

abbrev pub semicolon : Sign
semicolon = punct (codes ";")

abbrev pub colon : Sign
colon = punct (codes ":")

abbrev pub question : Sign
question = punct (codes "?")

abbrev pub star : Sign
star = punct (codes "*")

abbrev pub equals : Sign
equals = punct (codes "=")

abbrev pub dots : Sign
dots = punct (codes "...")

abbrev pub sizeof : Sign
sizeof = word (codes "sizeof")
