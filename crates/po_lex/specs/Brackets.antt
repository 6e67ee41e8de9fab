-- Brackets: which are open after some tokens, and where a piece ends.
use Rattle.std.specs.Prelude.{ℕ, Bool, true, false, cond, ◌==◌, ◌&&◌, ◌||◌, List, [], ◌∷◌, reverse, Option, Some, None}
use Rattle.po_base.specs.declared.token.TokenKind.{TokenKind}
use Rattle.po_base.specs.declared.token.TokenKind.TheVariants as k
use Rattle.po_base.specs.declared.token.Token.{Token}
use Rattle.po_lex.specs.declared.nesting.Open.{Open}
use Rattle.po_lex.specs.declared.nesting.Nesting.{Nesting}

abbrev pub is_punct : TokenKind → Bool
is_punct k.Punct = true
is_punct _ = false

abbrev pub is_word : TokenKind → Bool
is_word k.Word = true
is_word _ = false

-- the one byte of a text, 0 where it has none or several
abbrev pub lone : List ℕ → ℕ
lone [] = 0
lone (c ∷ []) = c
lone (c ∷ d ∷ cs) = 0

-- the byte of a punctuator that has one, else 0
abbrev pub mark : Token → ℕ
mark t = cond (is_punct t.kind) (lone t.text) 0

-- the byte of the bracket that closes an opening one, 0 for any other byte
abbrev pub closer : ℕ → ℕ
closer c = cond (c == 40) 41 (cond (c == 91) 93 (cond (c == 123) 125 0))

abbrev pub is_closer : ℕ → Bool
is_closer c = (c == 41) || (c == 93) || (c == 125)

-- A place among tokens: the brackets that are open there, the innermost first, and whether a `{` there would begin a body,
-- since it stands first in its piece or follows a `)`.
pub record State : Type 0 where
  pub stack : List Open
  pub begins : Bool

-- the place before the first token of a piece
abbrev pub outset : State
outset = record { stack = []; begins = true }

-- the brackets that stay open behind this closing one, which has to match the innermost
abbrev pub pop : ℕ → List Open → Option (List Open)
pop c [] = None
pop c (x ∷ xs) = cond (x.close == c) (Some xs) None

-- the brackets that are open behind a token with this mark
abbrev pub brackets : ℕ → Token → State → Option (List Open)
brackets c t s =
    cond (is_closer c) (pop c s.stack)
    (cond (closer c == 0) (Some s.stack)
    (Some (record { close = closer c; line = t.own_line; body = (c == 123) && s.begins } ∷ s.stack)))

-- The place behind a token; None where a bracket closes that doesn't match the innermost open one, or where none is open.
abbrev pub behind_mark : ℕ → Option (List Open) → Option State
behind_mark c None = None
behind_mark c (Some stack) = Some (record { stack = stack; begins = c == 41 })

abbrev pub step : State → Token → Option State
step s t = behind_mark (mark t) (brackets (mark t) t s)

-- A piece ends with this mark: a `;` outside brackets, or the `}` of a body outside others.
abbrev pub ends_in : List Open → ℕ → Bool
ends_in [] c = c == 59
ends_in (x ∷ []) c = x.body && (c == 125)
ends_in (x ∷ y ∷ xs) c = false

abbrev pub ends : State → Token → Bool
ends s t = ends_in s.stack (mark t)

-- what a walk over tokens has come to
abbrev pub state_of : Nesting → State
state_of w = record { stack = reverse w.open; begins = w.begins }
