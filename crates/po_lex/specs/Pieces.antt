-- The division of kept tokens into pieces, and how it fails.
use Rattle.std.specs.Prelude.{ℕ, ◌≡◌, ◌+◌, ◌⊎◌, Bool, true, cond, ◌==◌, List, [], ◌∷◌, ◌++◌, length, Option, Some, None}
use Rattle.po_base.specs.declared.token.Token.{Token}
use Rattle.po_lex.specs.Brackets.{State, outset, step, ends, mark}
use Rattle.po_lex.specs.declared.nesting.Open.{Open}
use Rattle.po_lex.specs.declared.shape.Piece.{Piece}

-- The place behind these tokens; None where a closing bracket among them doesn't match, or where one of them ends a piece.
abbrev pub goes : Option State → List Token → Option State
goes s [] = s
goes None (t ∷ ts) = None
goes (Some s) (t ∷ ts) = goes (cond (ends s t) None (step s t)) ts

-- The tokens are one piece: its last token ends it, and none before does. A piece that ends in `}` has a body.
pub record IsPiece (tokens : List Token) (body : Bool) : Type 0 where
  pub front : List Token
  pub last : Token
  pub before : State
  pub behind : State
  pub whole : tokens ≡ front ++ last ∷ []
  pub goes_to : goes (Some outset) front ≡ Some before
  pub ends_it : ends before last ≡ true
  pub matches : step before last ≡ Some behind
  pub has_body : body ≡ (mark last == 125)

-- From the place `at` on the tokens are these pieces, one after the other, up to the place `end`, and `left` comes after them.
abbrev pub Divided : ℕ → List Piece → List Token → ℕ → List Token → Type 0
Divided at [] tokens end left = (tokens ≡ left) × (at ≡ end)
Divided at (p ∷ ps) tokens end left =
    (xs : List Token) × (rest : List Token) × (tokens ≡ xs ++ rest) × IsPiece xs p.body × (p.from ≡ at) × (p.to ≡ at + length xs) × Divided p.to ps rest end left

-- the pieces of the tokens
abbrev pub ArePieces : List Token → List Piece → Type 0
ArePieces tokens pieces = Divided 0 pieces tokens (length tokens) []

-- the first closing bracket that doesn't match the innermost open one, or finds none open, stands on this line
pub record IsStuck (left : List Token) (line : ℕ) : Type 0 where
  pub front : List Token
  pub closing : Token
  pub rest : List Token
  pub before : State
  pub whole : left ≡ front ++ closing ∷ rest
  pub goes_to : goes (Some outset) front ≡ Some before
  pub stuck : step before closing ≡ None
  pub line_of : line ≡ closing.own_line

-- at the end a bracket is open, of which the innermost stands on this line
pub record IsOpen (left : List Token) (line : ℕ) : Type 0 where
  pub behind : State
  pub innermost : Open
  pub others : List Open
  pub goes_to : goes (Some outset) left ≡ Some behind
  pub open_there : behind.stack ≡ innermost ∷ others
  pub line_of : line ≡ innermost.line

-- at the end no bracket is open, and tokens are left over, of which the first stands on this line
pub record IsLeft (left : List Token) (line : ℕ) : Type 0 where
  pub behind : State
  pub first : Token
  pub others : List Token
  pub whole : left ≡ first ∷ others
  pub goes_to : goes (Some outset) left ≡ Some behind
  pub closed : behind.stack ≡ []
  pub line_of : line ≡ first.own_line

-- the tokens are no pieces, and this line is to be named: what is left behind the last piece is no piece
pub record IsMisshapen (tokens : List Token) (line : ℕ) : Type 0 where
  pub pieces : List Piece
  pub end : ℕ
  pub left : List Token
  pub divided : Divided 0 pieces tokens end left
  pub cause : IsStuck left line ⊎ IsOpen left line ⊎ IsLeft left line
