-- Balanced brackets as a grammar, and the walk over brackets that goes past the ends of pieces.
use Rattle.std.specs.Prelude.{◌≡◌, ◌==◌, ◌||◌, Bool, true, false, not, List, [], ◌∷◌, ◌++◌, Option, Some, None}
use Rattle.po_base.specs.declared.token.Token.{Token}
use Rattle.po_lex.specs.Brackets.{State, step, mark, closer, is_closer}

-- an opening or a closing bracket
abbrev pub is_bracket : Token → Bool
is_bracket t = is_closer (mark t) || not (closer (mark t) == 0)

-- the second bracket closes the first
abbrev pub Matches : Token → Token → Type 0
Matches open' close = (closer (mark open') ≡ mark close) × (is_closer (mark close) ≡ true)

-- Balanced ::= nothing | Balanced token | Balanced ( Balanced ), where the token is no bracket, and `(` and `)` are two
-- brackets of which the second closes the first.
pub data Balanced : List Token → Type 0 where
  no_token : Balanced []
  and_token : (ts : List Token) (t : Token) → is_bracket t ≡ false → Balanced ts → Balanced (ts ++ t ∷ [])
  and_group : (ts inner : List Token) (open' close : Token) → Matches open' close → Balanced ts → Balanced inner →
      Balanced (ts ++ open' ∷ (inner ++ close ∷ []))

-- the place behind these tokens; None where a closing bracket among them doesn't match
abbrev pub steps : Option State → List Token → Option State
steps s [] = s
steps None (t ∷ ts) = None
steps (Some s) (t ∷ ts) = steps (step s t) ts
