-- The parentheses that begin at each token, told by the closing brackets that are met on the way back from the end.
use Rattle.std.specs.Prelude.{ℕ, ◌+◌, ◌-◌, cond, ◌==◌, ◌&&◌, List, [], ◌∷◌, length}
use Rattle.po_base.specs.declared.token.Token.{Token}
use Rattle.po_lex.specs.Brackets.{mark, closer, is_closer}
use Rattle.po_lex.specs.Keeping.{parens}
use Rattle.po_lex.specs.declared.closing.Closing.{Closing}

-- for each token, how many tokens the parentheses have that stand first from it on
abbrev pub parens_from_each : List Token → List ℕ
parens_from_each [] = []
parens_from_each (t ∷ ts) = parens (t ∷ ts) ∷ parens_from_each ts

-- What an opening bracket leaves of the closing ones behind it: it takes the nearest, which has to match. Where none
-- matches, no bracket before it is closed behind it.
abbrev pub opened : ℕ → List Closing → List Closing
opened close [] = []
opened close (c ∷ cs) = cond (close == c.byte) cs []

-- the closing brackets that a token with this mark, before n others, leaves to the tokens before it
abbrev pub met : ℕ → ℕ → List Closing → List Closing
met byte n cs =
    cond (is_closer byte) (record { byte = byte; behind = n } ∷ cs)
    (cond (closer byte == 0) cs (opened (closer byte) cs))

-- the closing brackets that tokens leave to those before them, the nearest first
abbrev pub closings : List Token → List Closing
closings [] = []
closings (t ∷ ts) = met (mark t) (length ts) (closings ts)

-- How many tokens the parentheses have that a token with this mark opens, before n others and these closing brackets; 0
-- where it opens none that are closed.
abbrev pub width : ℕ → ℕ → List Closing → ℕ
width byte n [] = 0
width byte n (c ∷ cs) = cond ((byte == 40) && (c.byte == 41)) (n + 1 - c.behind) 0
