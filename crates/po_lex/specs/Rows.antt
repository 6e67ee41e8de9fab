-- Bytes in a row: which byte goes on after which, and the longest row at the front of some bytes.
use Rattle.std.specs.Prelude.{ℕ, Bool, false, cond, not, ◌==◌, ◌&&◌, ◌||◌, List, [], ◌∷◌}
use Rattle.po_lex.specs.Bytes.{is_space, is_digit, is_letter, begins_word, is_exponent, are}
use Rattle.po_lex.specs.declared.row.Row.{Row}
use Rattle.po_lex.specs.declared.row.Row.TheVariants as r

-- The row goes on with the byte c after the byte `before`; 0 stands for no byte before.
abbrev pub goes_on : Row → ℕ → ℕ → Bool
goes_on r.Nothing before c = false
goes_on r.Word before c = begins_word c || is_digit c
-- a digit, a letter, `.`, or a sign after e, E, p or P (6.4.8)
goes_on r.Number before c = is_letter c || is_digit c || (c == 46) || (((c == 43) || (c == 45)) && is_exponent before)
goes_on r.Line before c = not (c == 10)
-- up to the first `*/` (6.4.9)
goes_on r.Comment before c = not (are before c 42 47)
-- no newline, and the quote only where a backslash takes it with it
goes_on (r.Literal quote) before c = not (c == 10) && ((before == 92) || not (c == quote))
goes_on r.Spaces before c = is_space c
goes_on r.Digits before c = is_digit c
goes_on r.Flags before c = is_space c || is_digit c

-- What the byte after c looks back on: c, but in a literal nothing where a backslash has taken c with it.
abbrev pub behind : Row → ℕ → ℕ → ℕ
behind (r.Literal quote) before c = cond (before == 92) 0 c
behind _ before c = c

-- the longest row at the front of the bytes
abbrev pub front : Row → ℕ → List ℕ → List ℕ
front row before [] = []
front row before (c ∷ cs) = cond (goes_on row before c) (c ∷ front row (behind row before c) cs) []

-- what comes after it
abbrev pub skip : Row → ℕ → List ℕ → List ℕ
skip row before [] = []
skip row before (c ∷ cs) = cond (goes_on row before c) (skip row (behind row before c) cs) (c ∷ cs)
