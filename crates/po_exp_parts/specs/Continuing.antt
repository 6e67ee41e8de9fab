-- What goes on with an operand (C99 6.5.2, 6.5.5 to 6.5.17).
use Rattle.std.specs.Prelude.{ℕ, max, ◌≤◌, List, ◌∷◌, map}
use Rattle.po_tree.specs.declared.expression.Exp.{Exp}
use Rattle.po_tree.specs.declared.expression.Exp.TheVariants as e
use Rattle.po_exp_parts.specs.declared.continuation.Continuation.{Continuation}
use Rattle.po_exp_parts.specs.declared.continuation.Continuation.TheVariants as c
use Rattle.po_exp_parts.specs.declared.found.Tail.{Tail}
use Rattle.po_exp_parts.specs.declared.found.Tail.TheVariants as t
use Rattle.po_tree.specs.Signs.{Sign, question, bracket, opening, string}
use Rattle.po_tree.specs.Operators.{IsWritten, infix_sign, level, least_left, selector_sign, postfix_sign, joined, selected, postfixed}
use Rattle.po_tree.specs.Heights.{height, greatest}

-- the token that goes on
abbrev pub opens : Continuation → Sign
opens (c.Infix o) = infix_sign o
opens c.Question = question
opens c.Bracket = bracket
opens c.Parenthesis = opening
opens (c.Select s) = selector_sign s
opens (c.Step q) = postfix_sign q

-- it exists: an assignment has one of the ten operators, or none
abbrev pub IsUsed : Continuation → Type 0
IsUsed (c.Infix o) = IsWritten o
IsUsed _ = Unit {0}

-- the level of the expression that it makes
abbrev pub level_of : Continuation → ℕ
level_of (c.Infix o) = level o
level_of c.Question = 2
level_of _ = 15

-- the least level of the operand before it
abbrev pub least_before : Continuation → ℕ
least_before (c.Infix o) = least_left o
least_before c.Question = 3
least_before _ = 15

-- an operand with what stands behind it
abbrev pub grow : Exp → Tail → Exp
grow x (t.Joined o y) = joined o x y
grow x (t.Chosen y z) = e.Cond x y z
grow x (t.Indexed y) = e.Index x y
grow x (t.Called xs) = e.Call x xs
grow x (t.Selected s name) = selected s x name
grow x (t.Stepped q) = postfixed q x

abbrev pub tail_height : Tail → ℕ
tail_height (t.Joined o y) = height y
tail_height (t.Chosen y z) = max (height y) (height z)
tail_height (t.Indexed y) = height y
tail_height (t.Called xs) = greatest (map height xs)
tail_height (t.Selected s name) = 0
tail_height (t.Stepped q) = 0

-- the signs begin with one that could lengthen an expression before them: what goes on at this level or a higher one, or a string
pub data GoesOn (l : ℕ) : List Sign → Type 0 where
  by_continuation : (c : Continuation) (ts : List Sign) → IsUsed c → l ≤ level_of c → GoesOn l (opens c ∷ ts)
  by_string : (text : List ℕ) (ts : List Sign) → GoesOn l (string text ∷ ts)
