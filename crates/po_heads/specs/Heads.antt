-- Which token each form of expression has as its head, and where the heads of a definition stand.
use Rattle.std.specs.Prelude.{ℕ, suc, ◌<◌, ◌≡◌, Bool, true, false, cond, List, [], ◌∷◌, ◌++◌, map, flat_map, codes, All, Option, Some, None, slice_get}
use Rattle.std.specs.List.{filter}
use Rattle.po_tree.specs.declared.operator.Infix.TheVariants as i
use Rattle.po_tree.specs.declared.operator.Prefix.TheVariants as p
use Rattle.po_tree.specs.declared.operator.Postfix.TheVariants as q
use Rattle.po_tree.specs.declared.operator.Selector.TheVariants as s
use Rattle.po_tree.specs.declared.expression.Exp.{Exp, out-Exp}
use Rattle.po_tree.specs.declared.expression.Exp.TheOpen.{Exp-F}
use Rattle.po_tree.specs.declared.expression.Specifier.{Specifier}
use Rattle.po_tree.specs.declared.expression.Suffix.{Suffix}
use Rattle.po_tree.specs.declared.expression.Declarator.{Declarator}
use Rattle.po_tree.specs.declared.expression.Member.{Member}
use Rattle.po_tree.specs.declared.expression.Param.{Param}
use Rattle.po_tree.specs.declared.expression.TypeName.{TypeName}
use Rattle.po_tree.specs.declared.statement.Stmt.{Stmt, fold-Stmt}
use Rattle.po_tree.specs.declared.statement.Stmt.TheOpen.{Stmt-F}
use Rattle.po_tree.specs.declared.function.FunTree.{FunTree}
use Rattle.po_tree.specs.Signs.{Sign, word, number, character, string, opening, bracket, question, sizeof, brace_end}
use Rattle.po_tree.specs.Operators.{infix_sign, prefix_sign, postfix_sign, selector_sign}
use Rattle.po_heads.specs.Marks.{Mark, of_expression, of_statement, of_block, Printed, marked_fun}

-- one layer of an expression
abbrev pub Layer : Type 0
Layer = Exp-F Exp Specifier Suffix Declarator Member Param TypeName

-- the head of each form
abbrev pub sign_in : Layer → Sign
sign_in (Exp-F.Var name) = word name
sign_in (Exp-F.Num text) = number text
sign_in (Exp-F.Chr text) = character text
sign_in (Exp-F.Str []) = string []
sign_in (Exp-F.Str (text ∷ texts)) = string text
sign_in (Exp-F.Paren x) = opening
sign_in (Exp-F.Index x y) = bracket
sign_in (Exp-F.Call x xs) = opening
sign_in (Exp-F.Dot x name) = selector_sign s.Dot
sign_in (Exp-F.Arrow x name) = selector_sign s.Arrow
sign_in (Exp-F.PostInc x) = postfix_sign q.Increment
sign_in (Exp-F.PostDec x) = postfix_sign q.Decrement
sign_in (Exp-F.PreInc x) = prefix_sign p.Increment
sign_in (Exp-F.PreDec x) = prefix_sign p.Decrement
sign_in (Exp-F.Addr x) = prefix_sign p.Address
sign_in (Exp-F.Deref x) = prefix_sign p.Indirection
sign_in (Exp-F.Plus x) = prefix_sign p.Plus
sign_in (Exp-F.Minus x) = prefix_sign p.Minus
sign_in (Exp-F.Compl x) = prefix_sign p.Complement
sign_in (Exp-F.Not x) = prefix_sign p.Not
sign_in (Exp-F.SizeExp x) = sizeof
sign_in (Exp-F.SizeType t) = sizeof
sign_in (Exp-F.Cast t x) = opening
sign_in (Exp-F.Binary o x y) = infix_sign (i.Plain o)
sign_in (Exp-F.LogAnd x y) = infix_sign i.And
sign_in (Exp-F.LogOr x y) = infix_sign i.Or
sign_in (Exp-F.Cond x y z) = question
sign_in (Exp-F.Assign o x y) = infix_sign (i.Set o)
sign_in (Exp-F.Comma x y) = infix_sign i.Comma

unfoldable pub head_sign : Exp → Sign
head_sign x = sign_in (out-Exp x)

-- each form prints its head, but for strings side by side where there is none
abbrev pub prints_in : Layer → Bool
prints_in (Exp-F.Str []) = false
prints_in _ = true

unfoldable pub prints_head : Exp → Bool
prints_head x = prints_in (out-Exp x)

-- the heads of expressions, as they are to stand
abbrev pub head_signs : List Exp → List Sign
head_signs xs = map head_sign (filter prints_head xs)

abbrev pub signs : List Printed → List Sign
signs ts = map (λ (t : Printed). t.sign) ts

abbrev pub is_expression : Mark → Bool
is_expression of_expression = true
is_expression _ = false

abbrev pub is_head : Printed → Bool
is_head t = is_expression t.mark

-- the heads among the tokens of a tree, as they stand
abbrev pub heads : List Printed → List Sign
heads ts = signs (filter is_head ts)

-- the keywords of statements and the braces that close blocks
abbrev pub is_end : Mark → Bool
is_end of_statement = true
is_end of_block = true
is_end _ = false

abbrev pub is_stop : Printed → Bool
is_stop t = is_end t.mark

abbrev pub stops : List Printed → List Sign
stops ts = signs (filter is_stop ts)

abbrev pub or_nothing : Option (List Sign) → List Sign
or_nothing None = []
or_nothing (Some x) = x

abbrev pub stops_stmt : Stmt-F (List Sign) → List Sign
stops_stmt (Stmt-F.Block xs) = flat_map (λ x. x) xs ++ brace_end ∷ []
stops_stmt (Stmt-F.If x then_ else_) = word (codes "if") ∷ (then_ ++ or_nothing else_)
stops_stmt (Stmt-F.While x body) = word (codes "while") ∷ body
stops_stmt (Stmt-F.Do body x) = word (codes "do") ∷ body
stops_stmt (Stmt-F.For first test step body) = word (codes "for") ∷ body
stops_stmt (Stmt-F.Switch x body) = word (codes "switch") ∷ body
stops_stmt (Stmt-F.Case x body) = word (codes "case") ∷ body
stops_stmt (Stmt-F.Default body) = word (codes "default") ∷ body
stops_stmt (Stmt-F.Label name body) = body
stops_stmt (Stmt-F.Goto name) = word (codes "goto") ∷ []
stops_stmt Stmt-F.Break = word (codes "break") ∷ []
stops_stmt Stmt-F.Continue = word (codes "continue") ∷ []
stops_stmt (Stmt-F.Return x) = word (codes "return") ∷ []
stops_stmt _ = []

-- the keyword of each statement, with the end of each block, as they are to stand
unfoldable pub stmt_stops : Stmt → List Sign
stmt_stops = fold-Stmt _ stops_stmt

abbrev pub fun_stops : FunTree → List Sign
fun_stops g = flat_map stmt_stops g.body ++ brace_end ∷ []

-- the places of some tokens, where the first has the number n
abbrev pub places_from : (Printed → Bool) → ℕ → List Printed → List ℕ
places_from test n [] = []
places_from test n (t ∷ ts) = cond (test t) (n ∷ places_from test (suc n) ts) (places_from test (suc n) ts)

-- the places of the heads in a definition, in the order in which its expressions are counted
abbrev pub head_places : FunTree → List ℕ
head_places g = places_from is_head 0 (marked_fun g)

-- the places of the keywords of its statements and of the braces that close its blocks
abbrev pub stop_places : FunTree → List ℕ
stop_places g = places_from is_stop 0 (marked_fun g)

-- each is greater than those before it
abbrev pub Ascends : List ℕ → Type 0
Ascends ns = (k m n : ℕ) → slice_get ns k ≡ Some m → slice_get ns (suc k) ≡ Some n → m < n

-- each expression has a head: none is a row of no strings
abbrev pub HasHeads : List Exp → Type 0
HasHeads xs = All (λ x. prints_head x ≡ true) xs
