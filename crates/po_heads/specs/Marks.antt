-- The tokens that a tree prints, each with what it is in the tree: the head of an expression, the keyword of a statement, the Word of a
-- declarator, the brace that closes a block, or none of these. An expression's head is its operator, the `(` of a call, the `[` of an
-- index, the `.` or `->`, the `?`; of parentheses and of a cast it is the opening parenthesis, of a primary its first token.
use Rattle.std.specs.Prelude.{ℕ, cond, List, [], ◌∷◌, ◌++◌, map, flat_map, codes, Option, Some, None}
use Rattle.po_tree.specs.declared.operator.Infix.TheVariants as i
use Rattle.po_tree.specs.declared.operator.Prefix.TheVariants as p
use Rattle.po_tree.specs.declared.operator.Postfix.TheVariants as q
use Rattle.po_tree.specs.declared.operator.Selector.TheVariants as s
use Rattle.po_tree.specs.declared.expression.Exp.{Exp, fold-Exp}
use Rattle.po_tree.specs.declared.expression.Exp.TheOpen.{Exp-F, Specifier-F, Suffix-F, Declarator-F, Member-F, Param-F, TypeName-F}
use Rattle.po_tree.specs.declared.expression.Specifier.{Specifier, fold-Specifier}
use Rattle.po_tree.specs.declared.expression.Suffix.{Suffix, fold-Suffix}
use Rattle.po_tree.specs.declared.expression.Declarator.{Declarator, fold-Declarator}
use Rattle.po_tree.specs.declared.expression.TypeName.{TypeName, fold-TypeName}
use Rattle.po_tree.specs.declared.declaration.Init.{Init, fold-Init}
use Rattle.po_tree.specs.declared.declaration.Init.TheOpen.{Init-F}
use Rattle.po_tree.specs.declared.declaration.Decl.{Decl}
use Rattle.po_tree.specs.declared.statement.First.{First}
use Rattle.po_tree.specs.declared.statement.First.TheVariants as f
use Rattle.po_tree.specs.declared.statement.Stmt.{Stmt, fold-Stmt}
use Rattle.po_tree.specs.declared.statement.Stmt.TheOpen.{Stmt-F}
use Rattle.po_tree.specs.declared.function.FunTree.{FunTree}
use Rattle.po_tree.specs.Signs.{Sign, word, number, character, string, opening, closing, bracket, bracket_end, brace, brace_end, comma, semicolon, colon, question, star, equals, dots, sizeof}
use Rattle.po_tree.specs.Operators.{infix_sign, prefix_sign, postfix_sign, selector_sign}

-- what a token is in its tree
pub data Mark : Type 0 where
  of_expression : Mark
  of_statement : Mark
  of_declarator : Mark
  of_block : Mark
  unmarked : Mark

-- a token that a tree prints
pub record Printed : Type 0 where
  pub sign : Sign
  pub mark : Mark

abbrev pub head : Sign → Printed
head text = record { sign = text; mark = of_expression }

abbrev pub keyword : List ℕ → Printed
keyword text = record { sign = word text; mark = of_statement }

abbrev pub declared : List ℕ → Printed
declared name = record { sign = word name; mark = of_declarator }

abbrev pub block_end : Printed
block_end = record { sign = brace_end; mark = of_block }

abbrev pub plain : Sign → Printed
plain text = record { sign = text; mark = unmarked }

abbrev pub plain_word : List ℕ → Printed
plain_word text = plain (word text)

-- one after the other
abbrev pub in_a_row : List (List Printed) → List Printed
in_a_row xs = flat_map (λ x. x) xs

-- with a comma before each
abbrev pub after_commas : List (List Printed) → List Printed
after_commas [] = []
after_commas (x ∷ xs) = plain comma ∷ (x ++ after_commas xs)

-- with commas between them
abbrev pub with_commas : List (List Printed) → List Printed
with_commas [] = []
with_commas (x ∷ xs) = x ++ after_commas xs

-- what may be missing
abbrev pub optional : {A : Type 0} → (A → List Printed) → Option A → List Printed
optional f None = []
optional f (Some x) = f x

abbrev pub optional_word : Option (List ℕ) → List Printed
optional_word name = optional (λ text. plain_word text ∷ []) name

-- between a first token and a closing one
abbrev pub enclosed : Printed → List Printed → Sign → List Printed
enclosed first xs last = first ∷ (xs ++ plain last ∷ [])

abbrev pub in_braces : List Printed → List Printed
in_braces xs = enclosed (plain brace) xs brace_end

-- strings side by side, of which the first is the head
abbrev pub marks_strings : List (List ℕ) → List Printed
marks_strings [] = []
marks_strings (text ∷ texts) = head (string text) ∷ map (λ other. plain (string other)) texts

-- One layer of each kind of tree, from the tokens of its parts.

abbrev pub marks_exp : Exp-F (List Printed) (List Printed) (List Printed) (List Printed) (List Printed) (List Printed) (List Printed) → List Printed
marks_exp (Exp-F.Var name) = head (word name) ∷ []
marks_exp (Exp-F.Num text) = head (number text) ∷ []
marks_exp (Exp-F.Chr text) = head (character text) ∷ []
marks_exp (Exp-F.Str texts) = marks_strings texts
marks_exp (Exp-F.Paren x) = enclosed (head opening) x closing
marks_exp (Exp-F.Index x y) = x ++ enclosed (head bracket) y bracket_end
marks_exp (Exp-F.Call x xs) = x ++ enclosed (head opening) (with_commas xs) closing
marks_exp (Exp-F.Dot x name) = x ++ (head (selector_sign s.Dot) ∷ plain_word name ∷ [])
marks_exp (Exp-F.Arrow x name) = x ++ (head (selector_sign s.Arrow) ∷ plain_word name ∷ [])
marks_exp (Exp-F.PostInc x) = x ++ head (postfix_sign q.Increment) ∷ []
marks_exp (Exp-F.PostDec x) = x ++ head (postfix_sign q.Decrement) ∷ []
marks_exp (Exp-F.PreInc x) = head (prefix_sign p.Increment) ∷ x
marks_exp (Exp-F.PreDec x) = head (prefix_sign p.Decrement) ∷ x
marks_exp (Exp-F.Addr x) = head (prefix_sign p.Address) ∷ x
marks_exp (Exp-F.Deref x) = head (prefix_sign p.Indirection) ∷ x
marks_exp (Exp-F.Plus x) = head (prefix_sign p.Plus) ∷ x
marks_exp (Exp-F.Minus x) = head (prefix_sign p.Minus) ∷ x
marks_exp (Exp-F.Compl x) = head (prefix_sign p.Complement) ∷ x
marks_exp (Exp-F.Not x) = head (prefix_sign p.Not) ∷ x
marks_exp (Exp-F.SizeExp x) = head (prefix_sign p.Size) ∷ x
marks_exp (Exp-F.SizeType t) = head sizeof ∷ enclosed (plain opening) t closing
marks_exp (Exp-F.Cast t x) = enclosed (head opening) t closing ++ x
marks_exp (Exp-F.Binary o x y) = x ++ (head (infix_sign (i.Plain o)) ∷ y)
marks_exp (Exp-F.LogAnd x y) = x ++ (head (infix_sign i.And) ∷ y)
marks_exp (Exp-F.LogOr x y) = x ++ (head (infix_sign i.Or) ∷ y)
marks_exp (Exp-F.Cond x y z) = x ++ (head question ∷ (y ++ (plain colon ∷ z)))
marks_exp (Exp-F.Assign o x y) = x ++ (head (infix_sign (i.Set o)) ∷ y)
marks_exp (Exp-F.Comma x y) = x ++ (head (infix_sign i.Comma) ∷ y)

abbrev pub marks_enumerator : (List ℕ × Option (List Printed)) → List Printed
marks_enumerator (name, value) = plain_word name ∷ optional (λ x. plain equals ∷ x) value

abbrev pub marks_specifier : Specifier-F (List Printed) (List Printed) (List Printed) (List Printed) (List Printed) (List Printed) (List Printed) → List Printed
marks_specifier (Specifier-F.Word text) = plain_word text ∷ []
marks_specifier (Specifier-F.Named name) = plain_word name ∷ []
marks_specifier (Specifier-F.Struct tag members) =
    plain_word (codes "struct") ∷ (optional_word tag ++ optional (λ ms. in_braces (in_a_row ms)) members)
marks_specifier (Specifier-F.Enum tag items more) =
    plain_word (codes "enum") ∷ (optional_word tag ++
    optional (λ xs. in_braces (with_commas (map marks_enumerator xs) ++ cond more (plain comma ∷ []) [])) items)

abbrev pub marks_suffix : Suffix-F (List Printed) (List Printed) (List Printed) (List Printed) (List Printed) (List Printed) (List Printed) → List Printed
marks_suffix Suffix-F.Plain = []
marks_suffix (Suffix-F.Arrays sizes) = flat_map (λ size. enclosed (plain bracket) (optional (λ x. x) size) bracket_end) sizes
marks_suffix (Suffix-F.Params params more) =
    enclosed (plain opening) (with_commas params ++ cond more (plain comma ∷ plain dots ∷ []) []) closing

abbrev pub marks_star : List (List ℕ) → List Printed
marks_star words = plain star ∷ map plain_word words

abbrev pub marks_declarator : Declarator-F (List Printed) (List Printed) (List Printed) (List Printed) (List Printed) (List Printed) (List Printed) → List Printed
marks_declarator d = flat_map marks_star d.stars ++ (optional (λ name. declared name ∷ []) d.name ++ d.suffix)

abbrev pub marks_member : Member-F (List Printed) (List Printed) (List Printed) (List Printed) (List Printed) (List Printed) (List Printed) → List Printed
marks_member m = in_a_row m.specs ++ (with_commas m.declarators ++ plain semicolon ∷ [])

abbrev pub marks_param : Param-F (List Printed) (List Printed) (List Printed) (List Printed) (List Printed) (List Printed) (List Printed) → List Printed
marks_param x = in_a_row x.specs ++ x.declarator

abbrev pub marks_type : TypeName-F (List Printed) (List Printed) (List Printed) (List Printed) (List Printed) (List Printed) (List Printed) → List Printed
marks_type t = in_a_row t.specs ++ t.declarator

-- the tokens of an expression
unfoldable pub marked : Exp → List Printed
marked = fold-Exp _ _ _ _ _ _ _ marks_exp marks_specifier marks_suffix marks_declarator marks_member marks_param marks_type

unfoldable pub marked_specifier : Specifier → List Printed
marked_specifier = fold-Specifier _ _ _ _ _ _ _ marks_exp marks_specifier marks_suffix marks_declarator marks_member marks_param marks_type

unfoldable pub marked_suffix : Suffix → List Printed
marked_suffix = fold-Suffix _ _ _ _ _ _ _ marks_exp marks_specifier marks_suffix marks_declarator marks_member marks_param marks_type

unfoldable pub marked_declarator : Declarator → List Printed
marked_declarator = fold-Declarator _ _ _ _ _ _ _ marks_exp marks_specifier marks_suffix marks_declarator marks_member marks_param marks_type

unfoldable pub marked_type : TypeName → List Printed
marked_type = fold-TypeName _ _ _ _ _ _ _ marks_exp marks_specifier marks_suffix marks_declarator marks_member marks_param marks_type

-- initialisers (6.7.8)
abbrev pub marks_init : Init-F (List Printed) → List Printed
marks_init (Init-F.One x) = marked x
marks_init (Init-F.Many xs more) = in_braces (with_commas xs ++ cond more (plain comma ∷ []) [])

unfoldable pub marked_init : Init → List Printed
marked_init = fold-Init _ marks_init

-- a declarator with its initialiser
abbrev pub marked_part : (Declarator × Option Init) → List Printed
marked_part (d, init) = marked_declarator d ++ optional (λ x. plain equals ∷ marked_init x) init

-- declarations, with their semicolon (6.7)
abbrev pub marked_decl : Decl → List Printed
marked_decl d = flat_map marked_specifier d.specs ++ (with_commas (map marked_part d.parts) ++ plain semicolon ∷ [])

-- statements (6.8)
abbrev pub marked_first : First → List Printed
marked_first f.Nothing = plain semicolon ∷ []
marked_first (f.Value x) = marked x ++ plain semicolon ∷ []
marked_first (f.Variables d) = marked_decl d

abbrev pub in_parentheses : List Printed → List Printed
in_parentheses xs = enclosed (plain opening) xs closing

-- between the braces of a block
abbrev pub in_block : List Printed → List Printed
in_block xs = plain brace ∷ (xs ++ block_end ∷ [])

abbrev pub marks_stmt : Stmt-F (List Printed) → List Printed
marks_stmt (Stmt-F.Block xs) = in_block (in_a_row xs)
marks_stmt (Stmt-F.Declare d) = marked_decl d
marks_stmt (Stmt-F.ExpS x) = marked x ++ plain semicolon ∷ []
marks_stmt Stmt-F.Empty = plain semicolon ∷ []
marks_stmt (Stmt-F.If x then_ else_) =
    keyword (codes "if") ∷ (in_parentheses (marked x) ++ (then_ ++ optional (λ y. plain_word (codes "else") ∷ y) else_))
marks_stmt (Stmt-F.While x body) = keyword (codes "while") ∷ (in_parentheses (marked x) ++ body)
marks_stmt (Stmt-F.Do body x) = keyword (codes "do") ∷ (body ++ (plain_word (codes "while") ∷ (in_parentheses (marked x) ++ plain semicolon ∷ [])))
marks_stmt (Stmt-F.For first test step body) =
    keyword (codes "for") ∷ (in_parentheses (marked_first first ++ (optional marked test ++ (plain semicolon ∷ optional marked step))) ++ body)
marks_stmt (Stmt-F.Switch x body) = keyword (codes "switch") ∷ (in_parentheses (marked x) ++ body)
marks_stmt (Stmt-F.Case x body) = keyword (codes "case") ∷ (marked x ++ (plain colon ∷ body))
marks_stmt (Stmt-F.Default body) = keyword (codes "default") ∷ (plain colon ∷ body)
marks_stmt (Stmt-F.Label name body) = plain_word name ∷ (plain colon ∷ body)
marks_stmt (Stmt-F.Goto name) = keyword (codes "goto") ∷ (plain_word name ∷ (plain semicolon ∷ []))
marks_stmt Stmt-F.Break = keyword (codes "break") ∷ (plain semicolon ∷ [])
marks_stmt Stmt-F.Continue = keyword (codes "continue") ∷ (plain semicolon ∷ [])
marks_stmt (Stmt-F.Return x) = keyword (codes "return") ∷ (optional marked x ++ plain semicolon ∷ [])

unfoldable pub marked_stmt : Stmt → List Printed
marked_stmt = fold-Stmt _ marks_stmt

-- definitions (6.9.1)
abbrev pub marked_fun : FunTree → List Printed
marked_fun g = flat_map marked_specifier g.specs ++ (marked_declarator g.declarator ++ in_block (flat_map marked_stmt g.body))
