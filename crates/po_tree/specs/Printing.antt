-- The tokens that trees print.
use Rattle.std.specs.Prelude.{ℕ, cond, List, [], ◌∷◌, ◌++◌, map, flat_map, codes, Option, Some, None}
use Rattle.po_tree.specs.declared.operator.Infix.TheVariants as i
use Rattle.po_tree.specs.declared.operator.Prefix.TheVariants as p
use Rattle.po_tree.specs.declared.operator.Postfix.TheVariants as q
use Rattle.po_tree.specs.declared.operator.Selector.TheVariants as s
use Rattle.po_tree.specs.declared.expression.Exp.{Exp, fold-Exp}
use Rattle.po_tree.specs.declared.expression.Exp.TheOpen.{Exp-F, Specifier-F, Suffix-F, Declarator-F, Member-F, Param-F, TypeName-F}
use Rattle.po_tree.specs.declared.expression.Specifier.{Specifier, fold-Specifier}
use Rattle.po_tree.specs.declared.expression.Suffix.{Suffix, fold-Suffix}
use Rattle.po_tree.specs.declared.expression.Declarator.{Declarator, fold-Declarator}
use Rattle.po_tree.specs.declared.expression.TypeName.{TypeName, fold-TypeName}
use Rattle.po_tree.specs.declared.declaration.Init.{Init, fold-Init}
use Rattle.po_tree.specs.declared.declaration.Init.TheOpen.{Init-F}
use Rattle.po_tree.specs.declared.declaration.Decl.{Decl}
use Rattle.po_tree.specs.declared.statement.First.{First}
use Rattle.po_tree.specs.declared.statement.First.TheVariants as f
use Rattle.po_tree.specs.declared.statement.Stmt.{Stmt, fold-Stmt}
use Rattle.po_tree.specs.declared.statement.Stmt.TheOpen.{Stmt-F}
use Rattle.po_tree.specs.declared.function.FunTree.{FunTree}
use Rattle.po_tree.specs.Signs.{Sign, word, number, character, string, opening, closing, bracket, bracket_end, brace, brace_end, comma, semicolon, colon, question, star, equals, dots, sizeof}
use Rattle.po_tree.specs.Operators.{infix_sign, prefix_sign, postfix_sign, selector_sign}

-- one after the other
abbrev pub in_a_row : List (List Sign) → List Sign
in_a_row xs = flat_map (λ x. x) xs

-- with a comma before each
abbrev pub after_commas : List (List Sign) → List Sign
after_commas [] = []
after_commas (x ∷ xs) = comma ∷ (x ++ after_commas xs)

-- with commas between them
abbrev pub with_commas : List (List Sign) → List Sign
with_commas [] = []
with_commas (x ∷ xs) = x ++ after_commas xs

-- what may be missing
abbrev pub optional : {A : Type 0} → (A → List Sign) → Option A → List Sign
optional f None = []
optional f (Some x) = f x

abbrev pub parenthesised : List Sign → List Sign
parenthesised xs = opening ∷ (xs ++ closing ∷ [])

abbrev pub in_brackets : List Sign → List Sign
in_brackets xs = bracket ∷ (xs ++ bracket_end ∷ [])

abbrev pub in_braces : List Sign → List Sign
in_braces xs = brace ∷ (xs ++ brace_end ∷ [])

-- One layer of each kind of tree, from what its parts print.

abbrev pub prints_exp : Exp-F (List Sign) (List Sign) (List Sign) (List Sign) (List Sign) (List Sign) (List Sign) → List Sign
prints_exp (Exp-F.Var name) = word name ∷ []
prints_exp (Exp-F.Num text) = number text ∷ []
prints_exp (Exp-F.Chr text) = character text ∷ []
prints_exp (Exp-F.Str texts) = map string texts
prints_exp (Exp-F.Paren x) = parenthesised x
prints_exp (Exp-F.Index x y) = x ++ in_brackets y
prints_exp (Exp-F.Call x xs) = x ++ parenthesised (with_commas xs)
prints_exp (Exp-F.Dot x name) = x ++ (selector_sign s.Dot ∷ word name ∷ [])
prints_exp (Exp-F.Arrow x name) = x ++ (selector_sign s.Arrow ∷ word name ∷ [])
prints_exp (Exp-F.PostInc x) = x ++ (postfix_sign q.Increment ∷ [])
prints_exp (Exp-F.PostDec x) = x ++ (postfix_sign q.Decrement ∷ [])
prints_exp (Exp-F.PreInc x) = prefix_sign p.Increment ∷ x
prints_exp (Exp-F.PreDec x) = prefix_sign p.Decrement ∷ x
prints_exp (Exp-F.Addr x) = prefix_sign p.Address ∷ x
prints_exp (Exp-F.Deref x) = prefix_sign p.Indirection ∷ x
prints_exp (Exp-F.Plus x) = prefix_sign p.Plus ∷ x
prints_exp (Exp-F.Minus x) = prefix_sign p.Minus ∷ x
prints_exp (Exp-F.Compl x) = prefix_sign p.Complement ∷ x
prints_exp (Exp-F.Not x) = prefix_sign p.Not ∷ x
prints_exp (Exp-F.SizeExp x) = prefix_sign p.Size ∷ x
prints_exp (Exp-F.SizeType t) = sizeof ∷ parenthesised t
prints_exp (Exp-F.Cast t x) = parenthesised t ++ x
prints_exp (Exp-F.Binary o x y) = x ++ (infix_sign (i.Plain o) ∷ y)
prints_exp (Exp-F.LogAnd x y) = x ++ (infix_sign i.And ∷ y)
prints_exp (Exp-F.LogOr x y) = x ++ (infix_sign i.Or ∷ y)
prints_exp (Exp-F.Cond x y z) = x ++ (question ∷ (y ++ (colon ∷ z)))
prints_exp (Exp-F.Assign o x y) = x ++ (infix_sign (i.Set o) ∷ y)
prints_exp (Exp-F.Comma x y) = x ++ (infix_sign i.Comma ∷ y)

-- `A`, `A = x`
abbrev pub prints_enumerator : (List ℕ × Option (List Sign)) → List Sign
prints_enumerator (name, value) = word name ∷ optional (λ x. equals ∷ x) value

abbrev pub prints_specifier : Specifier-F (List Sign) (List Sign) (List Sign) (List Sign) (List Sign) (List Sign) (List Sign) → List Sign
prints_specifier (Specifier-F.Word text) = word text ∷ []
prints_specifier (Specifier-F.Named name) = word name ∷ []
prints_specifier (Specifier-F.Struct tag members) =
    word (codes "struct") ∷ (optional (λ name. word name ∷ []) tag ++ optional (λ ms. in_braces (in_a_row ms)) members)
prints_specifier (Specifier-F.Enum tag items more) =
    word (codes "enum") ∷ (optional (λ name. word name ∷ []) tag ++
    optional (λ xs. in_braces (with_commas (map prints_enumerator xs) ++ cond more (comma ∷ []) [])) items)

abbrev pub prints_suffix : Suffix-F (List Sign) (List Sign) (List Sign) (List Sign) (List Sign) (List Sign) (List Sign) → List Sign
prints_suffix Suffix-F.Plain = []
prints_suffix (Suffix-F.Arrays sizes) = flat_map (λ size. in_brackets (optional (λ x. x) size)) sizes
prints_suffix (Suffix-F.Params params more) = parenthesised (with_commas params ++ cond more (comma ∷ dots ∷ []) [])

abbrev pub prints_star : List (List ℕ) → List Sign
prints_star words = star ∷ map word words

abbrev pub prints_declarator : Declarator-F (List Sign) (List Sign) (List Sign) (List Sign) (List Sign) (List Sign) (List Sign) → List Sign
prints_declarator d = flat_map prints_star d.stars ++ (optional (λ name. word name ∷ []) d.name ++ d.suffix)

abbrev pub prints_member : Member-F (List Sign) (List Sign) (List Sign) (List Sign) (List Sign) (List Sign) (List Sign) → List Sign
prints_member m = in_a_row m.specs ++ (with_commas m.declarators ++ semicolon ∷ [])

abbrev pub prints_param : Param-F (List Sign) (List Sign) (List Sign) (List Sign) (List Sign) (List Sign) (List Sign) → List Sign
prints_param x = in_a_row x.specs ++ x.declarator

abbrev pub prints_type : TypeName-F (List Sign) (List Sign) (List Sign) (List Sign) (List Sign) (List Sign) (List Sign) → List Sign
prints_type t = in_a_row t.specs ++ t.declarator

-- the tokens that an expression prints
unfoldable pub flat : Exp → List Sign
flat = fold-Exp _ _ _ _ _ _ _ prints_exp prints_specifier prints_suffix prints_declarator prints_member prints_param prints_type

unfoldable pub flat_specifier : Specifier → List Sign
flat_specifier = fold-Specifier _ _ _ _ _ _ _ prints_exp prints_specifier prints_suffix prints_declarator prints_member prints_param prints_type

unfoldable pub flat_suffix : Suffix → List Sign
flat_suffix = fold-Suffix _ _ _ _ _ _ _ prints_exp prints_specifier prints_suffix prints_declarator prints_member prints_param prints_type

unfoldable pub flat_declarator : Declarator → List Sign
flat_declarator = fold-Declarator _ _ _ _ _ _ _ prints_exp prints_specifier prints_suffix prints_declarator prints_member prints_param prints_type

unfoldable pub flat_type : TypeName → List Sign
flat_type = fold-TypeName _ _ _ _ _ _ _ prints_exp prints_specifier prints_suffix prints_declarator prints_member prints_param prints_type

-- initialisers (6.7.8)
abbrev pub prints_init : Init-F (List Sign) → List Sign
prints_init (Init-F.One x) = flat x
prints_init (Init-F.Many xs more) = in_braces (with_commas xs ++ cond more (comma ∷ []) [])

unfoldable pub flat_init : Init → List Sign
flat_init = fold-Init _ prints_init

-- a declarator with its initialiser
abbrev pub flat_part : (Declarator × Option Init) → List Sign
flat_part (d, init) = flat_declarator d ++ optional (λ x. equals ∷ flat_init x) init

-- declarations, with their semicolon (6.7)
abbrev pub flat_decl : Decl → List Sign
flat_decl d = flat_map flat_specifier d.specs ++ (with_commas (map flat_part d.parts) ++ semicolon ∷ [])

-- statements (6.8)
abbrev pub flat_first : First → List Sign
flat_first f.Nothing = semicolon ∷ []
flat_first (f.Value x) = flat x ++ semicolon ∷ []
flat_first (f.Variables d) = flat_decl d

abbrev pub keyword : List ℕ → List Sign
keyword text = word text ∷ []

abbrev pub prints_stmt : Stmt-F (List Sign) → List Sign
prints_stmt (Stmt-F.Block xs) = in_braces (in_a_row xs)
prints_stmt (Stmt-F.Declare d) = flat_decl d
prints_stmt (Stmt-F.ExpS x) = flat x ++ semicolon ∷ []
prints_stmt Stmt-F.Empty = semicolon ∷ []
prints_stmt (Stmt-F.If x then_ else_) =
    word (codes "if") ∷ (parenthesised (flat x) ++ (then_ ++ optional (λ y. word (codes "else") ∷ y) else_))
prints_stmt (Stmt-F.While x body) = word (codes "while") ∷ (parenthesised (flat x) ++ body)
prints_stmt (Stmt-F.Do body x) = word (codes "do") ∷ (body ++ (word (codes "while") ∷ (parenthesised (flat x) ++ semicolon ∷ [])))
prints_stmt (Stmt-F.For first test step body) =
    word (codes "for") ∷ (parenthesised (flat_first first ++ (optional flat test ++ (semicolon ∷ optional flat step))) ++ body)
prints_stmt (Stmt-F.Switch x body) = word (codes "switch") ∷ (parenthesised (flat x) ++ body)
prints_stmt (Stmt-F.Case x body) = word (codes "case") ∷ (flat x ++ (colon ∷ body))
prints_stmt (Stmt-F.Default body) = word (codes "default") ∷ (colon ∷ body)
prints_stmt (Stmt-F.Label name body) = word name ∷ (colon ∷ body)
prints_stmt (Stmt-F.Goto name) = word (codes "goto") ∷ (word name ∷ (semicolon ∷ []))
prints_stmt Stmt-F.Break = word (codes "break") ∷ (semicolon ∷ [])
prints_stmt Stmt-F.Continue = word (codes "continue") ∷ (semicolon ∷ [])
prints_stmt (Stmt-F.Return x) = word (codes "return") ∷ (optional flat x ++ semicolon ∷ [])

unfoldable pub flat_stmt : Stmt → List Sign
flat_stmt = fold-Stmt _ prints_stmt

-- definitions (6.9.1)
abbrev pub flat_fun : FunTree → List Sign
flat_fun g = flat_map flat_specifier g.specs ++ (flat_declarator g.declarator ++ in_braces (flat_map flat_stmt g.body))
