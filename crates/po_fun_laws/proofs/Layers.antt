-- What each statement prints with what stands behind it, how high it is, and whether it takes an `else`.
use Rattle.std.proofs.Common.{◌≡◌, ◌∙◌, ℕ, List, [], ◌∷◌, ◌++◌, map, flat_map, true, refl, sym, ap, max, append_assoc, codes}
use Rattle.std.specs.Prelude.{Option, Some, None}
use Rattle.po_tree.specs.declared.expression.Exp.{Exp}
use Rattle.po_tree.specs.declared.declaration.Decl.{Decl}
use Rattle.po_tree.specs.declared.statement.First.{First}
use Rattle.po_tree.specs.declared.statement.Stmt.{Stmt, fold-roll-Stmt}
use Rattle.po_tree.specs.declared.statement.Stmt.TheVariants as st
use Rattle.po_tree.specs.declared.statement.Stmt.TheOpen.{Stmt-F}
use Rattle.po_tree.specs.Signs.{Sign, word, opening, closing, brace, brace_end, semicolon, colon}
use Rattle.po_tree.specs.Printing.{flat, flat_decl, flat_first, flat_stmt, prints_stmt, parenthesised, in_braces, in_a_row, optional}
use Rattle.po_tree.specs.Heights.{height, decl_height, first_height, stmt_height, rises_stmt, greatest, or_none}
use Rattle.po_tree.specs.Statements.{takes_else, ends_so}

in_a_row-map : {A : Type 0} (f : A → List Sign) (xs : List A) → in_a_row (map f xs) ≡ flat_map f xs
in_a_row-map f [] = refl
in_a_row-map f (x ∷ xs) = ap (λ v. f x ++ v) (in_a_row-map f xs)

-- what stands in parentheses, and something behind it
in_front : (xs ys us : List Sign) → (parenthesised xs ++ ys) ++ us ≡ opening ∷ (xs ++ (closing ∷ (ys ++ us)))
in_front xs ys us = ap (λ v. opening ∷ v) (append_assoc (xs ++ closing ∷ []) ys us ∙ append_assoc xs (closing ∷ []) (ys ++ us))

-- what stands behind the first statement of an `if`
abbrev pub else_behind : Option Stmt → List Sign → List Sign
else_behind None us = us
else_behind (Some s) us = word (codes "else") ∷ (flat_stmt s ++ us)

-- what stands behind the statement of a `do`
abbrev pub test_behind : Exp → List Sign → List Sign
test_behind x us = word (codes "while") ∷ (opening ∷ (flat x ++ (closing ∷ (semicolon ∷ us))))

-- what stands behind the first part of a `for`
abbrev pub steps_behind : Option Exp → Option Exp → Stmt → List Sign → List Sign
steps_behind test step s us = optional flat test ++ (semicolon ∷ (optional flat step ++ (closing ∷ (flat_stmt s ++ us))))

-- statements of a block, and its closing brace
abbrev pub items_behind : List Stmt → List Sign → List Sign
items_behind xs us = flat_map flat_stmt xs ++ (brace_end ∷ us)

pub items_next : (s : Stmt) (xs : List Stmt) (us : List Sign) → items_behind (s ∷ xs) us ≡ flat_stmt s ++ items_behind xs us
items_next s xs us = append_assoc (flat_stmt s) (flat_map flat_stmt xs) (brace_end ∷ us)

-- what each prints

flat_stmt-Block : (xs : List Stmt) → flat_stmt (st.Block xs) ≡ in_braces (flat_map flat_stmt xs)
unfolding flat_stmt
flat_stmt-Block xs = ap flat_stmt (sym (st.rolls-Block xs)) ∙ fold-roll-Stmt _ prints_stmt (Stmt-F.Block xs) ∙ ap in_braces (in_a_row-map flat_stmt xs)

flat_stmt-Declare : (d : Decl) → flat_stmt (st.Declare d) ≡ flat_decl d
unfolding flat_stmt
flat_stmt-Declare d = ap flat_stmt (sym (st.rolls-Declare d)) ∙ fold-roll-Stmt _ prints_stmt (Stmt-F.Declare d)

flat_stmt-ExpS : (x : Exp) → flat_stmt (st.ExpS x) ≡ flat x ++ semicolon ∷ []
unfolding flat_stmt
flat_stmt-ExpS x = ap flat_stmt (sym (st.rolls-ExpS x)) ∙ fold-roll-Stmt _ prints_stmt (Stmt-F.ExpS x)

flat_stmt-Empty : flat_stmt st.Empty ≡ semicolon ∷ []
unfolding flat_stmt
flat_stmt-Empty = ap flat_stmt (sym st.rolls-Empty) ∙ fold-roll-Stmt _ prints_stmt Stmt-F.Empty

flat_stmt-If_alone : (x : Exp) (s : Stmt) → flat_stmt (st.If x s None) ≡ word (codes "if") ∷ (parenthesised (flat x) ++ (flat_stmt s ++ []))
unfolding flat_stmt
flat_stmt-If_alone x s = ap flat_stmt (sym (st.rolls-If x s None)) ∙ fold-roll-Stmt _ prints_stmt (Stmt-F.If x s None)

flat_stmt-If_else : (x : Exp) (s t : Stmt) → flat_stmt (st.If x s (Some t)) ≡ word (codes "if") ∷ (parenthesised (flat x) ++ (flat_stmt s ++ (word (codes "else") ∷ flat_stmt t)))
unfolding flat_stmt
flat_stmt-If_else x s t = ap flat_stmt (sym (st.rolls-If x s (Some t))) ∙ fold-roll-Stmt _ prints_stmt (Stmt-F.If x s (Some t))

flat_stmt-While : (x : Exp) (s : Stmt) → flat_stmt (st.While x s) ≡ word (codes "while") ∷ (parenthesised (flat x) ++ flat_stmt s)
unfolding flat_stmt
flat_stmt-While x s = ap flat_stmt (sym (st.rolls-While x s)) ∙ fold-roll-Stmt _ prints_stmt (Stmt-F.While x s)

flat_stmt-Do : (s : Stmt) (x : Exp) → flat_stmt (st.Do s x) ≡ word (codes "do") ∷ (flat_stmt s ++ (word (codes "while") ∷ (parenthesised (flat x) ++ semicolon ∷ [])))
unfolding flat_stmt
flat_stmt-Do s x = ap flat_stmt (sym (st.rolls-Do s x)) ∙ fold-roll-Stmt _ prints_stmt (Stmt-F.Do s x)

flat_stmt-For : (first : First) (test step : Option Exp) (s : Stmt) → flat_stmt (st.For first test step s) ≡ word (codes "for") ∷ (parenthesised (flat_first first ++ (optional flat test ++ (semicolon ∷ optional flat step))) ++ flat_stmt s)
unfolding flat_stmt
flat_stmt-For first test step s = ap flat_stmt (sym (st.rolls-For first test step s)) ∙ fold-roll-Stmt _ prints_stmt (Stmt-F.For first test step s)

flat_stmt-Switch : (x : Exp) (s : Stmt) → flat_stmt (st.Switch x s) ≡ word (codes "switch") ∷ (parenthesised (flat x) ++ flat_stmt s)
unfolding flat_stmt
flat_stmt-Switch x s = ap flat_stmt (sym (st.rolls-Switch x s)) ∙ fold-roll-Stmt _ prints_stmt (Stmt-F.Switch x s)

flat_stmt-Case : (x : Exp) (s : Stmt) → flat_stmt (st.Case x s) ≡ word (codes "case") ∷ (flat x ++ (colon ∷ flat_stmt s))
unfolding flat_stmt
flat_stmt-Case x s = ap flat_stmt (sym (st.rolls-Case x s)) ∙ fold-roll-Stmt _ prints_stmt (Stmt-F.Case x s)

flat_stmt-Default : (s : Stmt) → flat_stmt (st.Default s) ≡ word (codes "default") ∷ (colon ∷ flat_stmt s)
unfolding flat_stmt
flat_stmt-Default s = ap flat_stmt (sym (st.rolls-Default s)) ∙ fold-roll-Stmt _ prints_stmt (Stmt-F.Default s)

flat_stmt-Label : (name : List ℕ) (s : Stmt) → flat_stmt (st.Label name s) ≡ word name ∷ (colon ∷ flat_stmt s)
unfolding flat_stmt
flat_stmt-Label name s = ap flat_stmt (sym (st.rolls-Label name s)) ∙ fold-roll-Stmt _ prints_stmt (Stmt-F.Label name s)

flat_stmt-Goto : (name : List ℕ) → flat_stmt (st.Goto name) ≡ word (codes "goto") ∷ (word name ∷ (semicolon ∷ []))
unfolding flat_stmt
flat_stmt-Goto name = ap flat_stmt (sym (st.rolls-Goto name)) ∙ fold-roll-Stmt _ prints_stmt (Stmt-F.Goto name)

flat_stmt-Break : flat_stmt st.Break ≡ word (codes "break") ∷ (semicolon ∷ [])
unfolding flat_stmt
flat_stmt-Break = ap flat_stmt (sym st.rolls-Break) ∙ fold-roll-Stmt _ prints_stmt Stmt-F.Break

flat_stmt-Continue : flat_stmt st.Continue ≡ word (codes "continue") ∷ (semicolon ∷ [])
unfolding flat_stmt
flat_stmt-Continue = ap flat_stmt (sym st.rolls-Continue) ∙ fold-roll-Stmt _ prints_stmt Stmt-F.Continue

flat_stmt-Return : (x : Option Exp) → flat_stmt (st.Return x) ≡ word (codes "return") ∷ (optional flat x ++ semicolon ∷ [])
unfolding flat_stmt
flat_stmt-Return x = ap flat_stmt (sym (st.rolls-Return x)) ∙ fold-roll-Stmt _ prints_stmt (Stmt-F.Return x)

-- the same with what stands behind it

pub block_before : (xs : List Stmt) (us : List Sign) → flat_stmt (st.Block xs) ++ us ≡ brace ∷ items_behind xs us
block_before xs us = ap (λ v. v ++ us) (flat_stmt-Block xs) ∙ ap (λ v. brace ∷ v) (append_assoc (flat_map flat_stmt xs) (brace_end ∷ []) us)

pub declare_before : (d : Decl) (us : List Sign) → flat_stmt (st.Declare d) ++ us ≡ flat_decl d ++ us
declare_before d us = ap (λ v. v ++ us) (flat_stmt-Declare d)

pub expression_before : (x : Exp) (us : List Sign) → flat_stmt (st.ExpS x) ++ us ≡ flat x ++ (semicolon ∷ us)
expression_before x us = ap (λ v. v ++ us) (flat_stmt-ExpS x) ∙ append_assoc (flat x) (semicolon ∷ []) us

pub empty_before : (us : List Sign) → flat_stmt st.Empty ++ us ≡ semicolon ∷ us
empty_before us = ap (λ v. v ++ us) flat_stmt-Empty

pub if_before : (x : Exp) (s : Stmt) (other : Option Stmt) (us : List Sign) →
    flat_stmt (st.If x s other) ++ us ≡ word (codes "if") ∷ (opening ∷ (flat x ++ (closing ∷ (flat_stmt s ++ else_behind other us))))
if_before x s None us =
    ap (λ v. v ++ us) (flat_stmt-If_alone x s) ∙
    ap (λ v. word (codes "if") ∷ v) (in_front (flat x) (flat_stmt s ++ []) us ∙ ap (λ v. opening ∷ (flat x ++ (closing ∷ v))) (append_assoc (flat_stmt s) [] us))
if_before x s (Some t) us =
    ap (λ v. v ++ us) (flat_stmt-If_else x s t) ∙
    ap (λ v. word (codes "if") ∷ v)
    (in_front (flat x) (flat_stmt s ++ (word (codes "else") ∷ flat_stmt t)) us ∙ ap (λ v. opening ∷ (flat x ++ (closing ∷ v))) (append_assoc (flat_stmt s) (word (codes "else") ∷ flat_stmt t) us))

pub while_before : (x : Exp) (s : Stmt) (us : List Sign) → flat_stmt (st.While x s) ++ us ≡ word (codes "while") ∷ (opening ∷ (flat x ++ (closing ∷ (flat_stmt s ++ us))))
while_before x s us = ap (λ v. v ++ us) (flat_stmt-While x s) ∙ ap (λ v. word (codes "while") ∷ v) (in_front (flat x) (flat_stmt s) us)

pub switch_before : (x : Exp) (s : Stmt) (us : List Sign) → flat_stmt (st.Switch x s) ++ us ≡ word (codes "switch") ∷ (opening ∷ (flat x ++ (closing ∷ (flat_stmt s ++ us))))
switch_before x s us = ap (λ v. v ++ us) (flat_stmt-Switch x s) ∙ ap (λ v. word (codes "switch") ∷ v) (in_front (flat x) (flat_stmt s) us)

pub do_before : (s : Stmt) (x : Exp) (us : List Sign) → flat_stmt (st.Do s x) ++ us ≡ word (codes "do") ∷ (flat_stmt s ++ test_behind x us)
do_before s x us =
    ap (λ v. v ++ us) (flat_stmt-Do s x) ∙
    ap (λ v. word (codes "do") ∷ v)
    (append_assoc (flat_stmt s) (word (codes "while") ∷ (parenthesised (flat x) ++ semicolon ∷ [])) us ∙
    ap (λ v. flat_stmt s ++ (word (codes "while") ∷ v)) (in_front (flat x) (semicolon ∷ []) us))

pub for_before : (first : First) (test step : Option Exp) (s : Stmt) (us : List Sign) →
    flat_stmt (st.For first test step s) ++ us ≡ word (codes "for") ∷ (opening ∷ (flat_first first ++ steps_behind test step s us))
for_before first test step s us =
    let inside : List Sign = optional flat test ++ (semicolon ∷ optional flat step) in
    let behind : List Sign = closing ∷ (flat_stmt s ++ us) in
    ap (λ v. v ++ us) (flat_stmt-For first test step s) ∙
    ap (λ v. word (codes "for") ∷ v)
    (in_front (flat_first first ++ inside) (flat_stmt s) us ∙
    ap (λ v. opening ∷ v)
    (append_assoc (flat_first first) inside behind ∙ ap (λ v. flat_first first ++ v) (append_assoc (optional flat test) (semicolon ∷ optional flat step) behind)))

pub case_before : (x : Exp) (s : Stmt) (us : List Sign) → flat_stmt (st.Case x s) ++ us ≡ word (codes "case") ∷ (flat x ++ (colon ∷ (flat_stmt s ++ us)))
case_before x s us = ap (λ v. v ++ us) (flat_stmt-Case x s) ∙ ap (λ v. word (codes "case") ∷ v) (append_assoc (flat x) (colon ∷ flat_stmt s) us)

pub default_before : (s : Stmt) (us : List Sign) → flat_stmt (st.Default s) ++ us ≡ word (codes "default") ∷ (colon ∷ (flat_stmt s ++ us))
default_before s us = ap (λ v. v ++ us) (flat_stmt-Default s)

pub label_before : (name : List ℕ) (s : Stmt) (us : List Sign) → flat_stmt (st.Label name s) ++ us ≡ word name ∷ (colon ∷ (flat_stmt s ++ us))
label_before name s us = ap (λ v. v ++ us) (flat_stmt-Label name s)

pub goto_before : (name : List ℕ) (us : List Sign) → flat_stmt (st.Goto name) ++ us ≡ word (codes "goto") ∷ (word name ∷ (semicolon ∷ us))
goto_before name us = ap (λ v. v ++ us) (flat_stmt-Goto name)

pub break_before : (us : List Sign) → flat_stmt st.Break ++ us ≡ word (codes "break") ∷ (semicolon ∷ us)
break_before us = ap (λ v. v ++ us) flat_stmt-Break

pub continue_before : (us : List Sign) → flat_stmt st.Continue ++ us ≡ word (codes "continue") ∷ (semicolon ∷ us)
continue_before us = ap (λ v. v ++ us) flat_stmt-Continue

pub return_before : (x : Option Exp) (us : List Sign) → flat_stmt (st.Return x) ++ us ≡ word (codes "return") ∷ (optional flat x ++ (semicolon ∷ us))
return_before x us = ap (λ v. v ++ us) (flat_stmt-Return x) ∙ ap (λ v. word (codes "return") ∷ v) (append_assoc (optional flat x) (semicolon ∷ []) us)

-- how high each is

pub stmt_height-If : (x : Exp) (s : Stmt) (other : Option Stmt) → stmt_height (st.If x s other) ≡ max (height x) (max (stmt_height s) (or_none stmt_height other))
unfolding stmt_height
stmt_height-If x s None = ap stmt_height (sym (st.rolls-If x s None)) ∙ fold-roll-Stmt _ rises_stmt (Stmt-F.If x s None)
stmt_height-If x s (Some t) = ap stmt_height (sym (st.rolls-If x s (Some t))) ∙ fold-roll-Stmt _ rises_stmt (Stmt-F.If x s (Some t))

pub stmt_height-Block : (xs : List Stmt) → stmt_height (st.Block xs) ≡ greatest (map stmt_height xs)
unfolding stmt_height
stmt_height-Block xs = ap stmt_height (sym (st.rolls-Block xs)) ∙ fold-roll-Stmt _ rises_stmt (Stmt-F.Block xs)

pub stmt_height-Declare : (d : Decl) → stmt_height (st.Declare d) ≡ decl_height d
unfolding stmt_height
stmt_height-Declare d = ap stmt_height (sym (st.rolls-Declare d)) ∙ fold-roll-Stmt _ rises_stmt (Stmt-F.Declare d)

pub stmt_height-ExpS : (x : Exp) → stmt_height (st.ExpS x) ≡ height x
unfolding stmt_height
stmt_height-ExpS x = ap stmt_height (sym (st.rolls-ExpS x)) ∙ fold-roll-Stmt _ rises_stmt (Stmt-F.ExpS x)

pub stmt_height-While : (x : Exp) (s : Stmt) → stmt_height (st.While x s) ≡ max (height x) (stmt_height s)
unfolding stmt_height
stmt_height-While x s = ap stmt_height (sym (st.rolls-While x s)) ∙ fold-roll-Stmt _ rises_stmt (Stmt-F.While x s)

pub stmt_height-Do : (s : Stmt) (x : Exp) → stmt_height (st.Do s x) ≡ max (stmt_height s) (height x)
unfolding stmt_height
stmt_height-Do s x = ap stmt_height (sym (st.rolls-Do s x)) ∙ fold-roll-Stmt _ rises_stmt (Stmt-F.Do s x)

pub stmt_height-For : (first : First) (test step : Option Exp) (s : Stmt) → stmt_height (st.For first test step s) ≡ max (first_height first) (max (or_none height test) (max (or_none height step) (stmt_height s)))
unfolding stmt_height
stmt_height-For first test step s = ap stmt_height (sym (st.rolls-For first test step s)) ∙ fold-roll-Stmt _ rises_stmt (Stmt-F.For first test step s)

pub stmt_height-Switch : (x : Exp) (s : Stmt) → stmt_height (st.Switch x s) ≡ max (height x) (stmt_height s)
unfolding stmt_height
stmt_height-Switch x s = ap stmt_height (sym (st.rolls-Switch x s)) ∙ fold-roll-Stmt _ rises_stmt (Stmt-F.Switch x s)

pub stmt_height-Case : (x : Exp) (s : Stmt) → stmt_height (st.Case x s) ≡ max (height x) (stmt_height s)
unfolding stmt_height
stmt_height-Case x s = ap stmt_height (sym (st.rolls-Case x s)) ∙ fold-roll-Stmt _ rises_stmt (Stmt-F.Case x s)

pub stmt_height-Default : (s : Stmt) → stmt_height (st.Default s) ≡ stmt_height s
unfolding stmt_height
stmt_height-Default s = ap stmt_height (sym (st.rolls-Default s)) ∙ fold-roll-Stmt _ rises_stmt (Stmt-F.Default s)

pub stmt_height-Label : (name : List ℕ) (s : Stmt) → stmt_height (st.Label name s) ≡ stmt_height s
unfolding stmt_height
stmt_height-Label name s = ap stmt_height (sym (st.rolls-Label name s)) ∙ fold-roll-Stmt _ rises_stmt (Stmt-F.Label name s)

pub stmt_height-Return : (x : Option Exp) → stmt_height (st.Return x) ≡ or_none height x
unfolding stmt_height
stmt_height-Return x = ap stmt_height (sym (st.rolls-Return x)) ∙ fold-roll-Stmt _ rises_stmt (Stmt-F.Return x)

-- whether it takes an `else`

pub takes_else-If_alone : (x : Exp) (s : Stmt) → takes_else (st.If x s None) ≡ true
unfolding takes_else
takes_else-If_alone x s = ap takes_else (sym (st.rolls-If x s None)) ∙ fold-roll-Stmt _ ends_so (Stmt-F.If x s None)

pub takes_else-If_else : (x : Exp) (s t : Stmt) → takes_else (st.If x s (Some t)) ≡ takes_else t
unfolding takes_else
takes_else-If_else x s t = ap takes_else (sym (st.rolls-If x s (Some t))) ∙ fold-roll-Stmt _ ends_so (Stmt-F.If x s (Some t))

pub takes_else-While : (x : Exp) (s : Stmt) → takes_else (st.While x s) ≡ takes_else s
unfolding takes_else
takes_else-While x s = ap takes_else (sym (st.rolls-While x s)) ∙ fold-roll-Stmt _ ends_so (Stmt-F.While x s)

pub takes_else-For : (first : First) (test step : Option Exp) (s : Stmt) → takes_else (st.For first test step s) ≡ takes_else s
unfolding takes_else
takes_else-For first test step s = ap takes_else (sym (st.rolls-For first test step s)) ∙ fold-roll-Stmt _ ends_so (Stmt-F.For first test step s)

pub takes_else-Switch : (x : Exp) (s : Stmt) → takes_else (st.Switch x s) ≡ takes_else s
unfolding takes_else
takes_else-Switch x s = ap takes_else (sym (st.rolls-Switch x s)) ∙ fold-roll-Stmt _ ends_so (Stmt-F.Switch x s)

pub takes_else-Case : (x : Exp) (s : Stmt) → takes_else (st.Case x s) ≡ takes_else s
unfolding takes_else
takes_else-Case x s = ap takes_else (sym (st.rolls-Case x s)) ∙ fold-roll-Stmt _ ends_so (Stmt-F.Case x s)

pub takes_else-Default : (s : Stmt) → takes_else (st.Default s) ≡ takes_else s
unfolding takes_else
takes_else-Default s = ap takes_else (sym (st.rolls-Default s)) ∙ fold-roll-Stmt _ ends_so (Stmt-F.Default s)

pub takes_else-Label : (name : List ℕ) (s : Stmt) → takes_else (st.Label name s) ≡ takes_else s
unfolding takes_else
takes_else-Label name s = ap takes_else (sym (st.rolls-Label name s)) ∙ fold-roll-Stmt _ ends_so (Stmt-F.Label name s)
