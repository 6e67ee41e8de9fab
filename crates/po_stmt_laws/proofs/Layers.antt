-- How many statements a statement has on its path, and which take no `else`.
use Rattle.std.proofs.Common.{◌≡◌, ◌∙◌, ℕ, suc, List, map, max, sym, ap, false}
use Rattle.std.specs.Prelude.{Option, Some, None}
use Rattle.po_tree.specs.declared.expression.Exp.{Exp}
use Rattle.po_tree.specs.declared.declaration.Decl.{Decl}
use Rattle.po_tree.specs.declared.statement.First.{First}
use Rattle.po_tree.specs.declared.statement.Stmt.{Stmt, fold-roll-Stmt}
use Rattle.po_tree.specs.declared.statement.Stmt.TheVariants as st
use Rattle.po_tree.specs.declared.statement.Stmt.TheOpen.{Stmt-F}
use Rattle.po_tree.specs.Heights.{stmt_depth, deepens, greatest, or_none}
use Rattle.po_tree.specs.Statements.{takes_else, ends_so}

pub stmt_depth-Block : (xs : List Stmt) → stmt_depth (st.Block xs) ≡ suc (greatest (map stmt_depth xs))
unfolding stmt_depth
stmt_depth-Block xs = ap stmt_depth (sym (st.rolls-Block xs)) ∙ fold-roll-Stmt _ deepens (Stmt-F.Block xs)

pub stmt_depth-Declare : (d : Decl) → stmt_depth (st.Declare d) ≡ 1
unfolding stmt_depth
stmt_depth-Declare d = ap stmt_depth (sym (st.rolls-Declare d)) ∙ fold-roll-Stmt _ deepens (Stmt-F.Declare d)

pub stmt_depth-ExpS : (x : Exp) → stmt_depth (st.ExpS x) ≡ 1
unfolding stmt_depth
stmt_depth-ExpS x = ap stmt_depth (sym (st.rolls-ExpS x)) ∙ fold-roll-Stmt _ deepens (Stmt-F.ExpS x)

pub stmt_depth-Empty : stmt_depth st.Empty ≡ 1
unfolding stmt_depth
stmt_depth-Empty = ap stmt_depth (sym st.rolls-Empty) ∙ fold-roll-Stmt _ deepens Stmt-F.Empty

pub stmt_depth-If : (x : Exp) (s : Stmt) (other : Option Stmt) → stmt_depth (st.If x s other) ≡ suc (max (stmt_depth s) (or_none stmt_depth other))
unfolding stmt_depth
stmt_depth-If x s None = ap stmt_depth (sym (st.rolls-If x s None)) ∙ fold-roll-Stmt _ deepens (Stmt-F.If x s None)
stmt_depth-If x s (Some t) = ap stmt_depth (sym (st.rolls-If x s (Some t))) ∙ fold-roll-Stmt _ deepens (Stmt-F.If x s (Some t))

pub stmt_depth-While : (x : Exp) (s : Stmt) → stmt_depth (st.While x s) ≡ suc (stmt_depth s)
unfolding stmt_depth
stmt_depth-While x s = ap stmt_depth (sym (st.rolls-While x s)) ∙ fold-roll-Stmt _ deepens (Stmt-F.While x s)

pub stmt_depth-Do : (s : Stmt) (x : Exp) → stmt_depth (st.Do s x) ≡ suc (stmt_depth s)
unfolding stmt_depth
stmt_depth-Do s x = ap stmt_depth (sym (st.rolls-Do s x)) ∙ fold-roll-Stmt _ deepens (Stmt-F.Do s x)

pub stmt_depth-For : (first : First) (test step : Option Exp) (s : Stmt) → stmt_depth (st.For first test step s) ≡ suc (stmt_depth s)
unfolding stmt_depth
stmt_depth-For first test step s = ap stmt_depth (sym (st.rolls-For first test step s)) ∙ fold-roll-Stmt _ deepens (Stmt-F.For first test step s)

pub stmt_depth-Switch : (x : Exp) (s : Stmt) → stmt_depth (st.Switch x s) ≡ suc (stmt_depth s)
unfolding stmt_depth
stmt_depth-Switch x s = ap stmt_depth (sym (st.rolls-Switch x s)) ∙ fold-roll-Stmt _ deepens (Stmt-F.Switch x s)

pub stmt_depth-Case : (x : Exp) (s : Stmt) → stmt_depth (st.Case x s) ≡ suc (stmt_depth s)
unfolding stmt_depth
stmt_depth-Case x s = ap stmt_depth (sym (st.rolls-Case x s)) ∙ fold-roll-Stmt _ deepens (Stmt-F.Case x s)

pub stmt_depth-Default : (s : Stmt) → stmt_depth (st.Default s) ≡ suc (stmt_depth s)
unfolding stmt_depth
stmt_depth-Default s = ap stmt_depth (sym (st.rolls-Default s)) ∙ fold-roll-Stmt _ deepens (Stmt-F.Default s)

pub stmt_depth-Label : (name : List ℕ) (s : Stmt) → stmt_depth (st.Label name s) ≡ suc (stmt_depth s)
unfolding stmt_depth
stmt_depth-Label name s = ap stmt_depth (sym (st.rolls-Label name s)) ∙ fold-roll-Stmt _ deepens (Stmt-F.Label name s)

pub stmt_depth-Goto : (name : List ℕ) → stmt_depth (st.Goto name) ≡ 1
unfolding stmt_depth
stmt_depth-Goto name = ap stmt_depth (sym (st.rolls-Goto name)) ∙ fold-roll-Stmt _ deepens (Stmt-F.Goto name)

pub stmt_depth-Break : stmt_depth st.Break ≡ 1
unfolding stmt_depth
stmt_depth-Break = ap stmt_depth (sym st.rolls-Break) ∙ fold-roll-Stmt _ deepens Stmt-F.Break

pub stmt_depth-Continue : stmt_depth st.Continue ≡ 1
unfolding stmt_depth
stmt_depth-Continue = ap stmt_depth (sym st.rolls-Continue) ∙ fold-roll-Stmt _ deepens Stmt-F.Continue

pub stmt_depth-Return : (x : Option Exp) → stmt_depth (st.Return x) ≡ 1
unfolding stmt_depth
stmt_depth-Return x = ap stmt_depth (sym (st.rolls-Return x)) ∙ fold-roll-Stmt _ deepens (Stmt-F.Return x)

-- those that take no `else`

pub takes_else-Block : (xs : List Stmt) → takes_else (st.Block xs) ≡ false
unfolding takes_else
takes_else-Block xs = ap takes_else (sym (st.rolls-Block xs)) ∙ fold-roll-Stmt _ ends_so (Stmt-F.Block xs)

pub takes_else-ExpS : (x : Exp) → takes_else (st.ExpS x) ≡ false
unfolding takes_else
takes_else-ExpS x = ap takes_else (sym (st.rolls-ExpS x)) ∙ fold-roll-Stmt _ ends_so (Stmt-F.ExpS x)

pub takes_else-Empty : takes_else st.Empty ≡ false
unfolding takes_else
takes_else-Empty = ap takes_else (sym st.rolls-Empty) ∙ fold-roll-Stmt _ ends_so Stmt-F.Empty

pub takes_else-Do : (s : Stmt) (x : Exp) → takes_else (st.Do s x) ≡ false
unfolding takes_else
takes_else-Do s x = ap takes_else (sym (st.rolls-Do s x)) ∙ fold-roll-Stmt _ ends_so (Stmt-F.Do s x)

pub takes_else-Goto : (name : List ℕ) → takes_else (st.Goto name) ≡ false
unfolding takes_else
takes_else-Goto name = ap takes_else (sym (st.rolls-Goto name)) ∙ fold-roll-Stmt _ ends_so (Stmt-F.Goto name)

pub takes_else-Break : takes_else st.Break ≡ false
unfolding takes_else
takes_else-Break = ap takes_else (sym st.rolls-Break) ∙ fold-roll-Stmt _ ends_so Stmt-F.Break

pub takes_else-Continue : takes_else st.Continue ≡ false
unfolding takes_else
takes_else-Continue = ap takes_else (sym st.rolls-Continue) ∙ fold-roll-Stmt _ ends_so Stmt-F.Continue

pub takes_else-Return : (x : Option Exp) → takes_else (st.Return x) ≡ false
unfolding takes_else
takes_else-Return x = ap takes_else (sym (st.rolls-Return x)) ∙ fold-roll-Stmt _ ends_so (Stmt-F.Return x)
