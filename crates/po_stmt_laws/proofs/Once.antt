-- What is read at the front of the same signs is one statement, one item, and one list of items.
use Rattle.std.proofs.Common.{◌≡◌, ◌∙◌, ℕ, ◌≤◌, List, refl, sym, ap, arith}
use Rattle.po_tree.specs.declared.statement.Stmt.{Stmt}
use Rattle.po_tree.specs.declared.statement.Stmt.TheVariants as st
use Rattle.po_tree.specs.Signs.{Sign}
use Rattle.po_tree.specs.Heights.{stmt_depth}
use Rattle.po_tree.specs.Statements as rule
use Rattle.po_tree.specs.Statements.{IsStatement}
use Rattle.po_decl_laws.proofs.OneDeclaration.{one_declared}
use Rattle.po_fun_laws.proofs.Rules.{statement_no_declaration}
use Rattle.po_fun_laws.proofs.OneStatement.{one_statement, one_items}
use Rattle.po_stmt_laws.specs.Reading.{StatementReads, ItemsRead}
use Rattle.po_stmt_laws.specs.Continuing.{ItemReads, declaration, statement}
use Rattle.po_stmt_laws.proofs.Layers.{stmt_depth-Block, stmt_depth-ExpS, stmt_depth-Empty, stmt_depth-If, stmt_depth-While, stmt_depth-Do, stmt_depth-For, stmt_depth-Switch, stmt_depth-Case, stmt_depth-Default, stmt_depth-Label, stmt_depth-Goto, stmt_depth-Break, stmt_depth-Continue, stmt_depth-Return}
use Rattle.std.specs.Prelude.{Some, None}

-- each statement is one on its path
some_depth : {types : List (List ℕ)} {s : Stmt} → IsStatement types s → 1 ≤ stmt_depth s
some_depth (rule.block types xs w) = omega (arith, stmt_depth-Block xs)
some_depth (rule.expression types m x w) = omega (arith, stmt_depth-ExpS x)
some_depth (rule.empty types) = omega (arith, stmt_depth-Empty)
some_depth (rule.if_alone types m x s w v) = omega (arith, stmt_depth-If x s None)
some_depth (rule.if_else types m x s t w v ends u) = omega (arith, stmt_depth-If x s (Some t))
some_depth (rule.while types m x s w v) = omega (arith, stmt_depth-While x s)
some_depth (rule.do_while types m x s v w) = omega (arith, stmt_depth-Do s x)
some_depth (rule.for_each types inner first test step s u v w z) = omega (arith, stmt_depth-For first test step s)
some_depth (rule.switch types m x s w v) = omega (arith, stmt_depth-Switch x s)
some_depth (rule.case types m x s least w v) = omega (arith, stmt_depth-Case x s)
some_depth (rule.default types s v) = omega (arith, stmt_depth-Default s)
some_depth (rule.label types name s is v) = omega (arith, stmt_depth-Label name s)
some_depth (rule.goto types name is) = omega (arith, stmt_depth-Goto name)
some_depth (rule.break types) = omega (arith, stmt_depth-Break)
some_depth (rule.continue types) = omega (arith, stmt_depth-Continue)
some_depth (rule.return types x w) = omega (arith, stmt_depth-Return x)

module _ {types : List (List ℕ)} where
  pub no_room : {signs left : List Sign} {s : Stmt} → StatementReads types 0 signs s left → ⊥
  no_room w = omega (arith, w.deep, some_depth w.stands.formed)

  pub one_statement_read : {room more : ℕ} {signs left rest : List Sign} {s t : Stmt} → StatementReads types room signs s left → StatementReads types more signs t rest → (s ≡ t) × (left ≡ rest)
  one_statement_read {left = left} {rest = rest} w v =
      one_statement w.stands.formed v.stands.formed w.stands.nested v.stands.nested left rest (sym w.stands.printed ∙ v.stands.printed) w.ends v.ends

  pub one_list_read : {room more : ℕ} {signs left rest : List Sign} {xs ys : List Stmt} → ItemsRead types room signs xs left → ItemsRead types more signs ys rest → (xs ≡ ys) × (left ≡ rest)
  one_list_read {left = left} {rest = rest} w v = one_items w.items.formed v.items.formed w.items.nested v.items.nested left rest (sym w.items.printed ∙ v.items.printed)

  pub one_item_read : {room more : ℕ} {signs left rest : List Sign} {behind after : List (List ℕ)} {s t : Stmt} → ItemReads types room signs s behind left → ItemReads types more signs t after rest →
      (s ≡ t) × (behind ≡ after) × (left ≡ rest)
  one_item_read (declaration d behind left some w low q) (declaration d' after rest some' v high r) =
      let c = one_declared w v low high left rest (sym q ∙ r) in
      (ap st.Declare c.trees_same, c.types_same, c.left_same)
  one_item_read (declaration d behind left some w low q) (statement s rest v) = absurd (statement_no_declaration rest left v.stands.formed w (sym v.stands.printed ∙ q))
  one_item_read (statement s left w) (declaration d after rest some v high r) = absurd (statement_no_declaration left rest w.stands.formed v (sym w.stands.printed ∙ r))
  one_item_read (statement s left w) (statement t rest v) = let c = one_statement_read w v in (c.0, refl, c.1)
