-- Of two statements at the front of the same signs, behind each of which stands what may, one is the other; and so of two lists of items
-- before a closing brace.
use Rattle.std.proofs.Common.{◌≡◌, ◌∙◌, ℕ, ◌≤◌, List, [], ◌∷◌, ◌++◌, map, refl, sym, ap, subst, arith, true≢false}
use Rattle.std.specs.Prelude.{Some, None}
use Rattle.po_tree.specs.declared.expression.Exp.{Exp}
use Rattle.po_tree.specs.declared.declaration.Decl.{Decl}
use Rattle.po_tree.specs.declared.statement.Stmt.{Stmt}
use Rattle.po_tree.specs.declared.statement.Stmt.TheVariants as st
use Rattle.po_tree.specs.Signs.{Sign}
use Rattle.po_tree.specs.Printing.{flat_stmt}
use Rattle.po_tree.specs.Heights.{stmt_height, greatest}
use Rattle.po_tree.specs.Declarations.{Declared}
use Rattle.po_tree.specs.Statements as s
use Rattle.po_tree.specs.Statements.{takes_else, IsStatement, AreItems}
use Rattle.po_exp_parts.proofs.SameSigns.{same_word}
use Rattle.po_decl_laws.proofs.Behind.{tails, first_byte}
use Rattle.po_decl_laws.proofs.OneDeclaration.{one_declared}
use Rattle.po_fun_laws.specs.Endings.{EndsStatement}
use Rattle.po_fun_laws.proofs.Layers.{else_behind, test_behind, items_behind, items_next, block_before, declare_before, expression_before, empty_before, do_before, goto_before, break_before, continue_before, return_before, stmt_height-If, stmt_height-Block, stmt_height-Declare, stmt_height-While, stmt_height-Do, stmt_height-For, stmt_height-Switch, stmt_height-Case, stmt_height-Default, stmt_height-Label, takes_else-If_alone, takes_else-If_else, takes_else-While, takes_else-For, takes_else-Switch, takes_else-Case, takes_else-Default, takes_else-Label}
use Rattle.po_fun_laws.proofs.Rules.{consists_again, item_no_end, declaration_no_end, statement_no_declaration, items_no_else}
use Rattle.po_fun_laws.proofs.OneExpression.{before_semicolon, before_closing, one_expression, one_optional}
use Rattle.po_fun_laws.proofs.Again.{while_again, switch_again, case_again, default_again, label_again, for_again, if_again, no_branch, branch_again}

-- the test of a `do` begins with no `else`
no_else_test : (y : Stmt) (x : Exp) (us : List Sign) → EndsStatement y (test_behind x us)
no_else_test y x us h b = omega (arith, ap (λ v. first_byte (v ∷ [])) b)

-- no item begins where the block ends
block_over : {types : List (List ℕ)} {y : Stmt} (us vs : List Sign) → IsStatement types y → items_behind [] us ≡ flat_stmt y ++ vs → ⊥
block_over us vs w q = item_no_end vs w q refl

declared_over : {types behind : List (List ℕ)} {d : Decl} (us vs : List Sign) → Declared types d behind → items_behind [] us ≡ flat_stmt (st.Declare d) ++ vs → ⊥
declared_over {d = d} us vs w q = declaration_no_end vs w (q ∙ declare_before d vs) refl

-- the items behind one begin with no `else`
next_ends : {types : List (List ℕ)} {xs : List Stmt} (y : Stmt) (us : List Sign) → AreItems types xs → EndsStatement y (items_behind xs us)
next_ends y us w h = items_no_else us w

mutual
  pub one_statement : {types : List (List ℕ)} {x t : Stmt} → IsStatement types x → IsStatement types t → stmt_height x ≤ 256 → stmt_height t ≤ 256 → (us vs : List Sign) →
      flat_stmt x ++ us ≡ flat_stmt t ++ vs → EndsStatement x us → EndsStatement t vs → (x ≡ t) × (us ≡ vs)
  one_statement (s.block types xs w) v low high us vs q e f =
      let p = consists_again us vs (s.block types xs w) v q in
      let r = one_items w p.2 (omega (arith, low, stmt_height-Block xs)) (omega (arith, high, ap stmt_height p.1, stmt_height-Block p.0)) us vs
      (tails (sym (block_before xs us) ∙ q ∙ ap (λ z. flat_stmt z ++ vs) p.1 ∙ block_before p.0 vs)) in
      (ap st.Block r.0 ∙ sym p.1, r.1)
  one_statement (s.expression types m x w) v low high us vs q e f =
      let p = consists_again us vs (s.expression types m x w) v q in
      let c = one_expression before_semicolon before_semicolon w p.3 (sym (expression_before x us) ∙ q ∙ ap (λ z. flat_stmt z ++ vs) p.2 ∙ expression_before p.1 vs) in
      (ap st.ExpS c.0 ∙ sym p.2, tails c.1)
  one_statement (s.empty types) v low high us vs q e f =
      let p = consists_again us vs (s.empty types) v q in
      (sym p, tails (sym (empty_before us) ∙ q ∙ ap (λ z. flat_stmt z ++ vs) p ∙ empty_before vs))
  one_statement (s.if_alone types m x y w u) v low high us vs q e f =
      let c = if_again y None us vs w (consists_again us vs (s.if_alone types m x y w u) v q) q high f in
      let r = one_statement u c.inner (omega (arith, low, stmt_height-If x y None)) c.nested us (else_behind c.other vs) c.printed (λ h. e (takes_else-If_alone x y)) c.ends in
      let n = no_branch us vs c.branch (e (takes_else-If_alone x y)) r.1 in
      (ap (λ z. st.If x z None) r.0 ∙ ap (st.If x c.body) n.0 ∙ sym c.parts, n.1)
  one_statement (s.if_else types m x y z w u ends g) v low high us vs q e f =
      let c = if_again y (Some z) us vs w (consists_again us vs (s.if_else types m x y z w u ends g) v q) q high f in
      let r = one_statement u c.inner (omega (arith, low, stmt_height-If x y (Some z))) c.nested (else_behind (Some z) us) (else_behind c.other vs) c.printed (λ h. absurd (true≢false (sym h ∙ ends))) c.ends in
      let b = branch_again (flat_stmt z ++ us) vs c.branch c.other_ends c.other_nested r.1 in
      let o = one_statement g b.inner (omega (arith, low, stmt_height-If x y (Some z))) b.nested us vs b.printed (λ h. e (takes_else-If_else x y z ∙ h)) b.ends in
      (ap (λ a. st.If x a (Some z)) r.0 ∙ ap (λ a. st.If x c.body (Some a)) o.0 ∙ sym b.parts ∙ sym c.parts, o.1)
  one_statement (s.while types m x y w u) v low high us vs q e f =
      let c = while_again y us vs w (consists_again us vs (s.while types m x y w u) v q) q high f in
      let r = one_statement u c.inner (omega (arith, low, stmt_height-While x y)) c.nested us vs c.printed (λ h. e (takes_else-While x y ∙ h)) c.ends in
      (ap (st.While x) r.0 ∙ sym c.parts, r.1)
  one_statement (s.do_while types m x y u w) v low high us vs q e f =
      let p = consists_again us vs (s.do_while types m x y u w) v q in
      let r = one_statement u p.inner (omega (arith, low, stmt_height-Do y x)) (omega (arith, high, ap stmt_height p.parts, stmt_height-Do p.body p.value)) (test_behind x us) (test_behind p.value vs)
      (tails (sym (do_before y x us) ∙ q ∙ ap (λ z. flat_stmt z ++ vs) p.parts ∙ do_before p.body p.value vs)) (no_else_test y x us) (no_else_test p.body p.value vs) in
      let c = one_expression before_closing before_closing w p.formed (tails (tails r.1)) in
      (ap (λ z. st.Do z x) r.0 ∙ ap (st.Do p.body) c.0 ∙ sym p.parts, tails (tails c.1))
  one_statement (s.for_each types inner first test step y u w g z) v low high us vs q e f =
      let c = for_again y us vs u w g (consists_again us vs (s.for_each types inner first test step y u w g z) v q) q (omega (arith, low, stmt_height-For first test step y)) high f in
      let r = one_statement z c.inner (omega (arith, low, stmt_height-For first test step y)) c.nested us vs c.printed (λ h. e (takes_else-For first test step y ∙ h)) c.ends in
      (ap (st.For first test step) r.0 ∙ sym c.parts, r.1)
  one_statement (s.switch types m x y w u) v low high us vs q e f =
      let c = switch_again y us vs w (consists_again us vs (s.switch types m x y w u) v q) q high f in
      let r = one_statement u c.inner (omega (arith, low, stmt_height-Switch x y)) c.nested us vs c.printed (λ h. e (takes_else-Switch x y ∙ h)) c.ends in
      (ap (st.Switch x) r.0 ∙ sym c.parts, r.1)
  one_statement (s.case types m x y least w u) v low high us vs q e f =
      let c = case_again y us vs w (consists_again us vs (s.case types m x y least w u) v q) q high f in
      let r = one_statement u c.inner (omega (arith, low, stmt_height-Case x y)) c.nested us vs c.printed (λ h. e (takes_else-Case x y ∙ h)) c.ends in
      (ap (st.Case x) r.0 ∙ sym c.parts, r.1)
  one_statement (s.default types y u) v low high us vs q e f =
      let c = default_again y us vs (consists_again us vs (s.default types y u) v q) q high f in
      let r = one_statement u c.inner (omega (arith, low, stmt_height-Default y)) c.nested us vs c.printed (λ h. e (takes_else-Default y ∙ h)) c.ends in
      (ap st.Default r.0 ∙ sym c.parts, r.1)
  one_statement (s.label types name y is u) v low high us vs q e f =
      let c = label_again y us vs (consists_again us vs (s.label types name y is u) v q) q high f in
      let r = one_statement u c.inner (omega (arith, low, stmt_height-Label name y)) c.nested us vs c.printed (λ h. e (takes_else-Label name y ∙ h)) c.ends in
      (ap (st.Label name) r.0 ∙ sym c.parts, r.1)
  one_statement (s.goto types name is) v low high us vs q e f =
      let p = consists_again us vs (s.goto types name is) v q in
      let c = same_word (tails (sym (goto_before name us) ∙ q ∙ ap (λ z. flat_stmt z ++ vs) p.1 ∙ goto_before p.0 vs)) in
      (ap st.Goto c.0 ∙ sym p.1, tails c.1)
  one_statement (s.break types) v low high us vs q e f =
      let p = consists_again us vs (s.break types) v q in
      (sym p, tails (tails (sym (break_before us) ∙ q ∙ ap (λ z. flat_stmt z ++ vs) p ∙ break_before vs)))
  one_statement (s.continue types) v low high us vs q e f =
      let p = consists_again us vs (s.continue types) v q in
      (sym p, tails (tails (sym (continue_before us) ∙ q ∙ ap (λ z. flat_stmt z ++ vs) p ∙ continue_before vs)))
  one_statement (s.return types x w) v low high us vs q e f =
      let p = consists_again us vs (s.return types x w) v q in
      let c = one_optional before_semicolon w p.2 (tails (sym (return_before x us) ∙ q ∙ ap (λ z. flat_stmt z ++ vs) p.1 ∙ return_before p.0 vs)) in
      (ap st.Return c.0 ∙ sym p.1, tails c.1)

  pub one_items : {types : List (List ℕ)} {xs ys : List Stmt} → AreItems types xs → AreItems types ys → greatest (map stmt_height xs) ≤ 256 → greatest (map stmt_height ys) ≤ 256 → (us vs : List Sign) →
      items_behind xs us ≡ items_behind ys vs → (xs ≡ ys) × (us ≡ vs)
  one_items (s.no_more_items types) (s.no_more_items types') low high us vs q = (refl, tails q)
  one_items (s.no_more_items types) (s.statement types' y rest w v) low high us vs q = absurd (block_over us (items_behind rest vs) w (q ∙ items_next y rest vs))
  one_items (s.no_more_items types) (s.declaration types' final d rest w v) low high us vs q = absurd (declared_over us (items_behind rest vs) w (q ∙ items_next (st.Declare d) rest vs))
  one_items (s.statement types x rest w v) (s.no_more_items types') low high us vs q = absurd (block_over vs (items_behind rest us) w (sym q ∙ items_next x rest us))
  one_items (s.declaration types inner d rest w v) (s.no_more_items types') low high us vs q = absurd (declared_over vs (items_behind rest us) w (sym q ∙ items_next (st.Declare d) rest us))
  one_items (s.statement types x rest w v) (s.statement types' y rest' w' v') low high us vs q =
      let r = one_statement w w' (omega (arith, low)) (omega (arith, high)) (items_behind rest us) (items_behind rest' vs) (sym (items_next x rest us) ∙ q ∙ items_next y rest' vs) (next_ends x us v) (next_ends y vs v') in
      let o = one_items v v' (omega (arith, low)) (omega (arith, high)) us vs r.1 in
      (ap (λ z. z ∷ rest) r.0 ∙ ap (λ zs. y ∷ zs) o.0, o.1)
  one_items (s.statement types x rest w v) (s.declaration types' inner d rest' w' v') low high us vs q =
      absurd (statement_no_declaration (items_behind rest us) (items_behind rest' vs) w w' (sym (items_next x rest us) ∙ q ∙ items_next (st.Declare d) rest' vs ∙ declare_before d (items_behind rest' vs)))
  one_items (s.declaration types inner d rest w v) (s.statement types' y rest' w' v') low high us vs q =
      absurd (statement_no_declaration (items_behind rest' vs) (items_behind rest us) w' w (sym (items_next y rest' vs) ∙ sym q ∙ items_next (st.Declare d) rest us ∙ declare_before d (items_behind rest us)))
  one_items (s.declaration types inner d rest w v) (s.declaration types' after d' rest' w' v') low high us vs q =
      let r = one_declared w w' (omega (arith, low, stmt_height-Declare d)) (omega (arith, high, stmt_height-Declare d')) (items_behind rest us) (items_behind rest' vs)
      (sym (items_next (st.Declare d) rest us ∙ declare_before d (items_behind rest us)) ∙ q ∙ items_next (st.Declare d') rest' vs ∙ declare_before d' (items_behind rest' vs)) in
      let o = one_items v (subst (λ z. AreItems z rest') (sym r.types_same) v') (omega (arith, low)) (omega (arith, high)) us vs r.left_same in
      (ap (λ z. st.Declare z ∷ rest) r.trees_same ∙ ap (λ zs. st.Declare d' ∷ zs) o.0, o.1)
