-- Each statement has a start.
use Rattle.std.proofs.Common.{◌≡◌, ◌∙◌, ◌≤◌, ℕ, List, [], ◌∷◌, ◌++◌, refl, sym, ap, subst, arith, codes, inl, inr, append_assoc}
use Rattle.std.specs.Prelude.{Option, Some, None}
use Rattle.po_tree.specs.declared.expression.Exp.{Exp}
use Rattle.po_tree.specs.declared.statement.First.{First}
use Rattle.po_tree.specs.declared.statement.Stmt.{Stmt}
use Rattle.po_tree.specs.declared.statement.Stmt.TheVariants as st
use Rattle.po_tree.specs.Signs.{Sign, word, brace, opening, closing, semicolon, colon}
use Rattle.po_tree.specs.Printing.{flat, flat_first, flat_stmt, optional}
use Rattle.po_tree.specs.Heights.{height, stmt_height, first_height, or_none}
use Rattle.po_tree.specs.Words.{IsName}
use Rattle.po_tree.specs.Expressions.{Formed}
use Rattle.po_tree.specs.Statements as rule
use Rattle.po_tree.specs.Statements.{IsOptional, IsFirst, nothing, value, variables, IsStatement}
use Rattle.po_exp_read.specs.Longest.{StandsBefore}
use Rattle.po_fun_laws.proofs.Layers.{else_behind, test_behind, steps_behind, items_behind, block_before, expression_before, empty_before, if_before, while_before, do_before, for_before, switch_before, case_before, default_before, label_before, goto_before, break_before, continue_before, return_before, stmt_height-ExpS, stmt_height-If, stmt_height-While, stmt_height-For, stmt_height-Switch, stmt_height-Case, stmt_height-Return}
use Rattle.po_fun_parts.specs.declared.keywords.Keyword.{Keyword}
use Rattle.po_fun_parts.specs.declared.keywords.Keyword.TheVariants as keyword
use Rattle.po_fun_parts.specs.declared.starts.Start.{Start}
use Rattle.po_fun_parts.specs.declared.starts.Start.TheVariants as start
use Rattle.po_fun_parts.specs.Stops.{OptionalStands, alone, behind_value}
use Rattle.po_fun_parts.specs.Keywords.{spelling}
use Rattle.po_fun_parts.specs.Heads.{ParenthesisedStands, StepsStand}
use Rattle.po_fun_parts.specs.Starting.{StartsBehind, StatementStarts, block, empty, expression, label, by_keyword}
use Rattle.po_fun_parts.specs.Standing.{StatementStands}
use Rattle.po_fun_parts.proofs.Ending.{optional_stands}
use Rattle.po_fun_parts.proofs.GoingFor.{optional_apart, steps_there}

-- what begins at the front of the signs
abbrev Begun : List (List ℕ) → List Sign → Type 0
Begun types signs = (begun : Start) × (left : List Sign) × StatementStarts types signs begun left

module _ {types : List (List ℕ)} where
  begun_by : {ts : List Sign} (begun : Start) (left : List Sign) (w : Keyword) → StartsBehind w types ts begun left → Begun types (word (spelling w) ∷ ts)
  begun_by {ts = ts} begun left w h = (begun, left, by_keyword w ts begun left h)

  value_there : {m : ℕ} (x : Exp) (a : Sign) (us : List Sign) → Formed types m x → height x ≤ 256 → StandsBefore types (flat x ++ (a ∷ us)) x (a ∷ us)
  value_there {m = m} x a us w low = record { formed = record { level_of = m; formed = w; nested = low }; printed = refl }

  in_parentheses : {m : ℕ} (x : Exp) (us : List Sign) → Formed types m x → height x ≤ 256 → ParenthesisedStands types (opening ∷ (flat x ++ (closing ∷ us))) x us
  in_parentheses x us w low = record { inside = _; opens = refl; value = value_there x closing us w low }

  -- the head of a `for`
  for_begun : {inside : List (List ℕ)} {first : First} {test step : Option Exp} (s : Stmt) (rest : List Sign) → IsFirst types first inside → IsOptional inside test → IsOptional inside step →
      stmt_height (st.For first test step s) ≤ 256 → Begun types (word (codes "for") ∷ (opening ∷ (flat_first first ++ steps_behind test step s rest)))
  for_begun {first = first} {test = test} {step = step} s rest nothing t u low =
      let high = stmt_height-For first test step s in
      begun_by (start.For None test step) (flat_stmt s ++ rest) keyword.For (inl (
        None,
        test,
        step,
        refl,
        record {
          inside = _;
          behind = steps_behind test step s rest;
          opens = refl;
          begins = alone _ refl;
          steps = steps_there s rest t u (omega (arith, low, high)) (omega (arith, low, high));
        },
      ))
  for_begun {first = first} {test = test} {step = step} s rest (value m x w) t u low =
      let high = stmt_height-For first test step s in
      begun_by (start.For (Some x) test step) (flat_stmt s ++ rest) keyword.For (inl (
        Some x,
        test,
        step,
        refl,
        record {
          inside = _;
          behind = steps_behind test step s rest;
          opens = refl;
          begins = behind_value x _ (record { formed = record { level_of = m; formed = w; nested = omega (arith, low, high) }; printed = append_assoc (flat x) (semicolon ∷ []) _ });
          steps = steps_there s rest t u (omega (arith, low, high)) (omega (arith, low, high));
        },
      ))
  for_begun s rest (variables d inside v) t u low =
      begun_by start.ForVariables _ keyword.For (inr (refl, record { opens = refl; others = λ x us h. optional_apart _ h v refl }))

  statement_begun : {s : Stmt} (rest : List Sign) → IsStatement types s → stmt_height s ≤ 256 → Begun types (flat_stmt s ++ rest)
  statement_begun rest (rule.block types' xs w) low = subst (Begun types) (sym (block_before xs rest)) (start.Block, items_behind xs rest, block _)
  statement_begun rest (rule.expression types' m x w) low =
      subst (Begun types) (sym (expression_before x rest)) (start.Whole (st.ExpS x), rest, expression x _ rest (value_there x semicolon rest w (omega (arith, low, stmt_height-ExpS x))))
  statement_begun rest (rule.empty types') low = subst (Begun types) (sym (empty_before rest)) (start.Whole st.Empty, rest, empty rest)
  statement_begun rest (rule.if_alone types' m x s w v) low =
      subst (Begun types) (sym (if_before x s None rest)) (begun_by (start.If x) _ keyword.If (x, refl, in_parentheses x _ w (omega (arith, low, stmt_height-If x s None))))
  statement_begun rest (rule.if_else types' m x s t w v ends u) low =
      subst (Begun types) (sym (if_before x s (Some t) rest)) (begun_by (start.If x) _ keyword.If (x, refl, in_parentheses x _ w (omega (arith, low, stmt_height-If x s (Some t)))))
  statement_begun rest (rule.while types' m x s w v) low =
      subst (Begun types) (sym (while_before x s rest)) (begun_by (start.While x) _ keyword.While (x, refl, in_parentheses x _ w (omega (arith, low, stmt_height-While x s))))
  statement_begun rest (rule.do_while types' m x s v w) low = subst (Begun types) (sym (do_before s x rest)) (begun_by start.Do _ keyword.Do (refl, refl))
  statement_begun rest (rule.for_each types' inner first test step s u v w z) low =
      subst (Begun types) (sym (for_before first test step s rest)) (for_begun s rest u v w low)
  statement_begun rest (rule.switch types' m x s w v) low =
      subst (Begun types) (sym (switch_before x s rest)) (begun_by (start.Switch x) _ keyword.Switch (x, refl, in_parentheses x _ w (omega (arith, low, stmt_height-Switch x s))))
  statement_begun rest (rule.case types' m x s high w v) low =
      subst (Begun types) (sym (case_before x s rest))
      (begun_by (start.Case x) _ keyword.Case (x, refl, record { stands = record { formed = record { level_of = m; formed = w; nested = omega (arith, low, stmt_height-Case x s) }; printed = refl }; high = high }))
  statement_begun rest (rule.default types' s v) low = subst (Begun types) (sym (default_before s rest)) (begun_by start.Default _ keyword.Default (refl, refl))
  statement_begun rest (rule.label types' name s is v) low = subst (Begun types) (sym (label_before name s rest)) (start.Label name, flat_stmt s ++ rest, label name _ is)
  statement_begun rest (rule.goto types' name is) low = subst (Begun types) (sym (goto_before name rest)) (begun_by (start.Whole (st.Goto name)) rest keyword.Goto (name, refl, is, refl))
  statement_begun rest (rule.break types') low = subst (Begun types) (sym (break_before rest)) (begun_by (start.Whole st.Break) rest keyword.Break (refl, refl))
  statement_begun rest (rule.continue types') low = subst (Begun types) (sym (continue_before rest)) (begun_by (start.Whole st.Continue) rest keyword.Continue (refl, refl))
  statement_begun rest (rule.return types' x w) low =
      subst (Begun types) (sym (return_before x rest)) (begun_by (start.Whole (st.Return x)) rest keyword.Return (x, refl, optional_stands semicolon _ rest w (omega (arith, low, stmt_height-Return x)) refl))

  pub each_begun : {signs rest : List Sign} {s : Stmt} → StatementStands types signs s rest → Begun types signs
  each_begun {rest = rest} w = subst (Begun types) (sym w.printed) (statement_begun rest w.formed w.nested)
