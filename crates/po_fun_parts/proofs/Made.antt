-- A start and what goes on with it are a statement.
use Rattle.std.proofs.Common.{◌≡◌, ◌∙◌, ◌≤◌, ℕ, List, [], ◌∷◌, ◌++◌, max, refl, sym, ap, subst, arith, codes, append_assoc}
use Rattle.std.specs.Prelude.{Option, Some, None}
use Rattle.po_tree.specs.declared.expression.Exp.{Exp}
use Rattle.po_tree.specs.declared.statement.First.{First}
use Rattle.po_tree.specs.declared.statement.First.TheVariants as f
use Rattle.po_tree.specs.declared.statement.Stmt.{Stmt}
use Rattle.po_tree.specs.declared.statement.Stmt.TheVariants as st
use Rattle.po_tree.specs.Signs.{Sign, word, brace, opening, closing, semicolon, colon}
use Rattle.po_tree.specs.Printing.{flat, flat_first, flat_decl, flat_stmt, optional}
use Rattle.po_tree.specs.Heights.{height, stmt_height, decl_height, first_height, or_none}
use Rattle.po_tree.specs.Words.{IsName}
use Rattle.po_tree.specs.Statements as rule
use Rattle.po_tree.specs.Statements.{IsFirst, nothing, value, variables, IsStatement}
use Rattle.po_exp_read.specs.Longest.{StandsAt}
use Rattle.po_fun_laws.proofs.Layers.{else_behind, test_behind, steps_behind, block_before, if_before, while_before, do_before, for_before, switch_before, case_before, default_before, label_before, stmt_height-If, stmt_height-Block, stmt_height-While, stmt_height-Do, stmt_height-For, stmt_height-Switch, stmt_height-Case, stmt_height-Default, stmt_height-Label}
use Rattle.po_fun_parts.specs.Stops.{OptionalStands, alone, behind_value}
use Rattle.po_fun_parts.specs.Heads.{ParenthesisedStands, StepsStand, ForStands, ForOpens}
use Rattle.po_fun_parts.specs.Standing.{StatementStands, BodyThen, BranchStands, no_else, else_stands, BranchesThen, RepeatedThen, VariablesThen, BlockThen, first_of}
use Rattle.po_fun_parts.proofs.Ending.{optional_parts}

module _ {types : List (List ℕ)} where
  pub stands_as : {signs rest : List Sign} {s t : Stmt} → s ≡ t → StatementStands types signs t rest → StatementStands types signs s rest
  stands_as {signs = signs} {rest = rest} q w = subst (λ z. StatementStands types signs z rest) (sym q) w

  -- an expression in parentheses with what stands behind it
  in_front : {ts left us : List Sign} {x : Exp} → ParenthesisedStands types ts x left → left ≡ us → ts ≡ opening ∷ (flat x ++ (closing ∷ us))
  in_front {x = x} h q = h.opens ∙ (ap (λ z. opening ∷ z) h.value.printed ∙ ap (λ z. opening ∷ (flat x ++ (closing ∷ z))) q)

  pub while_made : {ts left rest : List Sign} {s : Stmt} {x : Exp} → ParenthesisedStands types ts x left → BodyThen (st.While x) types left s rest → StatementStands types (word (codes "while") ∷ ts) s rest
  while_made {rest = rest} {x = x} h b = stands_as b.whole (record {
    formed = rule.while types h.value.formed.level_of x b.body h.value.formed.formed b.stands.formed;
    nested = omega (arith, h.value.formed.nested, b.stands.nested, stmt_height-While x b.body);
    printed = ap (λ z. word (codes "while") ∷ z) (in_front h b.stands.printed) ∙ sym (while_before x b.body rest);
  })

  pub switch_made : {ts left rest : List Sign} {s : Stmt} {x : Exp} → ParenthesisedStands types ts x left → BodyThen (st.Switch x) types left s rest → StatementStands types (word (codes "switch") ∷ ts) s rest
  switch_made {rest = rest} {x = x} h b = stands_as b.whole (record {
    formed = rule.switch types h.value.formed.level_of x b.body h.value.formed.formed b.stands.formed;
    nested = omega (arith, h.value.formed.nested, b.stands.nested, stmt_height-Switch x b.body);
    printed = ap (λ z. word (codes "switch") ∷ z) (in_front h b.stands.printed) ∙ sym (switch_before x b.body rest);
  })

  pub case_made : {ts left rest : List Sign} {s : Stmt} {x : Exp} → StandsAt 2 types ts x (colon ∷ left) → BodyThen (st.Case x) types left s rest → StatementStands types (word (codes "case") ∷ ts) s rest
  case_made {rest = rest} {x = x} h b = stands_as b.whole (record {
    formed = rule.case types h.stands.formed.level_of x b.body h.high h.stands.formed.formed b.stands.formed;
    nested = omega (arith, h.stands.formed.nested, b.stands.nested, stmt_height-Case x b.body);
    printed = ap (λ z. word (codes "case") ∷ z) (h.stands.printed ∙ ap (λ z. flat x ++ (colon ∷ z)) b.stands.printed) ∙ sym (case_before x b.body rest);
  })

  pub default_made : {left rest : List Sign} {s : Stmt} → BodyThen st.Default types left s rest → StatementStands types (word (codes "default") ∷ (colon ∷ left)) s rest
  default_made {rest = rest} b = stands_as b.whole (record {
    formed = rule.default types b.body b.stands.formed;
    nested = omega (arith, b.stands.nested, stmt_height-Default b.body);
    printed = ap (λ z. word (codes "default") ∷ (colon ∷ z)) b.stands.printed ∙ sym (default_before b.body rest);
  })

  pub label_made : {left rest : List Sign} {s : Stmt} {name : List ℕ} → IsName name → BodyThen (st.Label name) types left s rest → StatementStands types (word name ∷ (colon ∷ left)) s rest
  label_made {rest = rest} {name = name} is b = stands_as b.whole (record {
    formed = rule.label types name b.body is b.stands.formed;
    nested = omega (arith, b.stands.nested, stmt_height-Label name b.body);
    printed = ap (λ z. word name ∷ (colon ∷ z)) b.stands.printed ∙ sym (label_before name b.body rest);
  })

  pub block_made : {left rest : List Sign} {s : Stmt} → BlockThen types left s rest → StatementStands types (brace ∷ left) s rest
  block_made {rest = rest} b = stands_as b.whole (record {
    formed = rule.block types b.items b.stands.formed;
    nested = omega (arith, b.stands.nested, stmt_height-Block b.items);
    printed = ap (λ z. brace ∷ z) b.stands.printed ∙ sym (block_before b.items rest);
  })

  -- `if`

  branches_made : {ts left between rest : List Sign} {x : Exp} {body : Stmt} {other : Option Stmt} → ParenthesisedStands types ts x left → StatementStands types left body between →
      BranchStands types body between other rest → StatementStands types (word (codes "if") ∷ ts) (st.If x body other) rest
  branches_made {between = between} {x = x} {body = body} h w no_else = record {
    formed = rule.if_alone types h.value.formed.level_of x body h.value.formed.formed w.formed;
    nested = omega (arith, h.value.formed.nested, w.nested, stmt_height-If x body None);
    printed = ap (λ z. word (codes "if") ∷ z) (in_front h w.printed) ∙ sym (if_before x body None between);
  }
  branches_made {rest = rest} {x = x} {body = body} h w (else_stands t behind rest' ends q v) = record {
    formed = rule.if_else types h.value.formed.level_of x body t h.value.formed.formed w.formed ends v.formed;
    nested = omega (arith, h.value.formed.nested, w.nested, v.nested, stmt_height-If x body (Some t));
    printed = ap (λ z. word (codes "if") ∷ z) (in_front h (w.printed ∙ ap (λ z. flat_stmt body ++ z) (q ∙ ap (λ z. word (codes "else") ∷ z) v.printed))) ∙ sym (if_before x body (Some t) rest);
  }

  pub if_made : {ts left rest : List Sign} {s : Stmt} {x : Exp} → ParenthesisedStands types ts x left → BranchesThen types x left s rest → StatementStands types (word (codes "if") ∷ ts) s rest
  if_made h b = stands_as b.whole (branches_made h b.stands b.branch)

  -- `do`

  pub do_made : {left rest : List Sign} {s : Stmt} → RepeatedThen types left s rest → StatementStands types (word (codes "do") ∷ left) s rest
  do_made {rest = rest} b =
      let test = b.test.value in
      stands_as b.whole (record {
        formed = rule.do_while types test.value.formed.level_of b.value b.body b.stands.formed test.value.formed.formed;
        nested = omega (arith, b.stands.nested, test.value.formed.nested, stmt_height-Do b.body b.value);
        printed =
            ap (λ z. word (codes "do") ∷ z) (b.stands.printed ∙ ap (λ z. flat_stmt b.body ++ z) (b.test.repeats ∙ ap (λ z. word (codes "while") ∷ z) (in_front test refl))) ∙
            sym (do_before b.body b.value rest);
      })

  -- `for`

  is_first : {signs us : List Sign} {x : Option Exp} → OptionalStands types semicolon signs x us → IsFirst types (first_of x) types
  is_first (alone us q) = nothing
  is_first (behind_value x us w) = value w.formed.level_of x w.formed.formed

  first_low : {signs us : List Sign} {x : Option Exp} → OptionalStands types semicolon signs x us → first_height (first_of x) ≤ 256
  first_low (alone us q) = omega arith
  first_low (behind_value x us w) = w.formed.nested

  first_printed : {signs us vs : List Sign} {x : Option Exp} → OptionalStands types semicolon signs x us → us ≡ vs → signs ≡ flat_first (first_of x) ++ vs
  first_printed (alone us q) r = q ∙ ap (λ z. semicolon ∷ z) r
  first_printed {vs = vs} (behind_value x us w) r = w.printed ∙ (ap (λ z. flat x ++ (semicolon ∷ z)) r ∙ sym (append_assoc (flat x) (semicolon ∷ []) vs))

steps_printed : {types : List (List ℕ)} {signs left : List Sign} {test step : Option Exp} (body : Stmt) (rest : List Sign) → StepsStand types signs test step left → left ≡ flat_stmt body ++ rest →
    signs ≡ steps_behind test step body rest
steps_printed {test = test} {step = step} body rest h q =
    let t = optional_parts h.tested in
    let u = optional_parts h.stepped in
    t.2 ∙ ap (λ z. optional flat test ++ (semicolon ∷ z)) (u.2 ∙ ap (λ z. optional flat step ++ (closing ∷ z)) q)

module _ {types : List (List ℕ)} where
  pub for_made : {ts left rest : List Sign} {s : Stmt} {first test step : Option Exp} → ForStands types ts first test step left → BodyThen (st.For (first_of first) test step) types left s rest →
      StatementStands types (word (codes "for") ∷ ts) s rest
  for_made {rest = rest} {first = first} {test = test} {step = step} h b =
      let t = optional_parts h.steps.tested in
      let u = optional_parts h.steps.stepped in
      stands_as b.whole (record {
        formed = rule.for_each types types (first_of first) test step b.body (is_first h.begins) t.0 u.0 b.stands.formed;
        nested = omega (arith, first_low h.begins, t.1, u.1, b.stands.nested, stmt_height-For (first_of first) test step b.body);
        printed =
            ap (λ z. word (codes "for") ∷ z) (h.opens ∙ ap (λ z. opening ∷ z) (first_printed h.begins (steps_printed b.body rest h.steps b.stands.printed))) ∙
            sym (for_before (first_of first) test step b.body rest);
      })

  pub variables_made : {ts left rest : List Sign} {s : Stmt} → ForOpens types ts left → VariablesThen types left s rest → StatementStands types (word (codes "for") ∷ ts) s rest
  variables_made {rest = rest} h b =
      let t = optional_parts b.steps.tested in
      let u = optional_parts b.steps.stepped in
      let first : First = f.Variables b.declaration in
      stands_as b.whole (record {
        formed = rule.for_each types b.inner first b.test b.step b.body (variables b.declaration b.inner b.declared) t.0 u.0 b.stands.formed;
        nested = omega (arith, b.low, t.1, u.1, b.stands.nested, stmt_height-For first b.test b.step b.body);
        printed =
            ap (λ z. word (codes "for") ∷ z)
            (h.opens ∙ ap (λ z. opening ∷ z) (b.printed ∙ ap (λ z. flat_decl b.declaration ++ z) (steps_printed b.body rest b.steps b.stands.printed))) ∙
            sym (for_before first b.test b.step b.body rest);
      })
