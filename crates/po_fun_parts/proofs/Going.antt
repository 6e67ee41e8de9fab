-- What stands behind the start of a statement goes on with it.
use Rattle.std.proofs.Common.{◌≡◌, ◌∙◌, ◌≤◌, ℕ, List, [], ◌∷◌, ◌++◌, max, refl, sym, ap, subst, arith, codes, inl, inr, true≢false}
use Rattle.std.specs.Prelude.{Option, Some, None}
use Rattle.po_tree.specs.declared.expression.Exp.{Exp}
use Rattle.po_tree.specs.declared.declaration.Decl.{Decl}
use Rattle.po_tree.specs.declared.statement.First.{First}
use Rattle.po_tree.specs.declared.statement.First.TheVariants as f
use Rattle.po_tree.specs.declared.statement.Stmt.{Stmt}
use Rattle.po_tree.specs.declared.statement.Stmt.TheVariants as st
use Rattle.po_tree.specs.Signs.{Sign, word, brace, opening, closing, semicolon, colon}
use Rattle.po_tree.specs.Printing.{flat, flat_first, flat_decl, flat_stmt, optional}
use Rattle.po_tree.specs.Heights.{height, stmt_height, decl_height, first_height, or_none}
use Rattle.po_tree.specs.Words.{IsName}
use Rattle.po_tree.specs.Expressions.{Formed}
use Rattle.po_tree.specs.Declarations.{Declared}
use Rattle.po_tree.specs.Statements.{IsOptional, missing, there, IsFirst, nothing, value, variables, IsStatement}
use Rattle.po_exp_parts.proofs.SameSigns.{same_word}
use Rattle.po_exp_read.specs.Longest.{StandsBefore, StandsAt}
use Rattle.po_decl_laws.proofs.Behind.{tails}
use Rattle.po_fun_laws.proofs.FirstSigns.{by_semicolon, otherwise, kind_first, label_kind, BeginsDeclaration, begins_kind, declared_begins, expression_apart}
use Rattle.po_fun_laws.proofs.Layers.{else_behind, test_behind, steps_behind, items_behind, block_before, expression_before, empty_before, if_before, while_before, do_before, for_before, switch_before, case_before, default_before, label_before, goto_before, break_before, continue_before, return_before, stmt_height-If, stmt_height-Block, stmt_height-While, stmt_height-Do, stmt_height-For, stmt_height-Switch, stmt_height-Case, stmt_height-Default, stmt_height-Label, stmt_height-Return}
use Rattle.po_fun_laws.proofs.Rules as or
use Rattle.po_fun_laws.proofs.Rules.{WithStatement, IfParts, OtherBranch, ForParts, consists_there}
use Rattle.po_fun_laws.proofs.OneExpression.{IsStop, before_semicolon, before_closing, before_colon, formed_reads, one_expression, one_optional}
use Rattle.po_fun_parts.specs.Stops.{OptionalStands}
use Rattle.po_fun_parts.specs.Heads.{ParenthesisedStands, StepsStand, TestStands, ForStands, ForOpens}
use Rattle.po_fun_parts.specs.Standing.{StatementStands, ItemsStand, BodyThen, BranchStands, no_else, else_stands, BranchesThen, RepeatedThen, VariablesThen, BlockThen, first_of}
use Rattle.po_fun_parts.proofs.Ending.{one_optional_value, optional_parts, optional_stands}
use Rattle.po_fun_parts.proofs.Parentheses.{for_first, one_steps}
use Rattle.po_fun_parts.proofs.Starting.{value_kind}

module _ {types : List (List ℕ)} where
  -- the tokens of a statement whose form is known
  shown : {signs rest us : List Sign} {s t : Stmt} → StatementStands types signs s rest → s ≡ t → flat_stmt t ++ rest ≡ us → signs ≡ us
  shown {rest = rest} w q r = w.printed ∙ ap (λ z. flat_stmt z ++ rest) q ∙ r

  -- an expression in parentheses is the one that a statement has there
  parenthesised_is : {ts left us : List Sign} {m : ℕ} {x y : Exp} → ParenthesisedStands types ts x left → Formed types m y → ts ≡ opening ∷ (flat y ++ (closing ∷ us)) →
      (x ≡ y) × (left ≡ us)
  parenthesised_is h w q =
      let c = one_expression before_closing before_closing h.value.formed.formed w (sym h.value.printed ∙ tails (sym h.opens ∙ q)) in
      (c.0, tails c.1)

  body_then : {left rest : List Sign} {s : Stmt} {x : Exp} (make : Exp → Stmt → Stmt) → ((y : Exp) (z : Stmt) → stmt_height z ≤ stmt_height (make y z)) → (p : WithStatement make types s) →
      stmt_height s ≤ 256 → x ≡ p.value → left ≡ flat_stmt p.body ++ rest → BodyThen (make x) types left s rest
  body_then make higher p low q r = record {
    body = p.body;
    whole = p.parts ∙ ap (λ z. make z p.body) (sym q);
    stands = record { formed = p.inner; nested = omega (arith, low, ap stmt_height p.parts, higher p.value p.body); printed = r };
  }

  pub while_on : {ts left rest : List Sign} {s : Stmt} {x : Exp} → ParenthesisedStands types ts x left → StatementStands types (word (codes "while") ∷ ts) s rest → BodyThen (st.While x) types left s rest
  while_on {rest = rest} h w =
      let p : WithStatement st.While types _ = consists_there rest w.formed w.printed refl in
      let c = parenthesised_is h p.formed (tails (shown w p.parts (while_before p.value p.body rest))) in
      body_then st.While (λ y z. omega (arith, stmt_height-While y z)) p w.nested c.0 c.1

  pub switch_on : {ts left rest : List Sign} {s : Stmt} {x : Exp} → ParenthesisedStands types ts x left → StatementStands types (word (codes "switch") ∷ ts) s rest → BodyThen (st.Switch x) types left s rest
  switch_on {rest = rest} h w =
      let p : WithStatement st.Switch types _ = consists_there rest w.formed w.printed refl in
      let c = parenthesised_is h p.formed (tails (shown w p.parts (switch_before p.value p.body rest))) in
      body_then st.Switch (λ y z. omega (arith, stmt_height-Switch y z)) p w.nested c.0 c.1

  pub case_on : {ts left rest : List Sign} {s : Stmt} {x : Exp} → StandsAt 2 types ts x (colon ∷ left) → StatementStands types (word (codes "case") ∷ ts) s rest → BodyThen (st.Case x) types left s rest
  case_on {rest = rest} h w =
      let p : WithStatement st.Case types _ = consists_there rest w.formed w.printed refl in
      let c = one_expression before_colon before_colon h.stands.formed.formed p.formed (sym h.stands.printed ∙ tails (shown w p.parts (case_before p.value p.body rest))) in
      body_then st.Case (λ y z. omega (arith, stmt_height-Case y z)) p w.nested c.0 (tails c.1)

  pub default_on : {left rest : List Sign} {s : Stmt} → StatementStands types (word (codes "default") ∷ (colon ∷ left)) s rest → BodyThen st.Default types left s rest
  default_on {rest = rest} w =
      let p : (y : Stmt) × (_ ≡ st.Default y) × IsStatement types y = consists_there rest w.formed w.printed refl in
      record {
        body = p.0;
        whole = p.1;
        stands = record { formed = p.2; nested = omega (arith, w.nested, ap stmt_height p.1, stmt_height-Default p.0); printed = tails (tails (shown w p.1 (default_before p.0 rest))) };
      }

  pub label_on : {left rest : List Sign} {s : Stmt} {name : List ℕ} → IsName name → StatementStands types (word name ∷ (colon ∷ left)) s rest → BodyThen (st.Label name) types left s rest
  label_on {left = left} {rest = rest} {name = name} is w =
      let p : (other : List ℕ) × (y : Stmt) × (_ ≡ st.Label other y) × IsStatement types y = consists_there rest w.formed w.printed (label_kind left is) in
      let c = same_word (shown w p.2 (label_before p.0 p.1 rest)) in
      record {
        body = p.1;
        whole = p.2 ∙ ap (λ z. st.Label z p.1) (sym c.0);
        stands = record { formed = p.3; nested = omega (arith, w.nested, ap stmt_height p.2, stmt_height-Label p.0 p.1); printed = tails c.1 };
      }

  pub block_on : {left rest : List Sign} {s : Stmt} → StatementStands types (brace ∷ left) s rest → BlockThen types left s rest
  block_on {rest = rest} w =
      let p = consists_there rest w.formed w.printed refl in
      record {
        items = p.0;
        whole = p.1;
        stands = record { formed = p.2; nested = omega (arith, w.nested, ap stmt_height p.1, stmt_height-Block p.0); printed = tails (shown w p.1 (block_before p.0 rest)) };
      }

  -- `if`

  branch_on : {body : Stmt} {other : Option Stmt} (rest : List Sign) → OtherBranch types body other → or_none stmt_height other ≤ 256 → BranchStands types body (else_behind other rest) other rest
  branch_on rest or.alone low = no_else
  branch_on rest (or.another t ends inner) low = else_stands t (flat_stmt t ++ rest) rest ends refl (record { formed = inner; nested = low; printed = refl })

  pub if_on : {ts left rest : List Sign} {s : Stmt} {x : Exp} → ParenthesisedStands types ts x left → StatementStands types (word (codes "if") ∷ ts) s rest → BranchesThen types x left s rest
  if_on {rest = rest} h w =
      let p : IfParts types _ = consists_there rest w.formed w.printed refl in
      let c = parenthesised_is h p.formed (tails (shown w p.parts (if_before p.value p.body p.other rest))) in
      let high = stmt_height-If p.value p.body p.other in
      record {
        body = p.body;
        other = p.other;
        between = else_behind p.other rest;
        whole = p.parts ∙ ap (λ z. st.If z p.body p.other) (sym c.0);
        stands = record { formed = p.inner; nested = omega (arith, w.nested, ap stmt_height p.parts, high); printed = c.1 };
        branch = branch_on rest p.branch (omega (arith, w.nested, ap stmt_height p.parts, high));
      }

  -- `do`

  test_stands : {m : ℕ} {x : Exp} (rest : List Sign) → Formed types m x → height x ≤ 256 → TestStands types (test_behind x rest) x rest
  test_stands {m = m} {x = x} rest w low = record {
    inside = opening ∷ (flat x ++ (closing ∷ (semicolon ∷ rest)));
    repeats = refl;
    value = record {
      inside = flat x ++ (closing ∷ (semicolon ∷ rest));
      opens = refl;
      value = record { formed = record { level_of = m; formed = w; nested = low }; printed = refl };
    };
  }

  pub do_on : {left rest : List Sign} {s : Stmt} → StatementStands types (word (codes "do") ∷ left) s rest → RepeatedThen types left s rest
  do_on {rest = rest} w =
      let p : WithStatement (λ x y. st.Do y x) types _ = consists_there rest w.formed w.printed refl in
      let high = stmt_height-Do p.body p.value in
      record {
        body = p.body;
        value = p.value;
        between = test_behind p.value rest;
        whole = p.parts;
        stands = record { formed = p.inner; nested = omega (arith, w.nested, ap stmt_height p.parts, high); printed = tails (shown w p.parts (do_before p.body p.value rest)) };
        test = test_stands rest p.formed (omega (arith, w.nested, ap stmt_height p.parts, high));
      }
