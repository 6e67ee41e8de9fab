-- A statement stands exactly where its start does and what goes on with it behind that, and each has a start.
use Rattle.std.proofs.Common.{◌≡◌, ◌∙◌, ◌↔◌, ◌≤◌, ℕ, List, [], ◌∷◌, ◌++◌, refl, sym, ap, subst, arith, codes, inl, inr}
use Rattle.std.specs.Prelude.{Option, Some, None}
use Rattle.po_tree.specs.declared.expression.Exp.{Exp}
use Rattle.po_tree.specs.declared.statement.First.{First}
use Rattle.po_tree.specs.declared.statement.Stmt.{Stmt, fold-roll-Stmt}
use Rattle.po_tree.specs.declared.statement.Stmt.TheVariants as st
use Rattle.po_tree.specs.declared.statement.Stmt.TheOpen.{Stmt-F}
use Rattle.po_tree.specs.Signs.{Sign, word, brace, opening, closing, semicolon, colon}
use Rattle.po_tree.specs.Printing.{flat, flat_first, flat_stmt, optional}
use Rattle.po_tree.specs.Heights.{height, stmt_height, rises_stmt, first_height, or_none}
use Rattle.po_tree.specs.Words.{IsName}
use Rattle.po_tree.specs.Expressions.{Formed}
use Rattle.po_tree.specs.Statements as rule
use Rattle.po_tree.specs.Statements.{IsOptional, IsFirst, IsStatement}
use Rattle.po_exp_parts.proofs.SameSigns.{same_word}
use Rattle.po_exp_read.specs.Longest.{StandsBefore}
use Rattle.po_decl_laws.proofs.Behind.{tails}
use Rattle.po_fun_laws.proofs.Layers.{else_behind, test_behind, steps_behind, items_behind, block_before, expression_before, empty_before, if_before, while_before, do_before, for_before, switch_before, case_before, default_before, label_before, goto_before, break_before, continue_before, return_before, stmt_height-ExpS, stmt_height-If, stmt_height-While, stmt_height-For, stmt_height-Switch, stmt_height-Case, stmt_height-Return}
use Rattle.po_fun_laws.proofs.Rules.{consists_there}
use Rattle.po_fun_laws.proofs.OneExpression.{before_semicolon, one_expression, one_optional}
use Rattle.po_fun_parts.specs.declared.keywords.Keyword.{Keyword}
use Rattle.po_fun_parts.specs.declared.keywords.Keyword.TheVariants as keyword
use Rattle.po_fun_parts.specs.declared.starts.Start.{Start}
use Rattle.po_fun_parts.specs.declared.starts.Start.TheVariants as start
use Rattle.po_fun_parts.specs.Stops.{OptionalStands, alone, behind_value}
use Rattle.po_fun_parts.specs.Keywords.{spelling}
use Rattle.po_fun_parts.specs.Heads.{ParenthesisedStands, StepsStand, ForStands, ForOpens}
use Rattle.po_fun_parts.specs.Starting.{StartsBehind, StatementStarts, block, empty, expression, label, by_keyword}
use Rattle.po_fun_parts.specs.Standing.{StatementStands, BodyThen, RepeatedThen, Continues}
use Rattle.po_fun_parts.proofs.Ending.{one_optional_value, optional_parts, optional_stands}
use Rattle.po_fun_parts.proofs.Starting.{value_kind}
use Rattle.po_fun_parts.proofs.Going.{if_on, while_on, do_on, switch_on, case_on, default_on, label_on, block_on}
use Rattle.po_fun_parts.proofs.GoingFor.{for_on, variables_on, optional_apart, steps_there}
use Rattle.po_fun_parts.proofs.Made.{stands_as, if_made, while_made, do_made, for_made, variables_made, switch_made, case_made, default_made, label_made, block_made}

-- statements without an expression

stmt_height-Empty : stmt_height st.Empty ≡ 0
unfolding stmt_height
stmt_height-Empty = ap stmt_height (sym st.rolls-Empty) ∙ fold-roll-Stmt _ rises_stmt Stmt-F.Empty

stmt_height-Goto : (name : List ℕ) → stmt_height (st.Goto name) ≡ 0
unfolding stmt_height
stmt_height-Goto name = ap stmt_height (sym (st.rolls-Goto name)) ∙ fold-roll-Stmt _ rises_stmt (Stmt-F.Goto name)

stmt_height-Break : stmt_height st.Break ≡ 0
unfolding stmt_height
stmt_height-Break = ap stmt_height (sym st.rolls-Break) ∙ fold-roll-Stmt _ rises_stmt Stmt-F.Break

stmt_height-Continue : stmt_height st.Continue ≡ 0
unfolding stmt_height
stmt_height-Continue = ap stmt_height (sym st.rolls-Continue) ∙ fold-roll-Stmt _ rises_stmt Stmt-F.Continue

module _ {types : List (List ℕ)} where
  -- the tokens of a statement whose form is known
  shown : {signs rest us : List Sign} {s t : Stmt} → StatementStands types signs s rest → s ≡ t → flat_stmt t ++ rest ≡ us → signs ≡ us
  shown {rest = rest} w q r = w.printed ∙ ap (λ z. flat_stmt z ++ rest) q ∙ r

  -- statements that hold no other

  expression_both : {signs left rest : List Sign} {s : Stmt} {x : Exp} → StandsBefore types signs x (semicolon ∷ left) → StatementStands types signs s rest ↔ ((s ≡ st.ExpS x) × (left ≡ rest))
  expression_both {signs = signs} {left = left} {rest = rest} {s = s} {x = x} h = (
    λ w.
        let p : (m : ℕ) × (y : Exp) × (s ≡ st.ExpS y) × Formed types m y = consists_there rest w.formed w.printed (value_kind h) in
        let c = one_expression before_semicolon before_semicolon h.formed.formed p.3 (sym h.printed ∙ shown w p.2 (expression_before p.1 rest)) in
        (p.2 ∙ ap st.ExpS (sym c.0), tails c.1),
    λ b. stands_as b.0 (record {
      formed = rule.expression types h.formed.level_of x h.formed.formed;
      nested = omega (arith, h.formed.nested, stmt_height-ExpS x);
      printed = h.printed ∙ (ap (λ z. flat x ++ (semicolon ∷ z)) b.1 ∙ sym (expression_before x rest));
    }),
  )

  empty_both : {left rest : List Sign} {s : Stmt} → StatementStands types (semicolon ∷ left) s rest ↔ ((s ≡ st.Empty) × (left ≡ rest))
  empty_both {left = left} {rest = rest} {s = s} = (
    λ w. let p : s ≡ st.Empty = consists_there rest w.formed w.printed refl in (p, tails (shown w p (empty_before rest))),
    λ b. stands_as b.0 (record { formed = rule.empty types; nested = omega (arith, stmt_height-Empty); printed = ap (λ z. semicolon ∷ z) b.1 ∙ sym (empty_before rest) }),
  )

  goto_both : {ts left rest : List Sign} {s : Stmt} {name : List ℕ} → IsName name → ts ≡ word name ∷ (semicolon ∷ left) →
      StatementStands types (word (codes "goto") ∷ ts) s rest ↔ ((s ≡ st.Goto name) × (left ≡ rest))
  goto_both {left = left} {rest = rest} {s = s} {name = name} is h = (
    λ w.
        let p : (other : List ℕ) × (s ≡ st.Goto other) = consists_there rest w.formed w.printed refl in
        let c = same_word (sym h ∙ tails (shown w p.1 (goto_before p.0 rest))) in
        (p.1 ∙ ap st.Goto (sym c.0), tails c.1),
    λ b. stands_as b.0 (record {
      formed = rule.goto types name is;
      nested = omega (arith, stmt_height-Goto name);
      printed = ap (λ z. word (codes "goto") ∷ z) (h ∙ ap (λ z. word name ∷ (semicolon ∷ z)) b.1) ∙ sym (goto_before name rest);
    }),
  )

  break_both : {ts left rest : List Sign} {s : Stmt} → ts ≡ semicolon ∷ left → StatementStands types (word (codes "break") ∷ ts) s rest ↔ ((s ≡ st.Break) × (left ≡ rest))
  break_both {left = left} {rest = rest} {s = s} h = (
    λ w. let p : s ≡ st.Break = consists_there rest w.formed w.printed refl in (p, tails (sym h ∙ tails (shown w p (break_before rest)))),
    λ b. stands_as b.0 (record {
      formed = rule.break types;
      nested = omega (arith, stmt_height-Break);
      printed = ap (λ z. word (codes "break") ∷ z) (h ∙ ap (λ z. semicolon ∷ z) b.1) ∙ sym (break_before rest);
    }),
  )

  continue_both : {ts left rest : List Sign} {s : Stmt} → ts ≡ semicolon ∷ left → StatementStands types (word (codes "continue") ∷ ts) s rest ↔ ((s ≡ st.Continue) × (left ≡ rest))
  continue_both {left = left} {rest = rest} {s = s} h = (
    λ w. let p : s ≡ st.Continue = consists_there rest w.formed w.printed refl in (p, tails (sym h ∙ tails (shown w p (continue_before rest)))),
    λ b. stands_as b.0 (record {
      formed = rule.continue types;
      nested = omega (arith, stmt_height-Continue);
      printed = ap (λ z. word (codes "continue") ∷ z) (h ∙ ap (λ z. semicolon ∷ z) b.1) ∙ sym (continue_before rest);
    }),
  )

  return_both : {ts left rest : List Sign} {s : Stmt} {x : Option Exp} → OptionalStands types semicolon ts x left →
      StatementStands types (word (codes "return") ∷ ts) s rest ↔ ((s ≡ st.Return x) × (left ≡ rest))
  return_both {left = left} {rest = rest} {s = s} {x = x} h = (
    λ w.
        let p : (y : Option Exp) × (s ≡ st.Return y) × IsOptional types y = consists_there rest w.formed w.printed refl in
        let o = optional_parts h in
        let c = one_optional before_semicolon o.0 p.2 (sym o.2 ∙ tails (shown w p.1 (return_before p.0 rest))) in
        (p.1 ∙ ap st.Return (sym c.0), tails c.1),
    λ b.
        let o = optional_parts h in
        stands_as b.0 (record {
          formed = rule.return types x o.0;
          nested = omega (arith, o.1, stmt_height-Return x);
          printed = ap (λ z. word (codes "return") ∷ z) (o.2 ∙ ap (λ z. optional flat x ++ (semicolon ∷ z)) b.1) ∙ sym (return_before x rest);
        }),
  )

  -- what goes on behind one start goes on behind the same
  started_as : (left : List Sign) {signs rest : List Sign} {s : Stmt} {begun other : Start} → begun ≡ other → StatementStands types signs s rest ↔ Continues types other left s rest →
      StatementStands types signs s rest ↔ Continues types begun left s rest
  started_as left {signs = signs} {rest = rest} {s = s} q h = subst (λ z. StatementStands types signs s rest ↔ Continues types z left s rest) (sym q) h

  do_both : {ts left rest : List Sign} {s : Stmt} → ts ≡ left → StatementStands types (word (codes "do") ∷ ts) s rest ↔ RepeatedThen types left s rest
  do_both {ts = ts} {rest = rest} {s = s} q = subst (λ z. StatementStands types (word (codes "do") ∷ ts) s rest ↔ RepeatedThen types z s rest) q (do_on, do_made)

  default_both : {ts left rest : List Sign} {s : Stmt} → ts ≡ colon ∷ left → StatementStands types (word (codes "default") ∷ ts) s rest ↔ BodyThen st.Default types left s rest
  default_both {left = left} {rest = rest} {s = s} q = subst (λ z. StatementStands types (word (codes "default") ∷ z) s rest ↔ BodyThen st.Default types left s rest) (sym q) (default_on, default_made)

  keyword_both : (left : List Sign) {ts rest : List Sign} {s : Stmt} (w : Keyword) (begun : Start) → StartsBehind w types ts begun left →
      StatementStands types (word (spelling w) ∷ ts) s rest ↔ Continues types begun left s rest
  keyword_both left keyword.If begun h = started_as left h.1 (if_on h.2, if_made h.2)
  keyword_both left keyword.While begun h = started_as left h.1 (while_on h.2, while_made h.2)
  keyword_both left keyword.Do begun h = started_as left h.0 (do_both h.1)
  keyword_both left keyword.For begun (inl (first, test, step, q, h)) = started_as left q (for_on h, for_made h)
  keyword_both left keyword.For begun (inr (q, h)) = started_as left q (variables_on h, variables_made h)
  keyword_both left keyword.Switch begun h = started_as left h.1 (switch_on h.2, switch_made h.2)
  keyword_both left keyword.Case begun h = started_as left h.1 (case_on h.2, case_made h.2)
  keyword_both left keyword.Default begun h = started_as left h.0 (default_both h.1)
  keyword_both left keyword.Goto begun h = started_as left h.1 (goto_both h.2 h.3)
  keyword_both left keyword.Break begun h = started_as left h.0 (break_both h.1)
  keyword_both left keyword.Continue begun h = started_as left h.0 (continue_both h.1)
  keyword_both left keyword.Return begun h = started_as left h.1 (return_both h.2)

  pub statement_both : {signs left rest : List Sign} {s : Stmt} {begun : Start} → StatementStarts types signs begun left → StatementStands types signs s rest ↔ Continues types begun left s rest
  statement_both (block left) = (block_on, block_made)
  statement_both (empty left) = empty_both
  statement_both (expression x signs left h) = expression_both h
  statement_both (label name left is) = (label_on is, label_made is)
  statement_both (by_keyword w ts begun left h) = keyword_both left w begun h
