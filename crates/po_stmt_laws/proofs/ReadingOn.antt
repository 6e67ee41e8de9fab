-- A statement is read exactly where its other parts are read behind its start.
use Rattle.std.proofs.Common.{◌≡◌, ◌∙◌, ◌↔◌, ℕ, suc, ◌≤◌, List, [], ◌∷◌, refl, sym, ap, subst, arith, codes, false, true≢false}
use Rattle.std.specs.Prelude.{Option, Some, None}
use Rattle.po_lists.proofs.Booleans.{false_unless_true}
use Rattle.po_tree.specs.declared.expression.Exp.{Exp}
use Rattle.po_tree.specs.declared.statement.First.{First}
use Rattle.po_tree.specs.declared.statement.First.TheVariants as f
use Rattle.po_tree.specs.declared.statement.Stmt.{Stmt}
use Rattle.po_tree.specs.declared.statement.Stmt.TheVariants as st
use Rattle.po_tree.specs.Signs.{Sign, word}
use Rattle.po_tree.specs.Heights.{stmt_depth}
use Rattle.po_tree.specs.Statements.{takes_else}
use Rattle.po_exp_parts.specs.Places.{Begins}
use Rattle.po_decl_laws.proofs.Behind.{first_byte}
use Rattle.po_fun_laws.specs.Endings.{EndsStatement}
use Rattle.po_fun_laws.proofs.Layers.{takes_else-If_alone, takes_else-If_else, takes_else-While, takes_else-For, takes_else-Switch, takes_else-Case, takes_else-Default, takes_else-Label}
use Rattle.po_fun_parts.specs.declared.starts.Start.{Start}
use Rattle.po_fun_parts.specs.declared.starts.Start.TheVariants as start
use Rattle.po_fun_parts.specs.Heads.{TestStands}
use Rattle.po_fun_parts.specs.Starting.{StatementStarts}
use Rattle.po_fun_parts.specs.Standing.{StatementStands, BodyThen, BranchStands, no_else, else_stands, BranchesThen, RepeatedThen, VariablesThen, BlockThen, first_of}
use Rattle.po_fun_parts.proofs.Both.{statement_both}
use Rattle.po_stmt_laws.specs.Reading.{StatementReads}
use Rattle.po_stmt_laws.specs.Continuing.{BodyReads, BranchReads, alone, another, BranchesRead, RepeatedReads, VariablesRead, BlockReads, ReadsOn}
use Rattle.po_stmt_laws.proofs.Layers.{stmt_depth-Block, stmt_depth-If, stmt_depth-While, stmt_depth-Do, stmt_depth-For, stmt_depth-Switch, stmt_depth-Case, stmt_depth-Default, stmt_depth-Label, takes_else-Block, takes_else-Do}
use Rattle.po_stmt_laws.proofs.Flat.{IsFlat, flat_whole}

-- a statement that takes no `else` ends anywhere
ends_anywhere : (s : Stmt) (signs : List Sign) → takes_else s ≡ false → EndsStatement s signs
ends_anywhere s signs q h b = true≢false (sym h ∙ q)

else_first : {signs behind : List Sign} → signs ≡ word (codes "else") ∷ behind → Begins (word (codes "else")) signs
else_first q = subst (Begins (word (codes "else"))) (sym q) refl

module _ {types : List (List ℕ)} where
  -- the first statement of an `if` takes no `else` of another
  first_ends : {between rest : List Sign} {body : Stmt} {other : Option Stmt} (x : Exp) → BranchStands types body between other rest → EndsStatement (st.If x body other) rest → EndsStatement body between
  first_ends {body = body} x no_else e h b = e (takes_else-If_alone x body) b
  first_ends {body = body} x (else_stands t behind rest ends q v) e h b = true≢false (sym h ∙ ends)

  -- no `else` stands before the test of a `do`
  before_test : {between rest : List Sign} {x : Exp} (body : Stmt) → TestStands types between x rest → EndsStatement body between
  before_test body test h b = let c = subst (Begins (word (codes "else"))) test.repeats b in omega (arith, ap (λ v. first_byte (v ∷ [])) c)

module _ {types : List (List ℕ)} {room : ℕ} where
  -- a statement that holds no other
  whole_both : {signs left rest : List Sign} {s t : Stmt} → IsFlat t → StatementStands types signs s rest ↔ ((s ≡ t) × (left ≡ rest)) → StatementReads types (suc room) signs s rest ↔ ((s ≡ t) × (left ≡ rest))
  whole_both {rest = rest} {s = s} flat h = (
    λ w. h.0 w.stands,
    λ b. record { stands = h.1 b; ends = ends_anywhere s rest (ap takes_else b.0 ∙ flat.ends); deep = omega (arith, ap stmt_depth b.0, flat.deep) },
  )

  -- a statement that is made of one
  body_both : (make : Stmt → Stmt) {signs left rest : List Sign} {s : Stmt} → ((y : Stmt) → stmt_depth (make y) ≡ suc (stmt_depth y)) → ((y : Stmt) → takes_else (make y) ≡ takes_else y) →
      StatementStands types signs s rest ↔ BodyThen make types left s rest → StatementReads types (suc room) signs s rest ↔ BodyReads make types room left s rest
  body_both make counts takes h = (
    λ w.
        let b = h.0 w.stands in
        record {
          body = b.body;
          whole = b.whole;
          reads = record { stands = b.stands; ends = λ q e. w.ends (ap takes_else b.whole ∙ (takes b.body ∙ q)) e; deep = omega (arith, w.deep, ap stmt_depth b.whole, counts b.body) };
        },
    λ b. record {
      stands = h.1 (record { body = b.body; whole = b.whole; stands = b.reads.stands });
      ends = λ q e. b.reads.ends (sym (takes b.body) ∙ (sym (ap takes_else b.whole) ∙ q)) e;
      deep = omega (arith, b.reads.deep, ap stmt_depth b.whole, counts b.body);
    },
  )

  -- `if`

  branch_reads : {between rest : List Sign} {body : Stmt} {other : Option Stmt} (x : Exp) → BranchStands types body between other rest → EndsStatement (st.If x body other) rest →
      stmt_depth (st.If x body other) ≤ suc room → BranchReads types room between other rest
  branch_reads {body = body} x no_else e deep = alone (e (takes_else-If_alone x body))
  branch_reads {body = body} x (else_stands t behind rest ends q v) e deep =
      another t behind rest q (record { stands = v; ends = λ h b. e (takes_else-If_else x body t ∙ h) b; deep = omega (arith, deep, stmt_depth-If x body (Some t)) })

  branch_stands : {between rest : List Sign} {body : Stmt} {other : Option Stmt} → EndsStatement body between → BranchReads types room between other rest → BranchStands types body between other rest
  branch_stands e (alone none) = no_else
  branch_stands {body = body} e (another t behind rest q v) = else_stands t behind rest (false_unless_true (takes_else body) (λ h. e h (else_first q))) q v.stands

  if_ends : {between rest : List Sign} {other : Option Stmt} (x : Exp) (body : Stmt) → BranchReads types room between other rest → EndsStatement (st.If x body other) rest
  if_ends x body (alone none) h b = none b
  if_ends x body (another t behind rest q v) h b = v.ends (sym (takes_else-If_else x body t) ∙ h) b

  if_deep : {between rest : List Sign} {other : Option Stmt} (x : Exp) (body : Stmt) → stmt_depth body ≤ room → BranchReads types room between other rest → stmt_depth (st.If x body other) ≤ suc room
  if_deep x body deep (alone none) = omega (arith, deep, stmt_depth-If x body None)
  if_deep x body deep (another t behind rest q v) = omega (arith, deep, v.deep, stmt_depth-If x body (Some t))

  if_both : {signs left rest : List Sign} {s : Stmt} (x : Exp) → StatementStands types signs s rest ↔ BranchesThen types x left s rest →
      StatementReads types (suc room) signs s rest ↔ BranchesRead types room x left s rest
  if_both {rest = rest} x h = (
    λ w.
        let b = h.0 w.stands in
        let ends = subst (λ z. EndsStatement z rest) b.whole w.ends in
        record {
          body = b.body;
          other = b.other;
          between = b.between;
          whole = b.whole;
          reads = record { stands = b.stands; ends = first_ends x b.branch ends; deep = omega (arith, w.deep, ap stmt_depth b.whole, stmt_depth-If x b.body b.other) };
          branch = branch_reads x b.branch ends (omega (arith, w.deep, ap stmt_depth b.whole));
        },
    λ b. record {
      stands = h.1 (record { body = b.body; other = b.other; between = b.between; whole = b.whole; stands = b.reads.stands; branch = branch_stands b.reads.ends b.branch });
      ends = subst (λ z. EndsStatement z rest) (sym b.whole) (if_ends x b.body b.branch);
      deep = omega (arith, ap stmt_depth b.whole, if_deep x b.body b.reads.deep b.branch);
    },
  )

  -- `do`

  do_both : {signs left rest : List Sign} {s : Stmt} → StatementStands types signs s rest ↔ RepeatedThen types left s rest → StatementReads types (suc room) signs s rest ↔ RepeatedReads types room left s rest
  do_both {rest = rest} {s = s} h = (
    λ w.
        let b = h.0 w.stands in
        record {
          body = b.body;
          value = b.value;
          between = b.between;
          whole = b.whole;
          reads = record { stands = b.stands; ends = before_test b.body b.test; deep = omega (arith, w.deep, ap stmt_depth b.whole, stmt_depth-Do b.body b.value) };
          test = b.test;
        },
    λ b. record {
      stands = h.1 (record { body = b.body; value = b.value; between = b.between; whole = b.whole; stands = b.reads.stands; test = b.test });
      ends = ends_anywhere s rest (ap takes_else b.whole ∙ takes_else-Do b.body b.value);
      deep = omega (arith, b.reads.deep, ap stmt_depth b.whole, stmt_depth-Do b.body b.value);
    },
  )

  -- `for` with a declaration first

  variables_both : {signs left rest : List Sign} {s : Stmt} → StatementStands types signs s rest ↔ VariablesThen types left s rest → StatementReads types (suc room) signs s rest ↔ VariablesRead types room left s rest
  variables_both h = (
    λ w.
        let b = h.0 w.stands in
        let first : First = f.Variables b.declaration in
        record {
          declaration = b.declaration;
          inner = b.inner;
          test = b.test;
          step = b.step;
          body = b.body;
          behind = b.behind;
          last = b.last;
          whole = b.whole;
          declared = b.declared;
          low = b.low;
          printed = b.printed;
          steps = b.steps;
          reads = record {
            stands = b.stands;
            ends = λ q e. w.ends (ap takes_else b.whole ∙ (takes_else-For first b.test b.step b.body ∙ q)) e;
            deep = omega (arith, w.deep, ap stmt_depth b.whole, stmt_depth-For first b.test b.step b.body);
          };
        },
    λ b.
        let first : First = f.Variables b.declaration in
        record {
          stands = h.1 (record {
            declaration = b.declaration;
            inner = b.inner;
            test = b.test;
            step = b.step;
            body = b.body;
            behind = b.behind;
            last = b.last;
            whole = b.whole;
            declared = b.declared;
            low = b.low;
            printed = b.printed;
            steps = b.steps;
            stands = b.reads.stands;
          });
          ends = λ q e. b.reads.ends (sym (takes_else-For first b.test b.step b.body) ∙ (sym (ap takes_else b.whole) ∙ q)) e;
          deep = omega (arith, b.reads.deep, ap stmt_depth b.whole, stmt_depth-For first b.test b.step b.body);
        },
  )

  -- a block

  block_both : {signs left rest : List Sign} {s : Stmt} → StatementStands types signs s rest ↔ BlockThen types left s rest → StatementReads types (suc room) signs s rest ↔ BlockReads types room left s rest
  block_both {rest = rest} {s = s} h = (
    λ w. let b = h.0 w.stands in record { xs = b.items; whole = b.whole; reads = record { items = b.stands; deep = omega (arith, w.deep, ap stmt_depth b.whole, stmt_depth-Block b.items) } },
    λ b. record {
      stands = h.1 (record { items = b.xs; whole = b.whole; stands = b.reads.items });
      ends = ends_anywhere s rest (ap takes_else b.whole ∙ takes_else-Block b.xs);
      deep = omega (arith, b.reads.deep, ap stmt_depth b.whole, stmt_depth-Block b.xs);
    },
  )

  pub reads_both : (begun : Start) {signs left rest : List Sign} {s : Stmt} → StatementStarts types signs begun left → StatementReads types (suc room) signs s rest ↔ ReadsOn types room begun left s rest
  reads_both (start.Whole t) h = whole_both (flat_whole h) (statement_both h)
  reads_both (start.If x) h = if_both x (statement_both h)
  reads_both (start.While x) h = body_both (st.While x) (stmt_depth-While x) (takes_else-While x) (statement_both h)
  reads_both start.Do h = do_both (statement_both h)
  reads_both (start.For first test step) h =
      body_both (st.For (first_of first) test step) (stmt_depth-For (first_of first) test step) (takes_else-For (first_of first) test step) (statement_both h)
  reads_both start.ForVariables h = variables_both (statement_both h)
  reads_both (start.Switch x) h = body_both (st.Switch x) (stmt_depth-Switch x) (takes_else-Switch x) (statement_both h)
  reads_both (start.Case x) h = body_both (st.Case x) (stmt_depth-Case x) (takes_else-Case x) (statement_both h)
  reads_both start.Default h = body_both st.Default stmt_depth-Default takes_else-Default (statement_both h)
  reads_both (start.Label name) h = body_both (st.Label name) (stmt_depth-Label name) (takes_else-Label name) (statement_both h)
  reads_both start.Block h = block_both (statement_both h)
