-- A `for` that declares variables, part by part.
use Rattle.std.proofs.Common.{◌≡◌, ◌∙◌, ℕ, List, [], ◌∷◌, ◌++◌, sym, ap, subst, refl}
use Rattle.std.specs.Prelude.{Option, Some, None}
use Rattle.po_base.specs.declared.token.Token.{Token}
use Rattle.po_tree.specs.declared.expression.Exp.{Exp}
use Rattle.po_tree.specs.declared.declaration.Decl.{Decl}
use Rattle.po_tree.specs.declared.statement.First.TheVariants as f
use Rattle.po_tree.specs.declared.statement.Stmt.{Stmt}
use Rattle.po_tree.specs.declared.statement.Stmt.TheVariants as st
use Rattle.po_tree.specs.Signs.{Sign}
use Rattle.po_exp_parts.specs.Places.{signs_between}
use Rattle.po_decl_laws.proofs.OneDeclaration.{one_declared}
use Rattle.po_decl_steps.specs.Standing.{DeclarationStands}
use Rattle.po_fun_parts.specs.Heads.{StepsStand}
use Rattle.po_fun_parts.proofs.Parentheses.{one_steps}
use Rattle.po_stmt_laws.specs.Reading.{StatementReads}
use Rattle.po_stmt_laws.specs.Continuing.{BodyReads, VariablesRead}
use Rattle.po_stmt_read.specs.Reads.{IsRead, LoopReads}

module _ {types : List (List ℕ)} {room : ℕ} {signs left : List Sign} {s : Stmt} where
  pub without_declaration : ((d : Decl) (rest : List Sign) → DeclarationStands types signs d rest → ⊥) → VariablesRead types room signs s left → ⊥
  without_declaration none v = none v.declaration v.behind (record { behind = v.inner; formed = v.declared; nested = v.low; printed = v.printed })

  -- what is read behind the declaration

  steps_there : {d : Decl} {between : List Sign} → (h : DeclarationStands types signs d between) → (v : VariablesRead types room signs s left) → StepsStand h.behind between v.test v.step v.last
  steps_there {between = between} h v =
      let c = one_declared v.declared h.formed v.low h.nested v.behind between (sym v.printed ∙ h.printed) in
      subst (λ z. StepsStand h.behind z v.test v.step v.last) c.left_same (subst (λ z. StepsStand z v.behind v.test v.step v.last) c.types_same v.steps)

  body_there : {d : Decl} {between : List Sign} → (h : DeclarationStands types signs d between) → (v : VariablesRead types room signs s left) → StatementReads h.behind room v.last v.body left
  body_there {between = between} h v =
      let c = one_declared v.declared h.formed v.low h.nested v.behind between (sym v.printed ∙ h.printed) in
      subst (λ z. StatementReads z room v.last v.body left) c.types_same v.reads

  pub without_loop : {d : Decl} {between : List Sign} → (h : DeclarationStands types signs d between) → ((t : Stmt) (rest : List Sign) → LoopReads h.behind room d between t rest → ⊥) →
      VariablesRead types room signs s left → ⊥
  without_loop {d = d} h none v = none (st.For (f.Variables d) v.test v.step v.body) left (record {
    test = v.test;
    step = v.step;
    last = v.last;
    body = v.body;
    whole = refl;
    steps = steps_there h v;
    reads = body_there h v;
  })

-- a `for` whose declaration stands there, and what is read behind it
pub variables_read : {types : List (List ℕ)} {room : ℕ} {signs between left : List Sign} {d : Decl} {s : Stmt} → (h : DeclarationStands types signs d between) →
    LoopReads h.behind room d between s left → VariablesRead types room signs s left
variables_read {between = between} {d = d} h w = record {
  declaration = d;
  inner = h.behind;
  test = w.test;
  step = w.step;
  body = w.body;
  behind = between;
  last = w.last;
  whole = w.whole;
  declared = h.formed;
  low = h.nested;
  printed = h.printed;
  steps = w.steps;
  reads = w.reads;
}

-- the answers of the reader behind the declaration are those of the whole
pub variables_answer : (types : List (List ℕ)) (room : ℕ) (tokens : List Token) (at behind to : ℕ) (d : Decl) → (h : DeclarationStands types (signs_between tokens at to) d (signs_between tokens behind to)) →
    (found : Option (Stmt × ℕ)) → IsRead (LoopReads h.behind room d) tokens behind to found → IsRead (VariablesRead types room) tokens at to found
variables_answer types room tokens at behind to d h None none = λ s left v. without_loop h none v
variables_answer types room tokens at behind to d h (Some p) w = variables_read h w

-- where the steps stand, a body behind them is one of the loop, and the only one

module _ {types : List (List ℕ)} {room : ℕ} {d : Decl} {signs last left : List Sign} {test step : Option Exp} {s : Stmt} where
  loop_of : StepsStand types signs test step last → BodyReads (st.For (f.Variables d) test step) types room last s left → LoopReads types room d signs s left
  loop_of w b = record { test = test; step = step; last = last; body = b.body; whole = b.whole; steps = w; reads = b.reads }

  loop_is : StepsStand types signs test step last → LoopReads types room d signs s left → BodyReads (st.For (f.Variables d) test step) types room last s left
  loop_is w v =
      let c = one_steps w v.steps in
      record {
        body = v.body;
        whole = v.whole ∙ (ap (λ z. st.For (f.Variables d) z v.step v.body) (sym c.0) ∙ ap (λ z. st.For (f.Variables d) test z v.body) (sym c.1));
        reads = subst (λ z. StatementReads types room z v.body left) (sym c.2) v.reads;
      }

pub loop_answer : (types : List (List ℕ)) (room : ℕ) (tokens : List Token) (at behind to : ℕ) (d : Decl) (test step : Option Exp) → StepsStand types (signs_between tokens at to) test step (signs_between tokens behind to) →
    (found : Option (Stmt × ℕ)) → IsRead (BodyReads (st.For (f.Variables d) test step) types room) tokens behind to found → IsRead (LoopReads types room d) tokens at to found
loop_answer types room tokens at behind to d test step w None none = λ s left v. none s left (loop_is w v)
loop_answer types room tokens at behind to d test step w (Some p) b = loop_of w b
