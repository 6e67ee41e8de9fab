-- What the second of two statements at the front of the same signs is, but for the statements in it.
use Rattle.std.proofs.Common.{◌≡◌, ◌∙◌, ℕ, ◌≤◌, List, [], ◌∷◌, ◌++◌, refl, sym, ap, subst, arith, append_assoc, codes, true≢false}
use Rattle.std.specs.Prelude.{Option, Some, None}
use Rattle.po_tree.specs.declared.expression.Exp.{Exp}
use Rattle.po_tree.specs.declared.declaration.Decl.{Decl}
use Rattle.po_tree.specs.declared.statement.First.{First}
use Rattle.po_tree.specs.declared.statement.First.TheVariants as f
use Rattle.po_tree.specs.declared.statement.Stmt.{Stmt}
use Rattle.po_tree.specs.declared.statement.Stmt.TheVariants as st
use Rattle.po_tree.specs.Signs.{Sign, word, semicolon}
use Rattle.po_tree.specs.Printing.{flat, flat_first, flat_decl, flat_stmt}
use Rattle.po_tree.specs.Heights.{stmt_height, first_height, or_none}
use Rattle.po_tree.specs.Expressions.{Formed}
use Rattle.po_tree.specs.Declarations.{Declared}
use Rattle.po_tree.specs.Statements.{takes_else, IsOptional, IsFirst, nothing, value, variables, IsStatement}
use Rattle.po_exp_parts.specs.Places.{Begins}
use Rattle.po_exp_parts.proofs.SameSigns.{same_word}
use Rattle.po_decl_laws.proofs.Behind.{tails}
use Rattle.po_decl_laws.proofs.One.{Same}
use Rattle.po_decl_laws.proofs.OneDeclaration.{one_declared}
use Rattle.po_fun_laws.specs.Endings.{EndsStatement}
use Rattle.po_fun_laws.proofs.Layers.{else_behind, steps_behind, if_before, while_before, for_before, switch_before, case_before, default_before, label_before, stmt_height-If, stmt_height-While, stmt_height-For, stmt_height-Switch, stmt_height-Case, stmt_height-Default, stmt_height-Label, takes_else-If_alone, takes_else-If_else, takes_else-While, takes_else-For, takes_else-Switch, takes_else-Case, takes_else-Default, takes_else-Label}
use Rattle.po_fun_laws.proofs.FirstSigns.{by_semicolon, otherwise, kind_first, expression_kind, BeginsDeclaration, begins_kind, declared_begins, expression_apart}
use Rattle.po_fun_laws.proofs.Rules.{WithStatement, IfParts, OtherBranch, alone, another, ForParts, no_colon}
use Rattle.po_fun_laws.proofs.OneExpression.{IsStop, before_semicolon, before_closing, before_colon, formed_reads, one_expression, one_optional}

-- t is made of a statement whose tokens stand behind, with us from there on
pub record Continued (make : Stmt → Stmt) (types : List (List ℕ)) (t : Stmt) (us vs : List Sign) : Type 0 where
  pub body : Stmt
  pub parts : t ≡ make body
  pub inner : IsStatement types body
  pub nested : stmt_height body ≤ 256
  pub printed : us ≡ flat_stmt body ++ vs
  pub ends : EndsStatement body vs

-- what begins with an expression, and ends with a statement

with_statement : {types : List (List ℕ)} {t : Stmt} {m : ℕ} {x : Exp} {a : Sign} {us vs : List Sign} (make : Exp → Stmt → Stmt) → IsStop a →
    ((y : Exp) (z : Stmt) → stmt_height z ≤ stmt_height (make y z)) → ((y : Exp) (z : Stmt) → takes_else (make y z) ≡ takes_else z) →
    Formed types m x → (p : WithStatement make types t) → flat x ++ (a ∷ us) ≡ flat p.value ++ (a ∷ (flat_stmt p.body ++ vs)) →
    stmt_height t ≤ 256 → EndsStatement t vs → Continued (make x) types t us vs
with_statement make stop higher takes w p q low f =
    let c = one_expression stop stop w p.formed q in record {
      body = p.body;
      parts = p.parts ∙ ap (λ z. make z p.body) (sym c.0);
      inner = p.inner;
      nested = omega (arith, low, ap stmt_height p.parts, higher p.value p.body);
      printed = tails c.1;
      ends = λ h. f (ap takes_else p.parts ∙ takes p.value p.body ∙ h);
    }

pub while_again : {types : List (List ℕ)} {t : Stmt} {m : ℕ} {x : Exp} (y : Stmt) (us vs : List Sign) → Formed types m x → WithStatement st.While types t → flat_stmt (st.While x y) ++ us ≡ flat_stmt t ++ vs →
    stmt_height t ≤ 256 → EndsStatement t vs → Continued (st.While x) types t (flat_stmt y ++ us) vs
while_again {x = x} y us vs w p q low f =
    with_statement st.While before_closing (λ x y. omega (arith, stmt_height-While x y)) takes_else-While w p
    (tails (tails (sym (while_before x y us) ∙ q ∙ ap (λ z. flat_stmt z ++ vs) p.parts ∙ while_before p.value p.body vs))) low f

pub switch_again : {types : List (List ℕ)} {t : Stmt} {m : ℕ} {x : Exp} (y : Stmt) (us vs : List Sign) → Formed types m x → WithStatement st.Switch types t → flat_stmt (st.Switch x y) ++ us ≡ flat_stmt t ++ vs →
    stmt_height t ≤ 256 → EndsStatement t vs → Continued (st.Switch x) types t (flat_stmt y ++ us) vs
switch_again {x = x} y us vs w p q low f =
    with_statement st.Switch before_closing (λ x y. omega (arith, stmt_height-Switch x y)) takes_else-Switch w p
    (tails (tails (sym (switch_before x y us) ∙ q ∙ ap (λ z. flat_stmt z ++ vs) p.parts ∙ switch_before p.value p.body vs))) low f

pub case_again : {types : List (List ℕ)} {t : Stmt} {m : ℕ} {x : Exp} (y : Stmt) (us vs : List Sign) → Formed types m x → WithStatement st.Case types t → flat_stmt (st.Case x y) ++ us ≡ flat_stmt t ++ vs →
    stmt_height t ≤ 256 → EndsStatement t vs → Continued (st.Case x) types t (flat_stmt y ++ us) vs
case_again {x = x} y us vs w p q low f =
    with_statement st.Case before_colon (λ x y. omega (arith, stmt_height-Case x y)) takes_else-Case w p
    (tails (sym (case_before x y us) ∙ q ∙ ap (λ z. flat_stmt z ++ vs) p.parts ∙ case_before p.value p.body vs)) low f

pub default_again : {types : List (List ℕ)} {t : Stmt} (y : Stmt) (us vs : List Sign) → (p : (z : Stmt) × (t ≡ st.Default z) × IsStatement types z) → flat_stmt (st.Default y) ++ us ≡ flat_stmt t ++ vs →
    stmt_height t ≤ 256 → EndsStatement t vs → Continued st.Default types t (flat_stmt y ++ us) vs
default_again y us vs p q low f = record {
  body = p.0;
  parts = p.1;
  inner = p.2;
  nested = omega (arith, low, ap stmt_height p.1, stmt_height-Default p.0);
  printed = tails (tails (sym (default_before y us) ∙ q ∙ ap (λ z. flat_stmt z ++ vs) p.1 ∙ default_before p.0 vs));
  ends = λ h. f (ap takes_else p.1 ∙ takes_else-Default p.0 ∙ h);
}

pub label_again : {types : List (List ℕ)} {t : Stmt} {name : List ℕ} (y : Stmt) (us vs : List Sign) → (p : (other : List ℕ) × (z : Stmt) × (t ≡ st.Label other z) × IsStatement types z) →
    flat_stmt (st.Label name y) ++ us ≡ flat_stmt t ++ vs → stmt_height t ≤ 256 → EndsStatement t vs → Continued (st.Label name) types t (flat_stmt y ++ us) vs
label_again {name = name} y us vs p q low f =
    let c = same_word (sym (label_before name y us) ∙ q ∙ ap (λ z. flat_stmt z ++ vs) p.2 ∙ label_before p.0 p.1 vs) in record {
      body = p.1;
      parts = p.2 ∙ ap (λ z. st.Label z p.1) (sym c.0);
      inner = p.3;
      nested = omega (arith, low, ap stmt_height p.2, stmt_height-Label p.0 p.1);
      printed = tails c.1;
      ends = λ h. f (ap takes_else p.2 ∙ takes_else-Label p.0 p.1 ∙ h);
    }

-- the first part of a `for`

first_apart : {types inside : List (List ℕ)} {m : ℕ} {x : Exp} {d : Decl} (us vs : List Sign) → Formed types m x → Declared types d inside → flat x ++ (semicolon ∷ us) ≡ flat_decl d ++ vs → ⊥
first_apart {types = types} us vs w v q = expression_apart (formed_reads (semicolon ∷ us) w) (subst (BeginsDeclaration types) (sym q) (declared_begins vs v))

not_empty : {ts us : List Sign} → kind_first ts ≡ otherwise → semicolon ∷ us ≡ ts → ⊥
not_empty h q = let kinds : by_semicolon ≡ otherwise = ap kind_first q ∙ h in cc

value_kind : {types : List (List ℕ)} {m : ℕ} {x : Exp} (us : List Sign) → Formed types m x → kind_first (flat x ++ (semicolon ∷ us)) ≡ otherwise
value_kind us w = expression_kind (formed_reads (semicolon ∷ us) w) (no_colon us)

value_before : (x : Exp) (us : List Sign) → flat_first (f.Value x) ++ us ≡ flat x ++ (semicolon ∷ us)
value_before x us = append_assoc (flat x) (semicolon ∷ []) us

-- of two first parts one is the other, with the typedef names behind it
one_first : {types inside after : List (List ℕ)} {x y : First} (us vs : List Sign) → IsFirst types x inside → IsFirst types y after → first_height x ≤ 256 → first_height y ≤ 256 →
    flat_first x ++ us ≡ flat_first y ++ vs → Same x y inside after us vs
one_first us vs nothing nothing low high q = record { trees_same = refl; types_same = refl; left_same = tails q }
one_first us vs nothing (value m y w) low high q = absurd (not_empty (value_kind vs w) (q ∙ value_before y vs))
one_first us vs nothing (variables d after w) low high q = absurd (not_empty (begins_kind (declared_begins vs w)) q)
one_first us vs (value m x w) nothing low high q = absurd (not_empty (value_kind us w) (sym q ∙ value_before x us))
one_first us vs (value m x w) (value n y v) low high q =
    let c = one_expression before_semicolon before_semicolon w v (sym (value_before x us) ∙ q ∙ value_before y vs) in record { trees_same = ap f.Value c.0; types_same = refl; left_same = tails c.1 }
one_first us vs (value m x w) (variables d after v) low high q = absurd (first_apart us vs w v (sym (value_before x us) ∙ q))
one_first us vs (variables d inside w) nothing low high q = absurd (not_empty (begins_kind (declared_begins us w)) (sym q))
one_first us vs (variables d inside w) (value m y v) low high q = absurd (first_apart vs us v w (sym (value_before y vs) ∙ sym q))
one_first us vs (variables d inside w) (variables e after v) low high q =
    let c = one_declared w v low high us vs q in record { trees_same = ap f.Variables c.trees_same; types_same = c.types_same; left_same = c.left_same }

pub for_again : {types inside : List (List ℕ)} {t : Stmt} {x : First} {test step : Option Exp} (y : Stmt) (us vs : List Sign) → IsFirst types x inside → IsOptional inside test → IsOptional inside step →
    ForParts types t → flat_stmt (st.For x test step y) ++ us ≡ flat_stmt t ++ vs → first_height x ≤ 256 → stmt_height t ≤ 256 → EndsStatement t vs → Continued (st.For x test step) inside t (flat_stmt y ++ us) vs
for_again {inside = inside} {x = x} {test = test} {step = step} y us vs u v w p q low high f =
    let h = stmt_height-For p.first p.test p.step p.body in
    let a = one_first (steps_behind test step y us) (steps_behind p.test p.step p.body vs) u p.begins low (omega (arith, high, ap stmt_height p.parts, h))
    (tails (tails (sym (for_before x test step y us) ∙ q ∙ ap (λ z. flat_stmt z ++ vs) p.parts ∙ for_before p.first p.test p.step p.body vs))) in
    let b = one_optional before_semicolon v (subst (λ z. IsOptional z p.test) (sym a.types_same) p.tested) a.left_same in
    let c = one_optional before_closing w (subst (λ z. IsOptional z p.step) (sym a.types_same) p.stepped) (tails b.1) in record {
      body = p.body;
      parts = p.parts ∙ sym (ap (λ z. st.For z test step p.body) a.trees_same ∙ ap (λ z. st.For p.first z step p.body) b.0 ∙ ap (λ z. st.For p.first p.test z p.body) c.0);
      inner = subst (λ z. IsStatement z p.body) (sym a.types_same) p.inner;
      nested = omega (arith, high, ap stmt_height p.parts, h);
      printed = tails c.1;
      ends = λ e. f (ap takes_else p.parts ∙ takes_else-For p.first p.test p.step p.body ∙ e);
    }

-- `if`

pub record IfContinued (types : List (List ℕ)) (t : Stmt) (x : Exp) (us vs : List Sign) : Type 0 where
  pub body : Stmt
  pub other : Option Stmt
  pub parts : t ≡ st.If x body other
  pub inner : IsStatement types body
  pub branch : OtherBranch types body other
  pub nested : stmt_height body ≤ 256
  pub other_nested : or_none stmt_height other ≤ 256
  pub printed : us ≡ flat_stmt body ++ else_behind other vs
  pub ends : EndsStatement body (else_behind other vs)
  pub other_ends : EndsStatement (st.If x body other) vs

if_ends : {types : List (List ℕ)} {y : Stmt} {other : Option Stmt} (x : Exp) (vs : List Sign) → OtherBranch types y other → EndsStatement (st.If x y other) vs → EndsStatement y (else_behind other vs)
if_ends {y = y} x vs alone f h = f (takes_else-If_alone x y)
if_ends x vs (another z ends w) f h = absurd (true≢false (sym h ∙ ends))

pub if_again : {types : List (List ℕ)} {t : Stmt} {m : ℕ} {x : Exp} (y : Stmt) (other : Option Stmt) (us vs : List Sign) → Formed types m x → IfParts types t → flat_stmt (st.If x y other) ++ us ≡ flat_stmt t ++ vs →
    stmt_height t ≤ 256 → EndsStatement t vs → IfContinued types t x (flat_stmt y ++ else_behind other us) vs
if_again {x = x} y other us vs w p q low f =
    let c = one_expression before_closing before_closing w p.formed (tails (tails (sym (if_before x y other us) ∙ q ∙ ap (λ z. flat_stmt z ++ vs) p.parts ∙ if_before p.value p.body p.other vs))) in
    let parts = p.parts ∙ ap (λ z. st.If z p.body p.other) (sym c.0) in
    let h = stmt_height-If x p.body p.other in
    let ends : EndsStatement (st.If x p.body p.other) vs = λ h. f (ap takes_else parts ∙ h) in record {
      body = p.body;
      other = p.other;
      parts = parts;
      inner = p.inner;
      branch = p.branch;
      nested = omega (arith, low, ap stmt_height parts, h);
      other_nested = omega (arith, low, ap stmt_height parts, h);
      printed = tails c.1;
      ends = if_ends x vs p.branch ends;
      other_ends = ends;
    }

-- where no `else` stands there is no other branch
pub no_branch : {types : List (List ℕ)} {y : Stmt} {other : Option Stmt} (us vs : List Sign) → OtherBranch types y other → (Begins (word (codes "else")) us → ⊥) → us ≡ else_behind other vs → (None ≡ other) × (us ≡ vs)
no_branch us vs alone none q = (refl, q)
no_branch us vs (another z ends w) none q = absurd (none (subst (Begins (word (codes "else"))) (sym q) refl))

-- where one stands there is
pub branch_again : {types : List (List ℕ)} {x : Exp} {y : Stmt} {other : Option Stmt} (us vs : List Sign) → OtherBranch types y other → EndsStatement (st.If x y other) vs → or_none stmt_height other ≤ 256 →
    word (codes "else") ∷ us ≡ else_behind other vs → Continued (λ z. st.If x y (Some z)) types (st.If x y other) us vs
branch_again {x = x} {y = y} us vs alone f low q = absurd (f (takes_else-If_alone x y) (subst (Begins (word (codes "else"))) q refl))
branch_again {x = x} {y = y} us vs (another z ends w) f low q = record {
  body = z;
  parts = refl;
  inner = w;
  nested = low;
  printed = tails q;
  ends = λ h. f (takes_else-If_else x y z ∙ h);
}
