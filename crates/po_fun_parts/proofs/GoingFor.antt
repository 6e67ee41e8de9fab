-- What stands behind the start of a `for` goes on with it.
use Rattle.std.proofs.Common.{◌≡◌, ◌∙◌, ◌≤◌, ℕ, List, [], ◌∷◌, ◌++◌, max, refl, sym, ap, subst, arith, codes, append_assoc}
use Rattle.std.specs.Prelude.{Option, Some, None}
use Rattle.po_tree.specs.declared.expression.Exp.{Exp}
use Rattle.po_tree.specs.declared.declaration.Decl.{Decl}
use Rattle.po_tree.specs.declared.statement.First.{First}
use Rattle.po_tree.specs.declared.statement.First.TheVariants as f
use Rattle.po_tree.specs.declared.statement.Stmt.{Stmt}
use Rattle.po_tree.specs.declared.statement.Stmt.TheVariants as st
use Rattle.po_tree.specs.Signs.{Sign, word, opening, closing, semicolon}
use Rattle.po_tree.specs.Printing.{flat, flat_first, flat_decl, flat_stmt, optional}
use Rattle.po_tree.specs.Heights.{height, stmt_height, decl_height, first_height, or_none}
use Rattle.po_tree.specs.Declarations.{Declared}
use Rattle.po_tree.specs.Statements.{IsOptional, IsFirst, nothing, value, variables, IsStatement}
use Rattle.po_decl_laws.proofs.Behind.{tails}
use Rattle.po_fun_laws.proofs.FirstSigns.{by_semicolon, otherwise, kind_first, BeginsDeclaration, begins_kind, declared_begins, expression_apart}
use Rattle.po_fun_laws.proofs.Layers.{steps_behind, for_before, stmt_height-For}
use Rattle.po_fun_laws.proofs.Rules.{ForParts, consists_there}
use Rattle.po_fun_laws.proofs.OneExpression.{before_semicolon, formed_reads}
use Rattle.po_exp_read.specs.Longest.{StandsBefore}
use Rattle.po_fun_parts.specs.Stops.{OptionalStands, alone, behind_value}
use Rattle.po_fun_parts.specs.Heads.{StepsStand, ForStands, ForOpens}
use Rattle.po_fun_parts.specs.Standing.{StatementStands, BodyThen, VariablesThen, first_of}
use Rattle.po_fun_parts.proofs.Ending.{one_optional_value, optional_stands}
use Rattle.po_fun_parts.proofs.Parentheses.{for_first, one_steps}

-- no expression with a semicolon behind it, nor a semicolon alone, stands where a declaration does
pub optional_apart : {types inside : List (List ℕ)} {signs us : List Sign} {x : Option Exp} {d : Decl} (vs : List Sign) → OptionalStands types semicolon signs x us → Declared types d inside → signs ≡ flat_decl d ++ vs → ⊥
optional_apart vs (alone us q) v r = let kinds : by_semicolon ≡ otherwise = ap kind_first (sym q ∙ r) ∙ begins_kind (declared_begins vs v) in cc
optional_apart {types = types} vs (behind_value x us w) v r =
    expression_apart (formed_reads (semicolon ∷ us) w.formed.formed) (subst (BeginsDeclaration types) (sym r ∙ w.printed) (declared_begins vs v))

-- the first part of a `for` whose head has this expression, or none
record SameFirst (types inside : List (List ℕ)) (x : Option Exp) (first : First) (left us : List Sign) : Type 0 where
  first_same : first ≡ first_of x
  types_same : inside ≡ types
  left_same : left ≡ us

first_same_as : {types inside : List (List ℕ)} {signs behind : List Sign} {x : Option Exp} {first : First} (us : List Sign) → OptionalStands types semicolon signs x behind → IsFirst types first inside →
    first_height first ≤ 256 → signs ≡ flat_first first ++ us → SameFirst types inside x first behind us
first_same_as us h nothing low q =
    let c = one_optional_value before_semicolon h (alone us q) in record { first_same = ap first_of (sym c.0); types_same = refl; left_same = c.1 }
first_same_as {signs = signs} us h (value m y w) low q =
    let printed : signs ≡ flat y ++ (semicolon ∷ us) = q ∙ append_assoc (flat y) (semicolon ∷ []) us in
    let c = one_optional_value before_semicolon h (behind_value y us (record { formed = record { level_of = m; formed = w; nested = low }; printed = printed })) in
    record { first_same = ap first_of (sym c.0); types_same = refl; left_same = c.1 }
first_same_as us h (variables d inner v) low q = absurd (optional_apart us h v q)

pub steps_there : {inside : List (List ℕ)} {test step : Option Exp} (s : Stmt) (us : List Sign) → IsOptional inside test → IsOptional inside step → or_none height test ≤ 256 → or_none height step ≤ 256 →
    StepsStand inside (steps_behind test step s us) test step (flat_stmt s ++ us)
steps_there {inside = inside} {test = test} {step = step} s us v w low high =
    let behind : List Sign = optional flat step ++ (closing ∷ (flat_stmt s ++ us)) in
    record {
      between = behind;
      tested = optional_stands semicolon (optional flat test ++ (semicolon ∷ behind)) behind v low refl;
      stepped = optional_stands closing behind (flat_stmt s ++ us) w high refl;
    }

module _ {types : List (List ℕ)} where
  for_tokens : {ts rest : List Sign} {s : Stmt} → StatementStands types (word (codes "for") ∷ ts) s rest → (p : ForParts types s) →
      ts ≡ opening ∷ (flat_first p.first ++ steps_behind p.test p.step p.body rest)
  for_tokens {rest = rest} w p = tails (w.printed ∙ ap (λ z. flat_stmt z ++ rest) p.parts ∙ for_before p.first p.test p.step p.body rest)

  pub for_on : {ts left rest : List Sign} {s : Stmt} {first test step : Option Exp} → ForStands types ts first test step left → StatementStands types (word (codes "for") ∷ ts) s rest →
      BodyThen (st.For (first_of first) test step) types left s rest
  for_on {left = left} {rest = rest} {first = first} {test = test} {step = step} h w =
      let p : ForParts types _ = consists_there rest w.formed w.printed refl in
      let high = stmt_height-For p.first p.test p.step p.body in
      let a = first_same_as (steps_behind p.test p.step p.body rest) h.begins p.begins (omega (arith, w.nested, ap stmt_height p.parts, high)) (tails (sym h.opens ∙ for_tokens w p)) in
      let there = steps_there p.body rest (subst (λ z. IsOptional z p.test) a.types_same p.tested) (subst (λ z. IsOptional z p.step) a.types_same p.stepped)
      (omega (arith, w.nested, ap stmt_height p.parts, high)) (omega (arith, w.nested, ap stmt_height p.parts, high)) in
      let c = one_steps h.steps (subst (λ z. StepsStand types z p.test p.step (flat_stmt p.body ++ rest)) (sym a.left_same) there) in
      record {
        body = p.body;
        whole = p.parts ∙ (ap (λ z. st.For z p.test p.step p.body) a.first_same ∙ (ap (λ z. st.For (first_of first) z p.step p.body) (sym c.0) ∙ ap (λ z. st.For (first_of first) test z p.body) (sym c.1)));
        stands = record {
          formed = subst (λ z. IsStatement z p.body) a.types_same p.inner;
          nested = omega (arith, w.nested, ap stmt_height p.parts, high);
          printed = c.2;
        };
      }

  -- with a declaration first
  variables_with : {left rest : List Sign} {s : Stmt} {first : First} {inside : List (List ℕ)} {test step : Option Exp} {body : Stmt} →
      ((x : Option Exp) (us : List Sign) → OptionalStands types semicolon left x us → ⊥) → IsFirst types first inside → IsOptional inside test → IsOptional inside step → IsStatement inside body →
      s ≡ st.For first test step body → stmt_height (st.For first test step body) ≤ 256 → left ≡ flat_first first ++ steps_behind test step body rest → VariablesThen types left s rest
  variables_with none nothing t u b q low r = absurd (none None _ (alone _ r))
  variables_with {first = first} {test = test} {step = step} {body = body} none (value m y w) t u b q low r =
      absurd (none (Some y) _ (behind_value y _ (record {
        formed = record { level_of = m; formed = w; nested = omega (arith, low, stmt_height-For first test step body) };
        printed = r ∙ append_assoc (flat y) (semicolon ∷ []) _;
      })))
  variables_with {rest = rest} {first = first} {test = test} {step = step} {body = body} none (variables d inside v) t u b q low r =
      let high = stmt_height-For first test step body in record {
        declaration = d;
        inner = inside;
        test = test;
        step = step;
        body = body;
        behind = steps_behind test step body rest;
        last = flat_stmt body ++ rest;
        whole = q;
        declared = v;
        low = omega (arith, low, high);
        printed = r;
        steps = steps_there body rest t u (omega (arith, low, high)) (omega (arith, low, high));
        stands = record { formed = b; nested = omega (arith, low, high); printed = refl };
      }

  pub variables_on : {ts left rest : List Sign} {s : Stmt} → ForOpens types ts left → StatementStands types (word (codes "for") ∷ ts) s rest → VariablesThen types left s rest
  variables_on {rest = rest} h w =
      let p : ForParts types _ = consists_there rest w.formed w.printed refl in
      variables_with h.others p.begins p.tested p.stepped p.inner p.parts (subst (λ z. stmt_height z ≤ 256) p.parts w.nested) (tails (sym h.opens ∙ for_tokens w p))
