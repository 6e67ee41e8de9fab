-- The rules can be met: the graphs of `return a;`, of `v&&(v=0)` and of `int f(int a){return a;}`.
use Rattle.std.proofs.Common.{◌≡◌, ℕ, zero, suc, ◌+◌, List, [], ◌∷◌, ◌++◌, Option, Some, None, Bool, false, refl, sym, ap, ◌∙◌}
use Rattle.std.specs.Prelude.{pos}
use Rattle.po_base.specs.declared.operand.Opnd.TheVariants as o
use Rattle.po_base.specs.declared.operators.Op.TheVariants as op
use Rattle.po_ir.specs.declared.instr.Instr.TheVariants as ins
use Rattle.po_ir.specs.declared.graph.Node.{Node}
use Rattle.po_ir.specs.declared.graph.Reg.{Reg as Register}
use Rattle.po_tree.specs.declared.expression.Exp.{Exp, out-Exp, out-roll-Exp, fold-roll-Exp}
use Rattle.po_tree.specs.declared.expression.Exp.TheVariants as e
use Rattle.po_tree.specs.declared.expression.Exp.TheOpen.{Exp-F}
use Rattle.po_tree.specs.declared.statement.Stmt.TheOpen.{Stmt-F}
use Rattle.po_lowering.specs.declared.var.Var.TheVariants as var
use Rattle.po_lowering.specs.Places.{Place, skip, next, behind}
use Rattle.po_lowering.specs.Typed.{Typed, type_at, type_of, conversion_of, spot_at}
use Rattle.po_lowering.specs.Types.{register_type}
use Rattle.po_lowering.specs.Temporaries.{State, At, ends, follows, IsFree, new, node, reg, register, to, put, fresh, temporary}
use Rattle.po_lowering.specs.Conversions.{nothing as no_change, change, unchanged, tested}
use Rattle.po_lowering.specs.Naming.{Scope, named, variable, found, register_of, register_named, as_register, assigned, assigning, Use}
use Rattle.po_lowering.specs.Expressions.{one_or_zero, Value, number, register_name, and_value, set_register, operand, Condition, and_then, in_parens, test}
use Rattle.po_lowering.specs.Statements.{Around, Runs, return_value}

out-Var : (name : List ℕ) → out-Exp (e.Var name) ≡ Exp-F.Var name
out-Var name = ap out-Exp (sym (e.rolls-Var name)) ∙ out-roll-Exp (Exp-F.Var name)

out-Num : (text : List ℕ) → out-Exp (e.Num text) ≡ Exp-F.Num text
out-Num text = ap out-Exp (sym (e.rolls-Num text)) ∙ out-roll-Exp (Exp-F.Num text)

out-Paren : (x : Exp) → out-Exp (e.Paren x) ≡ Exp-F.Paren x
out-Paren x = ap out-Exp (sym (e.rolls-Paren x)) ∙ out-roll-Exp (Exp-F.Paren x)

out-Set : (x y : Exp) → out-Exp (e.Assign None x y) ≡ Exp-F.Assign None x y
out-Set x y = ap out-Exp (sym (e.rolls-Assign None x y)) ∙ out-roll-Exp (Exp-F.Assign None x y)

assigned-Var : (is_one : List ℕ → Bool) (name : List ℕ) → assigned is_one (e.Var name) ≡ record { is = Some name; does = false }
unfolding assigned
assigned-Var is_one name = ap (assigned is_one) (sym (e.rolls-Var name)) ∙
    fold-roll-Exp Use Bool Bool Bool Bool Bool Bool (assigning is_one) (λ _. false) (λ _. false) (λ _. false) (λ _. false) (λ _. false) (λ _. false) (Exp-F.Var name)

-- a name that is in scope as a register
module _ (f : Typed) (c : Scope) (name : List ℕ) (r : ℕ) (in_scope : found name c ≡ Some (var.Reg (reg r))) where
  register_is : register_of c (e.Var name) ≡ Some r
  register_is = ap (register_named c) (ap (λ (u : Use). u.is) (assigned-Var (λ other. false) name)) ∙ ap as_register in_scope

  named_so : (p : Place) → named f c name p ≡ variable (var.Reg (reg r))
  named_so p = rw in_scope refl

  -- its value has no nodes
  variable_value : (ns : List Node) (s : State) (a : ℕ) (p : Place) → Value f c ns s a (out-Exp (e.Var name)) p (register r) a s
  variable_value ns s a p = rw (out-Var name) (register_name (named_so p))

  -- `return v;`, where v has the result's type, is one Return
  pub returned : (ns : List Node) (l : Around) (s : State) (a : ℕ) (p : Place) → change f (type_of f (e.Var name) (skip 1 p)) (conversion_of f (e.Var name) (skip 1 p)) (register r) ≡ no_change →
      At ns a (ins.Return (Some (register r))) (spot_at f p) → Runs f ns l c s a (Stmt-F.Return (Some (e.Var name))) p (a + 1) (fresh s)
  returned ns l s a p h j = return_value (operand (variable_value ns (fresh s) a (skip 1 p)) (unchanged _ _ _ _ _ _ h)) j

abbrev name_or : Option Register → Option (List ℕ)
name_or None = None
name_or (Some r) = r.name

-- `v&&(v=0)`, where v is the only register: If, Const, If, and then Const 1, Jump, Const 0 into one temporary
module _ (f : Typed) (c : Scope) (name zeros : List ℕ) (v : Register) (named_v : v.name ≡ Some name) (in_scope : found name c ≡ Some (var.Reg (reg 0))) (p : Place) where
  abbrev inner : Exp
  inner = e.Assign None (e.Var name) (e.Num zeros)

  abbrev second : Place
  second = next (behind (e.Var name) p)

  abbrev third : Place
  third = next second

  abbrev number_place : Place
  number_place = next (behind (e.Var name) third)

  abbrev nodes : List Node
  nodes =
      node (ins.If op.Ne (tested (type_at f p)) (register 0) (o.Num (pos 0)) (to 1) (to 5)) (spot_at f p) ∷
      node (put 0 (o.Num (pos 0))) (spot_at f (behind (e.Var name) third)) ∷
      node (ins.If op.Ne (tested (type_at f (behind (e.Var name) third))) (register 0) (o.Num (pos 0)) (to 3) (to 5)) (spot_at f (behind (e.Var name) third)) ∷
      one_or_zero 3 1 (spot_at f (behind (e.Var name) p))

  abbrev start : State
  start = record { regs = v ∷ []; taken = []; texts = []; declared = 0; labels = []; cases = []; default_case = None }

  abbrev end : State
  end = record start { regs = start.regs ++ temporary (register_type (type_at f (behind (e.Var name) p))) ∷ []; taken = 1 ∷ [] }

  none_free : (q : ℕ) → IsFree (register_type (type_at f (behind (e.Var name) p))) start q → ⊥
  none_free zero free = let no : Some name ≡ None = sym named_v ∙ ap name_or free.is_temporary in absurd cc
  none_free (suc q) free = absurd cc

  first_condition : Condition f c nodes start 0 (out-Exp (e.Var name)) p 1 5 1 start
  first_condition = rw (out-Var name) (test {x = Exp-F.Var name} tt (register_name (named_so f c name 0 in_scope p)) (record { here = refl }))

  module _ (constant : f.constants number_place.number ≡ Some (pos 0))
      (kept : change f (type_of f (e.Num zeros) number_place) (conversion_of f (e.Num zeros) number_place) (o.Num (pos 0)) ≡ no_change) where
    assignment : Value f c nodes start 1 (Exp-F.Assign None (e.Var name) (e.Num zeros)) third (register 0) 2 start
    assignment = set_register {i = 1} (register_is f c name 0 in_scope) (operand (rw (out-Num zeros) (number constant)) (unchanged _ _ _ _ _ _ kept)) (record { here = refl })

    third_condition : Condition f c nodes start 1 (out-Exp inner) third 3 5 3 start
    third_condition = rw (out-Set (e.Var name) (e.Num zeros)) (test {x = Exp-F.Assign None (e.Var name) (e.Num zeros)} tt assignment (record { here = refl }))

    second_condition : Condition f c nodes start 1 (out-Exp (e.Paren inner)) second 3 5 3 start
    second_condition = rw (out-Paren inner) (in_parens third_condition)

    both_tested : Value f c nodes start 0 (Exp-F.LogAnd (e.Var name) (e.Paren inner)) p (register 1) 6 end
    both_tested = and_value (and_then first_condition second_condition) (new _ start none_free)
        (follows 3 6 _ _ refl (follows 4 6 _ _ refl (follows 5 6 _ _ refl (ends 6))))
