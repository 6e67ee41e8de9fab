-- The rules can be met: the graph of `int f(int a){return a;}`.
use Rattle.std.proofs.Common.{◌≡◌, ℕ, List, [], ◌∷◌, Some, Bool, false, refl, sym, ap, ◌∙◌, subst, arith, length}
use Rattle.std.specs.Prelude.{codes}
use Rattle.po_ir.specs.declared.instr.Instr.TheVariants as ins
use Rattle.po_ir.specs.declared.graph.Node.{Node}
use Rattle.po_ir.specs.declared.graph.Graph.{Graph}
use Rattle.po_tree.specs.declared.expression.Exp.{fold-roll-Exp}
use Rattle.po_tree.specs.declared.expression.Exp.TheVariants as e
use Rattle.po_tree.specs.declared.expression.Exp.TheOpen.{Exp-F}
use Rattle.po_tree.specs.declared.expression.Param.{Param}
use Rattle.po_tree.specs.declared.statement.Stmt.{Stmt, out-Stmt, out-roll-Stmt, fold-roll-Stmt}
use Rattle.po_tree.specs.declared.statement.Stmt.TheVariants as st
use Rattle.po_tree.specs.declared.statement.Stmt.TheOpen.{Stmt-F}
use Rattle.po_types.specs.declared.ctype.CType.{CType}
use Rattle.po_lowering.specs.declared.var.Var.TheVariants as var
use Rattle.po_lowering.specs.Places.{skip}
use Rattle.po_lowering.specs.Typed.{Typed, type_of, conversion_of, spot_at}
use Rattle.po_lowering.specs.Temporaries.{ends, node, reg, register, fresh}
use Rattle.po_lowering.specs.Conversions.{nothing as no_change, change}
use Rattle.po_lowering.specs.Naming.{Use}
use Rattle.po_lowering.specs.Addressing.{addressed_in, addressing_exp, addressing_specifier, addressing_suffix, addressing_declarator, addressing_member, addressing_param, addressing_type}
use Rattle.po_lowering.specs.Storage.{Item, item, as_item, expression_item, optional_applies, body_variables, params_of, name_of_param, param_addressed, params_scope, first_registers, all_slots}
use Rattle.po_lowering.specs.Completion.{completes, completing}
use Rattle.po_lowering.specs.Statements.{Items, no_more_items, statement}
use Rattle.po_lowering.specs.Functions.{Params, no_more_params, in_register, at_first, in_body, body_place, params_place, own, last_nodes, IsGraph}
use Rattle.po_lowering.proofs.Examples.{returned}

abbrev name : List ℕ
name = codes "a"

returns : Stmt
returns = st.Return (Some (e.Var name))

out-Return : out-Stmt returns ≡ Stmt-F.Return (Some (e.Var name))
unfolding returns
out-Return = ap out-Stmt (sym (st.rolls-Return (Some (e.Var name)))) ∙ out-roll-Stmt (Stmt-F.Return (Some (e.Var name)))

item-Return : item returns ≡ expression_item (optional_applies (Some (e.Var name))) []
unfolding returns item
item-Return = ap item (sym (st.rolls-Return (Some (e.Var name)))) ∙ fold-roll-Stmt Item as_item (Stmt-F.Return (Some (e.Var name)))

completes-Return : completes returns ≡ false
unfolding returns completes
completes-Return = ap completes (sym (st.rolls-Return (Some (e.Var name)))) ∙ fold-roll-Stmt Bool completing (Stmt-F.Return (Some (e.Var name)))

addressed-Var : (v : List ℕ) → addressed_in v (e.Var name) ≡ false
unfolding addressed_in
addressed-Var v = ap (addressed_in v) (sym (e.rolls-Var name)) ∙
    ap (λ (u : Use). u.does) (fold-roll-Exp Use Bool Bool Bool Bool Bool Bool (addressing_exp v) addressing_specifier addressing_suffix addressing_declarator addressing_member addressing_param addressing_type (Exp-F.Var name))

-- a definition with one parameter, the name, whose body returns it; its value needs no conversion
module _ (f : Typed) (x : Param) (y : CType) (body : f.tree.body ≡ returns ∷ []) (params : params_of f ≡ x ∷ []) (types : f.parameters ≡ y ∷ []) (x_is : name_of_param x ≡ Some name)
    (kept : change f (type_of f (e.Var name) (skip 1 (body_place f))) (conversion_of f (e.Var name) (skip 1 (body_place f))) (register 0) ≡ no_change) where
  abbrev nodes : List Node
  nodes = node (ins.Return (Some (register 0))) (spot_at f (body_place f)) ∷ []

  abbrev graph : Graph
  graph = record { nodes = nodes; regs = first_registers f; slots = all_slots f; params = 1 }

  not_addressed : param_addressed f (name_of_param x) ≡ false
  not_addressed = rw (x_is, body, item-Return, addressed-Var name) refl

  no_variables : body_variables f ≡ []
  no_variables = rw (body, item-Return) refl

  params_run : Params f nodes (at_first f) 0 0 0 (params_of f) f.parameters (params_place f) 0 (at_first f)
  params_run = subst (λ z. Params f nodes (at_first f) 0 0 0 z f.parameters (params_place f) 0 (at_first f)) (sym params)
      (subst (λ z. Params f nodes (at_first f) 0 0 0 (x ∷ []) z (params_place f) 0 (at_first f)) (sym types) (in_register not_addressed no_more_params))

  scope : params_scope f 0 0 (params_of f) ≡ (name, var.Reg (reg 0)) ∷ []
  scope = rw (params, not_addressed, x_is) refl

  nothing_entered : own f ≡ []
  nothing_entered = rw (body, out-Return) refl

  ends_there : last_nodes f ≡ []
  ends_there = rw (body, completes-Return) refl

  body_runs : Items f nodes (in_body []) (params_scope f 0 0 (params_of f)) (at_first f) 0 f.tree.body (body_place f) 1 (fresh (at_first f))
  body_runs = subst (λ z. Items f nodes (in_body []) z (at_first f) 0 f.tree.body (body_place f) 1 (fresh (at_first f))) (sym scope)
      (subst (λ z. Items f nodes (in_body []) ((name, var.Reg (reg 0)) ∷ []) (at_first f) 0 z (body_place f) 1 (fresh (at_first f))) (sym body)
      (statement (rw out-Return (returned f ((name, var.Reg (reg 0)) ∷ []) name 0 refl nodes (in_body []) (at_first f) 0 (body_place f) kept (record { here = refl }))) no_more_items))

  one_register : length (first_registers f) ≡ 1
  one_register = rw (params, types, no_variables) refl

  has_graph : IsGraph f graph [] []
  has_graph = record {
    behind_params = at_first f;
    last = fresh (at_first f);
    params_end = 0;
    entered = 0;
    body_end = 1;
    params = params_run;
    enters_own = rw nothing_entered (ends 0);
    body = body_runs;
    ends = rw ends_there (ends 1);
    registers = refl;
    slots = refl;
    param_count = ap length (sym types);
    statics_are = rw no_variables refl;
    texts_are = refl;
    limit = omega (arith, one_register);
  }
