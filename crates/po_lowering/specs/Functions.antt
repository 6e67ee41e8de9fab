-- The graph of a function definition (C99 6.9.1).
use Rattle.std.specs.Prelude.{ℕ, suc, ◌+◌, ◌*◌, ◌^◌, ◌≤◌, ◌≡◌, pos, List, [], ◌∷◌, length, codes, Some, None, Bool, true, false, cond}
use Rattle.po_base.specs.declared.operand.Opnd.TheVariants as o
use Rattle.po_ir.specs.declared.instr.Ty.TheVariants as ty
use Rattle.po_ir.specs.declared.instr.Instr.{Instr}
use Rattle.po_ir.specs.declared.instr.Instr.TheVariants as ins
use Rattle.po_ir.specs.declared.instr.Local.TheVariants as local
use Rattle.po_ir.specs.declared.instr.Reason.TheVariants.{End}
use Rattle.po_ir.specs.declared.graph.Node.{Node}
use Rattle.po_ir.specs.declared.graph.Graph.{Graph}
use Rattle.po_ir.specs.declared.project.Global.{Global}
use Rattle.po_tree.specs.declared.expression.Param.{Param, out-Param}
use Rattle.po_types.specs.declared.ctype.CType.{CType}
use Rattle.po_lowering.specs.Places.{Place, skip, behind_specs, behind_declarator, behind_all, word_of}
use Rattle.po_lowering.specs.Typed.{Typed, spot_at}
use Rattle.po_lowering.specs.Types.{is_void, access_of}
use Rattle.po_lowering.specs.Temporaries.{State, At, Row, Takes, fresh, node, reg, register}
use Rattle.po_lowering.specs.Naming.{is_same, holds_of}
use Rattle.po_lowering.specs.Storage.{params_of, params_scope, param_addressed, name_of_param, first_registers, all_slots, all_statics, body_variables}
use Rattle.po_lowering.specs.Completion.{all_complete}
use Rattle.po_lowering.specs.Blocks.{items_at, enters}
use Rattle.po_lowering.specs.Statements.{Around, Items}

abbrev pub first_place : Place
first_place = record { number = 0; token = 0 }

-- behind the specifiers and the declarator stands the body's opening brace
abbrev pub body_place : Typed → Place
body_place f = skip 1 (behind_declarator f.tree.declarator (behind_specs f.tree.specs first_place))

-- the first parameter stands behind the specifiers, the stars, the name and the opening parenthesis
abbrev pub params_place : Typed → Place
params_place f = skip 2 (word_of f.tree.declarator (behind_specs f.tree.specs first_place))

-- the Word of a parameter
abbrev pub word_of_param : Param → Place → Place
word_of_param x p = word_of (out-Param x).declarator (behind_specs (out-Param x).specs p)

abbrev pub behind_param : Param → Place → Place
behind_param x p = behind_declarator (out-Param x).declarator (behind_specs (out-Param x).specs p)

-- a body starts with Enter, AddrSlot, Store for each parameter to which `&` is applied, each of which is a full expression
pub data Params (f : Typed) (ns : List Node) : State → ℕ → ℕ → ℕ → List Param → List CType → Place → ℕ → State → Type 0 where
  no_more_params : {s : State} {a r k : ℕ} {p : Place} → Params f ns s a r k [] [] p a s
  in_register : {s t : State} {a b r k : ℕ} {x : Param} {xs : List Param} {y : CType} {ys : List CType} {p : Place} → param_addressed f (name_of_param x) ≡ false →
      Params f ns s a (suc r) k xs ys (skip 1 (behind_param x p)) b t → Params f ns s a r k (x ∷ xs) (y ∷ ys) p b t
  in_slot : {s s1 t : State} {a b r k m : ℕ} {x : Param} {xs : List Param} {y : CType} {ys : List CType} {p : Place} → param_addressed f (name_of_param x) ≡ true →
      At ns a (ins.Enter (local.Slot (record { 0 = k }))) (spot_at f (word_of_param x p)) → Takes ty.Ptr (fresh s) m s1 →
      At ns (a + 1) (ins.AddrSlot (reg m) (record { 0 = k })) (spot_at f (word_of_param x p)) →
      At ns (a + 2) (ins.Store (register m) (register r) (access_of f y)) (spot_at f (word_of_param x p)) →
      Params f ns s1 (a + 3) (suc r) (suc k) xs ys (skip 1 (behind_param x p)) b t → Params f ns s a r k (x ∷ xs) (y ∷ ys) p b t

-- nothing is passed on to the first statement but the registers of parameters and register variables
abbrev pub at_first : Typed → State
at_first f = record { regs = first_registers f; taken = []; texts = []; declared = 0; labels = []; cases = []; default_case = None }

-- in the body itself no block is left, and nothing is there to break
abbrev pub in_body : List (List ℕ × ℕ) → Around
in_body labels = record { exit = 0; exit_blocks = 0; next = 0; next_blocks = 0; blocks = []; labels = labels }

abbrev pub is_main : Typed → Bool
is_main f = holds_of (is_same (codes "main")) f.tree.declarator.name

-- where a body completes it ends with Return for void, Return 0 for `main`, and otherwise Never(end)
abbrev pub last_instr : Bool → Bool → Instr
last_instr true main = ins.Return None
last_instr false true = ins.Return (Some (o.Num (pos 0)))
last_instr false false = ins.Never End

abbrev pub last_nodes : Typed → List Node
last_nodes f = cond (all_complete f.tree.body) (node (last_instr (is_void f.result) (is_main f)) (spot_at f (behind_all f.tree.body (body_place f))) ∷ []) []

-- the declarators that stand directly in the body
abbrev pub own : Typed → List (ℕ × Place)
own f = items_at 0 (body_place f) f.tree.body

-- The graph of a typed definition, with its statics and its literals: a node for each place that the body has, the registers of variables and
-- temporaries, and the slots. Nodes times registers are at most 2^22.
pub record IsGraph (f : Typed) (g : Graph) (statics : List Global) (texts : List (List ℕ)) : Type 0 where
  pub behind_params : State
  pub last : State
  pub params_end : ℕ
  pub entered : ℕ
  pub body_end : ℕ
  pub params : Params f g.nodes (at_first f) 0 0 0 (params_of f) f.parameters (params_place f) params_end behind_params
  pub enters_own : Row g.nodes params_end (enters f (own f)) entered
  pub body : Items f g.nodes (in_body last.labels) (params_scope f 0 0 (params_of f)) behind_params entered f.tree.body (body_place f) body_end last
  pub ends : Row g.nodes body_end (last_nodes f) (length g.nodes)
  pub registers : g.regs ≡ last.regs
  pub slots : g.slots ≡ all_slots f
  pub param_count : g.params ≡ length f.parameters
  pub statics_are : statics ≡ all_statics f (body_variables f)
  pub texts_are : texts ≡ last.texts
  pub limit : length g.nodes * length g.regs ≤ 2 ^ 22
