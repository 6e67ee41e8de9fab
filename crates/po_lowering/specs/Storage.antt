-- Where each variable of a body is kept: in a register, in a slot, or as a global.
use Rattle.std.specs.Prelude.{ℕ, suc, List, [], ◌∷◌, ◌++◌, map, length, codes, slice_get, take, Option, Some, None, Bool, true, false, cond, not, ◌||◌, ◌&&◌}
use Rattle.po_ir.specs.declared.graph.Reg.{Reg as Register}
use Rattle.po_ir.specs.declared.graph.Slot.{Slot}
use Rattle.po_ir.specs.declared.project.Global.{Global}
use Rattle.po_tree.specs.declared.expression.Declarator.{Declarator}
use Rattle.po_tree.specs.declared.expression.Specifier.{Specifier, out-Specifier}
use Rattle.po_tree.specs.declared.expression.Exp.TheOpen.{Specifier-F, Suffix-F}
use Rattle.po_tree.specs.declared.expression.Exp.{Exp}
use Rattle.po_tree.specs.declared.expression.Suffix.{Suffix, out-Suffix}
use Rattle.po_tree.specs.declared.expression.Member.{Member}
use Rattle.po_tree.specs.declared.expression.Param.{Param, out-Param}
use Rattle.po_tree.specs.declared.expression.TypeName.{TypeName}
use Rattle.po_tree.specs.declared.declaration.Init.{Init}
use Rattle.po_tree.specs.declared.declaration.Decl.{Decl}
use Rattle.po_tree.specs.declared.statement.First.{First}
use Rattle.po_tree.specs.declared.statement.First.TheVariants as fi
use Rattle.po_tree.specs.declared.statement.Stmt.{Stmt, fold-Stmt}
use Rattle.po_tree.specs.declared.statement.Stmt.TheOpen.{Stmt-F}
use Rattle.po_types.specs.declared.ctype.CType.{CType}
use Rattle.po_lowering.specs.declared.var.Var.{Var}
use Rattle.po_lowering.specs.declared.var.Var.TheVariants as var
use Rattle.po_lowering.specs.Typed.{Typed, Declared}
use Rattle.po_lowering.specs.Types.{register_type, is_scalar}
use Rattle.po_lowering.specs.Naming.{is_same, holds_of}
use Rattle.po_lowering.specs.Addressing.{addressed_in, addressed_in_declarator, addressed_in_init, addressed_if_there}

-- a declarator of the body: its name, whether it is static and has an initialiser, and whether `&` is applied to its variable
pub record Variable : Type 0 where
  pub name : Option (List ℕ)
  pub static : Bool
  pub initialised : Bool
  pub addressed : Bool

-- A statement: whether `&` is applied to a name in it where the name isn't hidden, whether it hides a name from what follows in its block,
-- and its declarators in their order; those of a declaration want to know whether `&` is applied to a name behind it.
pub record Item : Type 0 where
  pub applies : List ℕ → Bool
  pub hides : List ℕ → Bool
  pub variables : (List ℕ → Bool) → List Variable

abbrev pub nowhere : List ℕ → Bool
nowhere name = false

abbrev pub expression_item : (List ℕ → Bool) → List Variable → Item
expression_item applies vs = record { applies = applies; hides = nowhere; variables = λ after. vs }

abbrev pub applied_in_all : List Item → List ℕ → Bool
applied_in_all [] name = false
applied_in_all (x ∷ xs) name = x.applies name || (not (x.hides name) && applied_in_all xs name)

abbrev pub variables_of_all : List Item → List Variable
variables_of_all [] = []
variables_of_all (x ∷ xs) = x.variables (applied_in_all xs) ++ variables_of_all xs

abbrev pub word_is : List ℕ → Specifier-F Exp Specifier Suffix Declarator Member Param TypeName → Bool
word_is text (Specifier-F.Word word) = is_same text word
word_is text _ = false

abbrev pub is_static : List Specifier → Bool
is_static [] = false
is_static (x ∷ xs) = word_is (codes "static") (out-Specifier x) || is_static xs

-- a name is in scope from the end of its declarator on (6.2.1p7)
abbrev pub applied_in_parts : List (Declarator × Option Init) → List ℕ → Bool
applied_in_parts [] name = false
applied_in_parts ((d, init) ∷ rest) name =
    addressed_in_declarator name d || (not (holds_of (is_same name) d.name) && (addressed_if_there (addressed_in_init name) init || applied_in_parts rest name))

abbrev pub declared_in : List (Declarator × Option Init) → List ℕ → Bool
declared_in [] name = false
declared_in ((d, init) ∷ rest) name = holds_of (is_same name) d.name || declared_in rest name

abbrev pub is_there : {A : Type 0} → Option A → Bool
is_there None = false
is_there (Some x) = true

-- whether `&` is applied to the declared name in its initialiser or behind it
abbrev pub applied_behind : (List ℕ → Bool) → Option Init → List (Declarator × Option Init) → Option (List ℕ) → Bool
applied_behind after init rest None = false
applied_behind after init rest (Some name) = addressed_if_there (addressed_in_init name) init || (applied_in_parts rest name || after name)

abbrev pub variables_of_parts : Bool → List (Declarator × Option Init) → (List ℕ → Bool) → List Variable
variables_of_parts static [] after = []
variables_of_parts static ((d, init) ∷ rest) after =
    record { name = d.name; static = static; initialised = is_there init; addressed = applied_behind after init rest d.name } ∷ variables_of_parts static rest after

abbrev pub decl_item : Decl → Item
decl_item d = record { applies = applied_in_parts d.parts; hides = declared_in d.parts; variables = variables_of_parts (is_static d.specs) d.parts }

abbrev pub first_item : First → Item
first_item fi.Nothing = expression_item nowhere []
first_item (fi.Value x) = expression_item (λ name. addressed_in name x) []
first_item (fi.Variables d) = decl_item d

abbrev pub optional_applies : Option Exp → List ℕ → Bool
optional_applies x name = addressed_if_there (addressed_in name) x

abbrev pub item_applies : Option Item → List ℕ → Bool
item_applies None name = false
item_applies (Some x) name = x.applies name

abbrev pub item_variables : Option Item → List Variable
item_variables None = []
item_variables (Some x) = x.variables nowhere

-- an expression, and then a statement
abbrev pub headed : Exp → Item → Item
headed x body = expression_item (λ name. addressed_in name x || body.applies name) (body.variables nowhere)

abbrev pub as_item : Stmt-F Item → Item
as_item (Stmt-F.Block xs) = expression_item (applied_in_all xs) (variables_of_all xs)
as_item (Stmt-F.Declare d) = decl_item d
as_item (Stmt-F.ExpS x) = expression_item (λ name. addressed_in name x) []
as_item (Stmt-F.If x then_ else_) =
    expression_item (λ name. addressed_in name x || (then_.applies name || item_applies else_ name)) (then_.variables nowhere ++ item_variables else_)
as_item (Stmt-F.While x body) = headed x body
as_item (Stmt-F.Do body x) = headed x body
as_item (Stmt-F.For first test step body) =
    let inner = first_item first ∷ expression_item (λ name. optional_applies test name || (optional_applies step name || body.applies name)) (body.variables nowhere) ∷ [] in
    expression_item (applied_in_all inner) (variables_of_all inner)
as_item (Stmt-F.Switch x body) = headed x body
as_item (Stmt-F.Case x body) = headed x body
as_item (Stmt-F.Default body) = expression_item body.applies (body.variables nowhere)
as_item (Stmt-F.Label name body) = expression_item body.applies (body.variables nowhere)
as_item (Stmt-F.Return x) = expression_item (optional_applies x) []
as_item _ = expression_item nowhere []

unfoldable pub item : Stmt → Item
item = fold-Stmt Item as_item

-- the body's declarators in their order, each with what typing says of it
abbrev pub paired : List Variable → List Declared → List (Variable × Declared)
paired (v ∷ vs) (d ∷ ds) = (v, d) ∷ paired vs ds
paired _ _ = []

abbrev pub body_variables : Typed → List (Variable × Declared)
body_variables f = paired (variables_of_all (map item f.tree.body)) f.variables

-- a register variable is an automatic scalar to which `&` isn't applied
abbrev pub in_register : Variable → Declared → Bool
in_register v d = not v.static && (is_scalar d.type && not v.addressed)

abbrev pub named_params : Suffix-F Exp Specifier Suffix Declarator Member Param TypeName → List Param
named_params (Suffix-F.Params params more) = params
named_params _ = []

-- the parameters of the definition; `(void)` declares none
abbrev pub params_of : Typed → List Param
params_of f = take (length f.parameters) (named_params (out-Suffix f.tree.declarator.suffix))

abbrev pub name_of_param : Param → Option (List ℕ)
name_of_param x = (out-Param x).declarator.name

-- whether `&` is applied to a parameter of this name
abbrev pub param_addressed : Typed → Option (List ℕ) → Bool
param_addressed f name = holds_of (applied_in_all (map item f.tree.body)) name

-- The registers are those of the parameters and then those of the register variables; the temporaries follow them.
abbrev pub param_registers : List Param → List CType → List Register
param_registers (x ∷ xs) (t ∷ ts) = record { name = name_of_param x; ty = register_type t; param = true } ∷ param_registers xs ts
param_registers _ _ = []

abbrev pub variable_registers : List (Variable × Declared) → List Register
variable_registers [] = []
variable_registers ((v, d) ∷ rest) =
    cond (in_register v d) (record { name = v.name; ty = register_type d.type; param = false } ∷ variable_registers rest) (variable_registers rest)

abbrev pub first_registers : Typed → List Register
first_registers f = param_registers (params_of f) f.parameters ++ variable_registers (body_variables f)

abbrev pub slot_for : Typed → CType → Bool → Slot
slot_for f t constant = record { size = f.size t; align = f.align t; constant = constant }

-- The slots are those of the parameters to which `&` is applied, and then those of the other automatic variables. A slot is constant where
-- its variable is const and has no initialiser.
abbrev pub param_slots : Typed → List Param → List CType → List Slot
param_slots f (x ∷ xs) (t ∷ ts) = cond (param_addressed f (name_of_param x)) (slot_for f t false ∷ param_slots f xs ts) (param_slots f xs ts)
param_slots f _ _ = []

abbrev pub variable_slots : Typed → List (Variable × Declared) → List Slot
variable_slots f [] = []
variable_slots f ((v, d) ∷ rest) =
    cond (v.static || in_register v d) (variable_slots f rest) (slot_for f d.type (d.constant && not v.initialised) ∷ variable_slots f rest)

abbrev pub all_slots : Typed → List Slot
all_slots f = param_slots f (params_of f) f.parameters ++ variable_slots f (body_variables f)

abbrev pub text_of_name : Option (List ℕ) → List ℕ
text_of_name None = []
text_of_name (Some name) = name

-- a static in a block is a global of the variable's name
abbrev pub static_global : Typed → Variable → Declared → Global
static_global f v d =
    record { name = text_of_name v.name; size = f.size d.type; align = f.align d.type; constant = d.constant; local = true; defined = v.initialised; ty = record { text = d.spelling } }

abbrev pub all_statics : Typed → List (Variable × Declared) → List Global
all_statics f [] = []
all_statics f ((v, d) ∷ rest) = cond v.static (static_global f v d ∷ all_statics f rest) (all_statics f rest)

-- where each declarator's variable is kept: the next register, slot or global
abbrev pub kept_from : ℕ → ℕ → ℕ → List (Variable × Declared) → List Var
kept_from r k g [] = []
kept_from r k g ((v, d) ∷ rest) =
    cond v.static (var.Global (record { 0 = g }) ∷ kept_from r k (suc g) rest)
    (cond (in_register v d) (var.Reg (record { 0 = r }) ∷ kept_from (suc r) k g rest) (var.Slot (record { 0 = k }) ∷ kept_from r (suc k) g rest))

abbrev pub all_kept : Typed → List Var
all_kept f = kept_from (length (param_registers (params_of f) f.parameters)) (length (param_slots f (params_of f) f.parameters)) f.objects (body_variables f)

-- where the variable of the n-th declarator of the body is kept
abbrev pub kept_as : Typed → ℕ → Option Var
kept_as f n = slice_get (all_kept f) n

-- the parameters in scope: one to which `&` is applied is kept in the next slot, any other in its register
abbrev pub params_scope : Typed → ℕ → ℕ → List Param → List (List ℕ × Var)
params_scope f r k [] = []
params_scope f r k (x ∷ xs) =
    cond (param_addressed f (name_of_param x))
    ((text_of_name (name_of_param x), var.Slot (record { 0 = k })) ∷ params_scope f (suc r) (suc k) xs)
    ((text_of_name (name_of_param x), var.Reg (record { 0 = r })) ∷ params_scope f (suc r) k xs)
