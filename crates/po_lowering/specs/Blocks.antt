-- Entering and leaving blocks, and the tests of a switch (C99 6.8.2, 6.8.4.2, 6.8.6).
use Rattle.std.specs.Prelude.{ℕ, ◌+◌, ◌-◌, ℤ, List, [], ◌∷◌, ◌++◌, length, map, flat_map, take, reverse, Option, Some, None, Bool, true, false}
use Rattle.po_base.specs.declared.operators.Op.TheVariants as op
use Rattle.po_base.specs.declared.operand.Opnd.{Opnd}
use Rattle.po_base.specs.declared.operand.Opnd.TheVariants as o
use Rattle.po_base.specs.declared.spot.Spot.{Spot}
use Rattle.po_ir.specs.declared.instr.Ty.{Ty}
use Rattle.po_ir.specs.declared.instr.Local.TheVariants as local
use Rattle.po_ir.specs.declared.instr.Instr.TheVariants as ins
use Rattle.po_ir.specs.declared.graph.Node.{Node}
use Rattle.po_tree.specs.declared.expression.Declarator.{Declarator}
use Rattle.po_tree.specs.declared.declaration.Init.{Init}
use Rattle.po_tree.specs.declared.declaration.Decl.{Decl}
use Rattle.po_tree.specs.declared.statement.Stmt.{Stmt, out-Stmt}
use Rattle.po_tree.specs.declared.statement.Stmt.TheOpen.{Stmt-F}
use Rattle.po_lowering.specs.declared.var.Var.{Var}
use Rattle.po_lowering.specs.declared.var.Var.TheVariants as var
use Rattle.po_lowering.specs.Places.{Place, skip, word_of, behind_part, behind_specs, behind_stmt}
use Rattle.po_lowering.specs.Typed.{Typed, spot_at}
use Rattle.po_lowering.specs.Temporaries.{node, to}
use Rattle.po_lowering.specs.Storage.{kept_as}
use Rattle.po_lowering.specs.Completion.{declarators}

-- a declarator by its number among those of the body, and the place of its Word
abbrev pub parts_at : ℕ → Place → List (Declarator × Option Init) → List (ℕ × Place)
parts_at n p [] = []
parts_at n p ((d, init) ∷ rest) = (n, word_of d p) ∷ parts_at (n + 1) (skip 1 (behind_part (d, init) p)) rest

abbrev pub decl_at : ℕ → Place → Decl → List (ℕ × Place)
decl_at n p d = parts_at n (behind_specs d.specs p) d.parts

abbrev pub item_at : ℕ → Place → Stmt-F Stmt → List (ℕ × Place)
item_at n p (Stmt-F.Declare d) = decl_at n p d
item_at n p _ = []

-- the declarators that stand directly in a block, whose items begin at a place
abbrev pub items_at : ℕ → Place → List Stmt → List (ℕ × Place)
items_at n p [] = []
items_at n p (x ∷ xs) = item_at n p (out-Stmt x) ++ items_at (n + declarators x) (behind_stmt x p) xs

abbrev pub enter_node : Option Var → Spot → List Node
enter_node None spot = []
enter_node (Some (var.Reg r)) spot = node (ins.Enter (local.Reg r)) spot ∷ []
enter_node (Some (var.Slot k)) spot = node (ins.Enter (local.Slot k)) spot ∷ []
enter_node (Some (var.Global g)) spot = []

-- one Enter for each variable, in order; a static has none
abbrev pub enters : Typed → List (ℕ × Place) → List Node
enters f own = flat_map (λ (x : ℕ × Place). enter_node (kept_as f x.0) (spot_at f x.1)) own

abbrev pub slot_alone : Option Var → List ℕ
slot_alone None = []
slot_alone (Some (var.Reg r)) = []
slot_alone (Some (var.Slot k)) = k.0 ∷ []
slot_alone (Some (var.Global g)) = []

-- the slots of a block, the last declared first
abbrev pub slots_of : Typed → List (ℕ × Place) → List ℕ
slots_of f own = reverse (flat_map (λ (x : ℕ × Place). slot_alone (kept_as f x.0)) own)

abbrev pub leave_node : Spot → ℕ → Node
leave_node spot k = node (ins.Leave (record { 0 = k })) spot

-- one Leave for each of these slots
abbrev pub leaves : Spot → List ℕ → List Node
leaves spot slots = map (leave_node spot) slots

-- the Leaves of a block's end stand where it completes
abbrev pub leaves_where : Bool → Spot → List ℕ → List Node
leaves_where false spot slots = []
leaves_where true spot slots = leaves spot slots

-- the slots of all blocks but so many outer ones, the innermost block first
abbrev pub slots_left : ℕ → List (List ℕ) → List ℕ
slots_left outer blocks = flat_map (λ (slots : List ℕ). slots) (take (length blocks - outer) blocks)

-- one `If Eq` for each case, in order; where it isn't met, the next node follows
abbrev pub case_tests : ℕ → Ty → Opnd → Spot → List (ℤ × ℕ) → List Node
case_tests a ty v spot [] = []
case_tests a ty v spot ((n, target) ∷ rest) = node (ins.If op.Eq ty v (o.Num n) (to target) (to (a + 1))) spot ∷ case_tests (a + 1) ty v spot rest

-- a switch goes to its default, and else to its end
abbrev pub default_or : Option ℕ → ℕ → ℕ
default_or None end = end
default_or (Some a) end = a

-- a Jump where there is one
abbrev pub jump_where : Bool → ℕ → Spot → List Node
jump_where false target spot = []
jump_where true target spot = node (ins.Jump (to target)) spot ∷ []
