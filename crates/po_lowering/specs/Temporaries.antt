-- Nodes, temporaries, and what is passed on from one part of a body to the next.
use Rattle.std.specs.Prelude.{ℕ, ◌+◌, ◌<◌, ◌≡◌, ℤ, List, [], ◌∷◌, ◌++◌, length, Option, Some, None, slice_get, Contains, Bool, true, false}
use Rattle.std.specs.Option.{option_map}
use Rattle.po_base.specs.declared.numbers.RegNo.{RegNo}
use Rattle.po_base.specs.declared.numbers.NodeNo.{NodeNo}
use Rattle.po_base.specs.declared.operand.Opnd.{Opnd}
use Rattle.po_base.specs.declared.operand.Opnd.TheVariants as o
use Rattle.po_base.specs.declared.spot.Spot.{Spot}
use Rattle.po_ir.specs.declared.instr.Ty.{Ty}
use Rattle.po_ir.specs.declared.instr.Instr.{Instr}
use Rattle.po_ir.specs.declared.instr.Instr.TheVariants as ins
use Rattle.po_ir.specs.declared.graph.Node.{Node}
use Rattle.po_ir.specs.declared.graph.Reg.{Reg as Register}

abbrev pub reg : ℕ → RegNo
reg r = record { 0 = r }

-- the operand that is a register
abbrev pub register : ℕ → Opnd
register r = o.Reg (reg r)

abbrev pub to : ℕ → NodeNo
to a = record { 0 = a }

abbrev pub node : Instr → Spot → Node
node instr spot = record { instr = instr; spot = spot }

-- the node at a place
pub record At (ns : List Node) (a : ℕ) (instr : Instr) (spot : Spot) : Type 0 where
  pub here : slice_get ns a ≡ Some (node instr spot)

-- Row ns a xs b: these nodes stand from a on, up to b
pub data Row (ns : List Node) : ℕ → List Node → ℕ → Type 0 where
  ends : (a : ℕ) → Row ns a [] a
  follows : (a b : ℕ) (x : Node) (xs : List Node) → slice_get ns a ≡ Some x → Row ns (a + 1) xs b → Row ns a (x ∷ xs) b

-- What is passed on: the registers, the temporaries that the present full expression has taken, the literals, how many declarators have
-- been passed, each label with its node, and each case of the innermost switch with its node, and its default's node.
pub record State : Type 0 where
  pub regs : List Register
  pub taken : List ℕ
  pub texts : List (List ℕ)
  pub declared : ℕ
  pub labels : List (List ℕ × ℕ)
  pub cases : List (ℤ × ℕ)
  pub default_case : Option ℕ

-- a full expression begins with none taken
abbrev pub fresh : State → State
fresh s = record s { taken = [] }

abbrev pub temporary : Ty → Register
temporary ty = record { name = None; ty = ty; param = false }

-- a temporary of the type that isn't taken
pub record IsFree (ty : Ty) (s : State) (r : ℕ) : Type 0 where
  pub is_temporary : slice_get s.regs r ≡ Some (temporary ty)
  pub untaken : Contains s.taken r → ⊥

-- a value takes the least temporary of its type that the present full expression hasn't taken, and a new one where there is none
pub data Takes : Ty → State → ℕ → State → Type 0 where
  old : (ty : Ty) (s : State) (r : ℕ) → IsFree ty s r → ((q : ℕ) → q < r → IsFree ty s q → ⊥) →
      Takes ty s r (record s { taken = s.taken ++ r ∷ [] })
  new : (ty : Ty) (s : State) → ((q : ℕ) → IsFree ty s q → ⊥) →
      Takes ty s (length s.regs) (record s { regs = s.regs ++ temporary ty ∷ []; taken = s.taken ++ length s.regs ∷ [] })

-- a register gets an operand's value
abbrev pub put : ℕ → Opnd → Instr
put r (o.Num n) = ins.Const (reg r) n
put r (o.Reg q) = ins.Copy (reg r) q

abbrev pub type_in : State → RegNo → Option Ty
type_in s q = option_map (λ (r : Register). r.ty) (slice_get s.regs q.0)

-- what holds an operand while later ones are evaluated: itself, or, where one of them assigns it, a Copy of it directly behind its nodes
pub data Holds (ns : List Node) : State → ℕ → Spot → Opnd → Bool → Opnd → ℕ → State → Type 0 where
  kept : (s : State) (a : ℕ) (spot : Spot) (v : Opnd) → Holds ns s a spot v false v a s
  copied : (s t : State) (a : ℕ) (spot : Spot) (q : RegNo) (r : ℕ) (ty : Ty) → type_in s q ≡ Some ty → Takes ty s r t →
      At ns a (ins.Copy (reg r) q) spot → Holds ns s a spot (o.Reg q) true (register r) (a + 1) t

-- a Copy of an old value stands first where that value is used
pub data Saves (ns : List Node) : State → ℕ → Spot → Ty → Bool → RegNo → Option Opnd → ℕ → State → Type 0 where
  not_used : (s : State) (a : ℕ) (spot : Spot) (ty : Ty) (q : RegNo) → Saves ns s a spot ty false q None a s
  saved : (s t : State) (a : ℕ) (spot : Spot) (ty : Ty) (q : RegNo) (r : ℕ) → Takes ty s r t →
      At ns a (ins.Copy (reg r) q) spot → Saves ns s a spot ty true q (Some (register r)) (a + 1) t

-- the old value where it was saved, else the new one
abbrev pub saved_or : Option Opnd → Opnd → Opnd
saved_or None v = v
saved_or (Some w) v = w
