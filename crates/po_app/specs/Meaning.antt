-- The meaning of a project: what a lowered function does, step by step (C99 5.1.2.3), and where it violates an obligation.
use Rattle.std.specs.Prelude.{ℕ, zero, suc, ◌+◌, ◌-◌, ◌^◌, ◌≡◌, ◌≢◌, ◌==◌, ℤ, pos, ◌+ℤ◌, ◌-ℤ◌, ◌*ℤ◌, ◌⊎◌, cond, ◌&&◌, List, [], ◌∷◌, ◌++◌, All, map, replicate, length, slice_get, slice_set, slice_index_or, Option, Some, None}
use Rattle.std.specs.List.{AllZip, flat_map}
use Rattle.std.specs.Int.{int_rem_euclid}
use Rattle.std.specs.Int.RustNames.{int_div, int_rem}
use Rattle.po_base.specs.declared.numbers.RegNo.{RegNo}
use Rattle.po_base.specs.declared.operators.Op.{Op}
use Rattle.po_base.specs.declared.operators.Op.TheVariants as op
use Rattle.po_base.specs.declared.operand.Opnd.{Opnd}
use Rattle.po_base.specs.declared.operand.Opnd.TheVariants.{Reg, Num}
use Rattle.po_arith.specs.declared.int_type.IntType.{IntType}
use Rattle.po_ir.specs.declared.instr.Callee.{Callee}
use Rattle.po_ir.specs.declared.instr.Callee.TheVariants.{Fun}
use Rattle.po_ir.specs.declared.instr.Ty.TheVariants.{Int}
use Rattle.po_ir.specs.declared.instr.Instr.{Instr}
use Rattle.po_ir.specs.declared.instr.Instr.TheVariants.{Bin, Call, Return}
use Rattle.po_ir.specs.declared.graph.Node.{Node}
use Rattle.po_ir.specs.declared.project.Function.{Function}
use Rattle.po_ir.specs.declared.project.Project.{Project}
use Rattle.po_core.specs.declared.obl.Cause.{Cause}
use Rattle.po_core.specs.declared.obl.Cause.TheVariants.{Primary, Support}
use Rattle.po_core.specs.declared.obl.Obl.{Obl}
use Rattle.po_core.specs.declared.obl.Verdict.{Verdict}
use Rattle.po_core.specs.declared.report.Report.{Report}
use Rattle.po_pred.specs.declared.pred.Atom.{Atom}
use Rattle.po_pred.specs.declared.pred.Atom.TheVariants as atom
use Rattle.po_pred.specs.declared.pred.Place.{Place}
use Rattle.po_pred.specs.declared.pred.Pred.{Pred}
use Rattle.po_pred.specs.declared.pred.Pred.TheVariants.{Nonzero, NoOver}
use Rattle.po_app.specs.declared.rule.Rule.{Rule}
use Rattle.po_app.specs.Predicates.{Fits, IsMoved}
use Rattle.po_app.specs.Obligations.{Asked, node_obligations}
use Rattle.po_app.specs.Verdicts.{node_in, predicate_of}

-- the value of a register: a whole number
pub data Value : Type 0 where
  number : ℤ → Value

-- a call of a function: the node at which it stands, its registers, some without a value, and the arguments of the call (6.5.2.2p4)
pub record Frame : Type 0 where
  pub fun : ℕ
  pub node : ℕ
  pub regs : List (Option Value)
  pub args : List Value

-- the frame that runs, and those that wait for it, the last caller first
pub record State : Type 0 where
  pub top : Frame
  pub rest : List Frame

abbrev pub register_value : Frame → ℕ → Option Value
register_value frame r = slice_index_or frame.regs r None

abbrev pub operand_value : Frame → Opnd → Option Value
operand_value frame (Reg r) = register_value frame r.0
operand_value frame (Num n) = Some (number n)

-- what a place stands on: a register, an argument of the call, or 0
abbrev pub atom_value : Frame → Option Atom → Option Value
atom_value frame None = Some (number (pos 0))
atom_value frame (Some (atom.Reg r)) = register_value frame r.0
atom_value frame (Some (atom.Param i)) = slice_get frame.args i

-- v is a number of the place: what it stands on has a value, and v is that value moved by one of the place's numbers
abbrev pub Chooses : Frame → Place → ℤ → Type 0
Chooses frame p v = (u : ℤ) × (atom_value frame p.atom ≡ Some (number u)) × IsMoved p u v

-- what the place stands on has a number for its value
abbrev pub HasNumber : Frame → Place → Type 0
HasNumber frame p = (u : ℤ) × (atom_value frame p.atom ≡ Some (number u))

-- the same of a second operand, for which an operator of one operand has 0
abbrev pub SecondChooses : Frame → Option Place → ℤ → Type 0
SecondChooses frame None w = w ≡ pos 0
SecondChooses frame (Some p) w = Chooses frame p w

abbrev pub SecondHasNumber : Frame → Option Place → Type 0
SecondHasNumber frame None = Unit {0}
SecondHasNumber frame (Some p) = HasNumber frame p

-- a predicate in a frame: it holds for each choice of its places' numbers, and never where a place has no value; kinds that
-- aren't served never hold
abbrev pub Holds : Frame → Pred → Type 0
Holds frame (Nonzero x) = HasNumber frame x × ((v : ℤ) → Chooses frame x v → v ≢ pos 0)
Holds frame (NoOver op bits a b) =
    HasNumber frame a × SecondHasNumber frame b × ((v w : ℤ) → Chooses frame a v → SecondChooses frame b w → Fits op bits v w)
Holds frame _ = ⊥

-- the node at which a frame stands
abbrev pub node_under : Project → Frame → Option Node
node_under p frame = node_in (slice_get p.functions frame.fun) frame.node

abbrev pub asked_at : Frame → Option Node → List Asked
asked_at frame None = []
asked_at frame (Some node) = node_obligations frame.fun frame.node node

abbrev pub with_predicate : Obl Pred → Option Pred → List Asked
with_predicate o None = []
with_predicate o (Some q) = (o, q) ∷ []

-- an obligation by which a call supports what the called function assumes
abbrev pub support_by : Project → Obl Pred → Cause Pred → List Asked
support_by p o (Primary i) = []
support_by p o (Support q) = with_predicate o (predicate_of p o)

abbrev pub support_at : Project → ℕ → ℕ → (Obl Pred × Verdict Pred Rule) → List Asked
support_at p f n line = cond (line.0.fun.0 == f && line.0.node.0 == n) (support_by p line.0 line.0.cause) []

-- the supporting obligations that the report lists at a node, in its order
abbrev pub supports : Project → Report Pred Rule → ℕ → ℕ → List Asked
supports p r f n = flat_map (support_at p f n) r.lines

-- the obligations at the node where the running frame stands, in the order in which they are checked: those of its
-- operation, and then those that the report lists there for what a called function assumes
abbrev pub asked : Project → Report Pred Rule → State → List Asked
asked p r s = asked_at s.top (node_under p s.top) ++ supports p r s.top.fun s.top.node

abbrev pub AllHold : Frame → List Asked → Type 0
AllHold frame list = All (λ (a : Asked). Holds frame a.1) list

-- o is the first obligation in s that doesn't hold: the run ends here
pub record Violates (p : Project) (r : Report Pred Rule) (s : State) (o : Obl Pred) : Type 0 where
  pub before : List Asked
  pub pred : Pred
  pub after : List Asked
  pub checked : asked p r s ≡ before ++ ((o, pred) ∷ after)
  pub held : AllHold s.top before
  pub fails : Holds s.top pred → ⊥

-- the exact result of an operator: sum, difference and product (6.5.6p5, p6, 6.5.5p4), the quotient without its fraction,
-- and what remains of the dividend (6.5.5p6)
abbrev pub IsResult : Op → ℤ → ℤ → ℤ → Type 0
IsResult op.Add v w x = x ≡ v +ℤ w
IsResult op.Sub v w x = x ≡ v -ℤ w
IsResult op.Mul v w x = x ≡ v *ℤ w
IsResult op.Div v w x = (w ≢ pos 0) × (x ≡ int_div v w)
IsResult op.Rem v w x = (w ≢ pos 0) × (x ≡ int_rem v w)
IsResult _ v w x = ⊥

-- an unsigned type keeps what remains modulo 2 to its width (6.2.5p9); a signed one keeps the exact result
abbrev pub kept : IntType → ℤ → ℤ
kept t x = cond t.signed x (int_rem_euclid x (pos (2 ^ t.bits)))

-- the register gets a value, and the next node follows
abbrev pub put : ℕ → Value → Frame → Frame
put to v frame = record { fun = frame.fun; node = frame.node + 1; regs = slice_set frame.regs to (Some v); args = frame.args }

-- one step of the frame fr to the frame u, by an operator on two numbers
pub record Computes (to : ℕ) (op : Op) (t : IntType) (a b : Opnd) (fr u : Frame) : Type 0 where
  pub left : ℤ
  pub right : ℤ
  pub exact : ℤ
  pub left_is : operand_value fr a ≡ Some (number left)
  pub right_is : operand_value fr b ≡ Some (number right)
  pub exact_is : IsResult op left right exact
  pub next : u ≡ put to (number (kept t exact)) fr

-- the arguments stand in the first registers, and the others have no value (6.2.4p5, 6.9.1p9)
abbrev pub start_registers : Function → List Value → List (Option Value)
start_registers f args = map Some args ++ replicate (length f.graph.regs - f.graph.params) None

-- a frame at the first node of a function, with these arguments
abbrev pub start_frame : ℕ → Function → List Value → Frame
start_frame f function args = record { fun = f; node = 0; regs = start_registers function args; args = args }

-- a call of the function f: it runs on the values of the arguments, and its caller waits (6.5.2.2p4, p10)
pub record Enters (p : Project) (f : ℕ) (args : List Opnd) (s u : State) : Type 0 where
  pub function : Function
  pub is_there : slice_get p.functions f ≡ Some function
  pub values : List Value
  pub passed : AllZip (λ a v. operand_value s.top a ≡ Some v) args values
  pub top : u.top ≡ start_frame f function values
  pub rest : u.rest ≡ s.top ∷ s.rest

-- what a frame returns, where it returns a value
abbrev pub Gives : Frame → Option Opnd → Option Value → Type 0
Gives frame None v = v ≡ None
Gives frame (Some a) v = (x : Value) × (operand_value frame a ≡ Some x) × (v ≡ Some x)

-- a caller goes to its next node, and its register gets what was returned
abbrev pub receive : Option RegNo → Option Value → Frame → Frame
receive (Some to) (Some v) frame = put to.0 v frame
receive _ _ frame = record { fun = frame.fun; node = frame.node + 1; regs = frame.regs; args = frame.args }

-- a return to the frame that waits for this one (6.8.6.4p3)
pub record Returns (p : Project) (value : Option Opnd) (s u : State) : Type 0 where
  pub caller : Frame
  pub below : List Frame
  pub waiting : s.rest ≡ caller ∷ below
  pub node : Node
  pub stands : node_under p caller ≡ Some node
  pub to : Option RegNo
  pub callee : Callee
  pub args : List Opnd
  pub strings : List ℕ
  pub calls : node.instr ≡ Call to callee args strings
  pub result : Option Value
  pub is_result : Gives s.top value result
  pub top : u.top ≡ receive to result caller
  pub rest : u.rest ≡ below

-- the next states of an instruction
abbrev pub StepOf : Project → Instr → State → State → Type 0
StepOf p (Bin to op (Int t) a b) s u = Computes to.0 op t a b s.top u.top × (u.rest ≡ s.rest)
StepOf p (Call to (Fun f) args strings) s u = Enters p f.0 args s u
StepOf p (Return value) s u = Returns p value s u
StepOf p _ s u = ⊥

-- one step: all obligations at the node hold, and the instruction goes on
pub record Step (p : Project) (r : Report Pred Rule) (s u : State) : Type 0 where
  pub node : Node
  pub here : node_under p s.top ≡ Some node
  pub held : AllHold s.top (asked p r s)
  pub goes : StepOf p node.instr s u

-- a run of n steps
abbrev pub Run : Project → Report Pred Rule → ℕ → State → State → Type 0
Run p r zero s u = s ≡ u
Run p r (suc n) s u = (v : State) × Step p r s v × Run p r n v u

-- the run ends here without a violation: all obligations hold, and a function returns for which no frame waits (6.8.6.4)
pub record Ends (p : Project) (r : Report Pred Rule) (s : State) : Type 0 where
  pub node : Node
  pub here : node_under p s.top ≡ Some node
  pub value : Option Opnd
  pub returns : node.instr ≡ Return value
  pub held : AllHold s.top (asked p r s)
  pub alone : s.rest ≡ []

-- the run isn't stuck here: an obligation is violated, a next state follows, or the run ends
abbrev pub GoesOn : Project → Report Pred Rule → State → Type 0
GoesOn p r s = ((o : Obl Pred) × Violates p r s o) ⊎ ((u : State) × Step p r s u) ⊎ Ends p r s
