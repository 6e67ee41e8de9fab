-- Which graph stands for which definition: its operators and calls as nodes, operands first and from left to right.
use Rattle.std.specs.Prelude.{ℕ, ◌+◌, ◌≡◌, ◌++◌, List, [], ◌∷◌, map, length, replicate, pos, codes, Some, None, false, true}
use Rattle.std.specs.List.{AllZip}
use Rattle.po_base.specs.declared.operators.Op.{Op}
use Rattle.po_base.specs.declared.operand.Opnd.{Opnd}
use Rattle.po_base.specs.declared.operand.Opnd.TheVariants.{Reg, Num}
use Rattle.po_ir.specs.declared.instr.Ty.{Ty}
use Rattle.po_ir.specs.declared.instr.Ty.TheVariants.{Int}
use Rattle.po_ir.specs.declared.instr.Instr.{Instr}
use Rattle.po_ir.specs.declared.instr.Callee.TheVariants.{Fun}
use Rattle.po_ir.specs.declared.instr.Instr.TheVariants.{Bin, Call, Return}
use Rattle.po_ir.specs.declared.graph.Node.{Node}
use Rattle.po_ir.specs.declared.graph.Reg.{Reg as Register}
use Rattle.po_ir.specs.declared.graph.Graph.{Graph}
use Rattle.po_ir.specs.declared.project.Function.{Function}
use Rattle.po_ir.specs.declared.project.Project.{Project}
use Rattle.po_arith.specs.declared.target.Target.TheVariants.{L64}
use Rattle.po_straight.specs.declared.expression.Expression.{Expression}
use Rattle.po_straight.specs.declared.expression.Expression.TheVariants as e
use Rattle.po_straight.specs.declared.definition.Definition.{Definition}

-- the type int of the target: 32 bits, signed
abbrev pub int : Ty
int = Int (record { bits = 32; signed = true })

abbrev pub register : ℕ → Opnd
register r = Reg (record { 0 = r })

abbrev pub node_at : List ℕ → ℕ → Instr → Node
node_at file line instr = record { instr = instr; spot = record { file = file; line = line } }

-- Registers are the parameters and then the temporaries, of which each operator and each call takes the next.
mutual
  -- Lowers file params x taken nodes v: after that many temporaries are taken, x becomes these nodes, and v holds its value
  pub data Lowers (file : List ℕ) (params : ℕ) : Expression → ℕ → List Node → Opnd → Type 0 where
    parameter : (n taken : ℕ) → Lowers file params (e.Parameter n) taken [] (register n)
    constant : (value taken : ℕ) → Lowers file params (e.Constant value) taken [] (Num (pos value))
    paren : (x : Expression) (taken : ℕ) (nodes : List Node) (v : Opnd) →
        Lowers file params x taken nodes v → Lowers file params (e.Paren x) taken nodes v
    binary : (op : Op) (line taken : ℕ) (x y : Expression) (ms ns : List Node) (v w : Opnd) →
        Lowers file params x taken ms v → Lowers file params y (taken + length ms) ns w →
        Lowers file params (e.Binary op line x y) taken
        (ms ++ (ns ++ (node_at file line (Bin (record { 0 = params + (taken + (length ms + length ns)) }) op int v w) ∷ [])))
        (register (params + (taken + (length ms + length ns))))
    call : (f line taken : ℕ) (arguments : List Expression) (nodes : List Node) (values : List Opnd) →
        LowersAll file params arguments taken nodes values →
        Lowers file params (e.Call f line arguments) taken
        (nodes ++ node_at file line (Call (Some (record { 0 = params + (taken + length nodes) })) (Fun (record { 0 = f })) values []) ∷ [])
        (register (params + (taken + length nodes)))

  -- the same of expressions one after the other, each with its value
  pub data LowersAll (file : List ℕ) (params : ℕ) : List Expression → ℕ → List Node → List Opnd → Type 0 where
    none : (taken : ℕ) → LowersAll file params [] taken [] []
    more : (taken : ℕ) (x : Expression) (xs : List Expression) (ms ns : List Node) (v : Opnd) (vs : List Opnd) →
        Lowers file params x taken ms v → LowersAll file params xs (taken + length ms) ns vs →
        LowersAll file params (x ∷ xs) taken (ms ++ ns) (v ∷ vs)

abbrev pub parameter_register : List ℕ → Register
parameter_register name = record { name = Some name; ty = int; param = true }

abbrev pub temporary_register : Register
temporary_register = record { name = None; ty = int; param = false }

-- the nodes of the value and then the return of it; a register for each parameter and for each temporary
pub record IsGraph (file : List ℕ) (d : Definition) (g : Graph) : Type 0 where
  pub nodes : List Node
  pub value : Opnd
  pub lowered : Lowers file (length d.parameters) d.value 0 nodes value
  pub all_nodes : g.nodes ≡ nodes ++ node_at file d.line (Return (Some value)) ∷ []
  pub all_regs : g.regs ≡ map parameter_register d.parameters ++ replicate (length nodes) temporary_register
  pub no_slots : g.slots ≡ []
  pub params : g.params ≡ length d.parameters

pub record IsFunction (file : List ℕ) (d : Definition) (f : Function) : Type 0 where
  pub first_file : f.file ≡ record { 0 = 0 }
  pub name : f.name ≡ d.name
  pub external : f.local ≡ false
  pub result : f.result ≡ record { text = codes "i32" }
  pub graph : IsGraph file d f.graph

-- the project of one file with these definitions
pub record IsProject (file : List ℕ) (ds : List Definition) (p : Project) : Type 0 where
  pub files : p.files ≡ file ∷ []
  pub opaque : p.opaque ≡ []
  pub functions : AllZip (IsFunction file) ds p.functions
  pub globals : p.globals ≡ []
  pub texts : p.texts ≡ []
  pub effects : p.effects ≡ []
  pub target : p.target ≡ L64
