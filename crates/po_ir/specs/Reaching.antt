-- What functions do by themselves, and what their calls reach.
use Rattle.std.specs.Prelude.{ℕ, ◌≡◌, ◌<◌, ◌↔◌, List, Bool, true, false, IsTrue, Some, Contains, length, slice_get}
use Rattle.std.specs.List.{list_any}
use Rattle.std.specs.Option.{unwrap_or}
use Rattle.std.specs.Ordering.{nat_cmp}
use Rattle.std.specs.BTreeMap.{BTreeMap, get}
use Rattle.po_base.specs.declared.numbers.NodeNo.{NodeNo}
use Rattle.po_base.specs.declared.numbers.LibNo.{LibNo}
use Rattle.po_ir.specs.declared.instr.Callee.TheVariants.{Extern}
use Rattle.po_ir.specs.declared.instr.Reason.TheVariants.{Unread}
use Rattle.po_ir.specs.declared.instr.Instr.{Instr}
use Rattle.po_ir.specs.declared.instr.Instr.TheVariants.{Store, CopyBytes, Fill, Call, Lib, Never}
use Rattle.po_ir.specs.declared.graph.Node.{Node}
use Rattle.po_ir.specs.declared.project.Effects.{Effects}
use Rattle.po_ir.specs.declared.project.Function.{Function}
use Rattle.po_ir.specs.declared.project.Project.{Project}
use Rattle.po_ir.specs.Calls.{call_sites}

-- what a call of a library function may do to memory
abbrev pub LibraryEffects : Type 0
LibraryEffects = LibNo → Effects

-- the instruction may free a block: a library function that does, a function that no file defines, or one that isn't read
abbrev pub frees_here : LibraryEffects → Instr → Bool
frees_here library (Lib to lib args strings) = (library lib).frees
frees_here library (Call to (Extern name) args strings) = true
frees_here library (Never Unread) = true
frees_here library _ = false

-- the instruction may write to a block
abbrev pub writes_here : LibraryEffects → Instr → Bool
writes_here library (Store at value access) = true
writes_here library (CopyBytes to from size align) = true
writes_here library (Fill slot size) = true
writes_here library (Lib to lib args strings) = (library lib).writes
writes_here library (Call to (Extern name) args strings) = true
writes_here library (Never Unread) = true
writes_here library _ = false

-- some node of the function, reachable or not, passes the test
abbrev pub does : (Instr → Bool) → Function → Bool
does test f = list_any (λ (n : Node). test n.instr) f.graph.nodes

-- Reaches p test f: the calls of the function f reach a function with a node that passes the test
pub data Reaches (p : Project) (test : Instr → Bool) : ℕ → Type 0 where
  reaches_itself : (f : ℕ) (function : Function) → slice_get p.functions f ≡ Some function → does test function ≡ true → Reaches p test f
  reaches_through : (f g : ℕ) (function : Function) (n : NodeNo) → slice_get p.functions f ≡ Some function → Contains (call_sites p (record { 0 = g })) (record { 0 = f }, n) → Reaches p test g → Reaches p test f

-- a call of the function f may free, or write
abbrev pub Frees : LibraryEffects → Project → ℕ → Type 0
Frees library p f = Reaches p (frees_here library) f

abbrev pub Writes : LibraryEffects → Project → ℕ → Type 0
Writes library p f = Reaches p (writes_here library) f

-- the effects of library functions by their numbers; one that isn't there may do all
abbrev pub effects_in : BTreeMap ℕ Effects → LibraryEffects
effects_in library lib = unwrap_or (get nat_cmp library lib.0) (record { frees = true; writes = true })

-- the stored effects are those that calls reach
pub record AreEffects (library : LibraryEffects) (p : Project) (effects : List Effects) : Type 0 where
  pub count : length effects ≡ length p.functions
  pub frees : (f : ℕ) (e : Effects) → slice_get effects f ≡ Some e → IsTrue e.frees ↔ Frees library p f
  pub writes : (f : ℕ) (e : Effects) → slice_get effects f ≡ Some e → IsTrue e.writes ↔ Writes library p f

-- one mark for each function, which tells whether its calls reach a node that passes the test
pub record AreReaching (p : Project) (test : Instr → Bool) (marks : List Bool) : Type 0 where
  pub count : length marks ≡ length p.functions
  pub each : (f : ℕ) → f < length p.functions → (slice_get marks f ≡ Some true) ↔ Reaches p test f
