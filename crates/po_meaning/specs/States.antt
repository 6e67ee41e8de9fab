-- The states of a run.
use Rattle.std.specs.Prelude.{◌-◌, ◌≡◌, ◌++◌, List, ◌∷◌, Option, Some, None, map, take, length, replicate, slice_get}
use Rattle.po_base.specs.declared.numbers.FunNo.{FunNo}
use Rattle.po_ir.specs.declared.instr.Instr.{Instr}
use Rattle.po_ir.specs.declared.project.Function.{Function}
use Rattle.po_ir.specs.declared.project.Project.{Project}
use Rattle.po_ir.specs.Paths.{NodeAt}
use Rattle.po_memory.specs.declared.block.Block.{Block}
use Rattle.po_memory.specs.declared.frame.Frame.{Frame}
use Rattle.po_memory.specs.declared.value.Value.{Value}

-- the frame that runs, those that wait, the last caller first, and all blocks
pub record State : Type 0 where
  pub top : Frame
  pub rest : List Frame
  pub memory : List Block

abbrev pub frames : State → List Frame
frames s = s.top ∷ s.rest

-- the frame is one of this function
abbrev pub IsOf : Project → Frame → Function → Type 0
IsOf p frame f = slice_get p.functions frame.function.0 ≡ Some f

-- the frame is one of this function, and stands at this instruction
pub record StandsAt (p : Project) (frame : Frame) (f : Function) (i : Instr) : Type 0 where
  pub of : IsOf p frame f
  pub node : NodeAt f.graph frame.node.0 i

-- the arguments in the first registers, and no other values; a function that isn't read has no registers
abbrev pub start_registers : Function → List Value → List (Option Value)
start_registers f args = map Some (take f.graph.params args) ++ replicate (length f.graph.regs - f.graph.params) None

-- a frame at node 0 of a function with these arguments (6.5.2.2p4, 6.2.4p5)
abbrev pub start_frame : FunNo → Function → List Value → Frame
start_frame n f args = record {
  function = n;
  node = record { 0 = 0 };
  regs = start_registers f args;
  slots = replicate (length f.graph.slots) None;
  args = args;
}
