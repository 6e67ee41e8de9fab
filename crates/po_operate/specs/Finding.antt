-- What is looked for is found exactly where there is some.
use Rattle.std.specs.Prelude.{◌≡◌, Bool, true, false, cond, List, Option, None, Some, MatchOption}
use Rattle.po_base.specs.declared.numbers.NodeNo.{NodeNo}
use Rattle.po_base.specs.declared.numbers.RegNo.{RegNo}
use Rattle.po_memory.specs.declared.block.Block.{Block}
use Rattle.po_memory.specs.declared.frame.Frame.{Frame}
use Rattle.po_memory.specs.declared.value.Value.{Value}
use Rattle.po_meaning.specs.Operands.{at_node, put}

-- there is no such value, or this is one
abbrev pub Finds : {X : Type 0} → Option X → (X → Type 0) → Type 0
Finds found IsSo = MatchOption found ((x : _) → IsSo x → ⊥) IsSo

-- blocks may follow and these are some, or none follow
abbrev pub Changes : Bool → (List Block → Type 0) → List Block → Type 0
Changes true IsNext m = IsNext m
Changes false IsNext m = (w : List Block) → IsNext w → ⊥

-- a frame and blocks may follow and these are some, or none follow
abbrev pub Follows : Bool → (Frame → List Block → Type 0) → Frame → List Block → Type 0
Follows true IsNext frame m = IsNext frame m
Follows false IsNext frame m = (u : Frame) (w : List Block) → IsNext u w → ⊥

-- the register got the value that was found
abbrev pub Puts : RegNo → Option Value → Frame → Frame → Bool → Type 0
Puts to None before after done = done ≡ false
Puts to (Some v) before after done = (done ≡ true) × (after ≡ put to v before)

-- the frame went to the node that the test decides on
abbrev pub Branches : Option Bool → NodeNo → NodeNo → Frame → Frame → Bool → Type 0
Branches None yes_side no_side before after done = done ≡ false
Branches (Some holds) yes_side no_side before after done = (done ≡ true) × (after ≡ at_node (cond holds yes_side no_side) before)
