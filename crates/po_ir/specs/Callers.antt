-- Lists of calls, one for each function of a project, in the order of the functions.
use Rattle.std.specs.Prelude.{ℕ, ◌<◌, ◌≡◌, ◌++◌, List, length, slice_index_or}
use Rattle.po_base.specs.declared.numbers.FunNo.{FunNo}
use Rattle.po_base.specs.declared.numbers.NodeNo.{NodeNo}
use Rattle.po_ir.specs.declared.project.Project.{Project}
use Rattle.po_ir.specs.Calls.{call_sites}

abbrev pub Sites : Type 0
Sites = List (FunNo × NodeNo)

-- each function's list has these calls more
pub record Gains (before after : List Sites) (more : FunNo → Sites) : Type 0 where
  pub count : length after ≡ length before
  pub each : (f : ℕ) (d : Sites) → f < length before → slice_index_or after f d ≡ slice_index_or before f d ++ more (record { 0 = f })

-- each function's list has the calls of it in the project
pub record AreCallers (p : Project) (callers : List Sites) : Type 0 where
  pub count : length callers ≡ length p.functions
  pub each : (f : ℕ) (d : Sites) → f < length p.functions → slice_index_or callers f d ≡ call_sites p (record { 0 = f })
