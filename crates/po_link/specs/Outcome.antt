-- What files are joined to.
use Rattle.std.specs.Prelude.{ℕ, ◌≡◌, ◌⊎◌, List, All, false, Result, Ok, Err, Some, slice_get}
use Rattle.po_arith.specs.declared.target.Target.{Target}
use Rattle.po_ir.specs.declared.project.Function.{Function}
use Rattle.po_ir.specs.declared.project.Project.{Project}
use Rattle.po_ir.specs.declared.unit.Unit.{Unit as FileUnit}
use Rattle.po_symbols.specs.declared.link_fail.LinkFail.{LinkFail}
use Rattle.po_symbols.specs.declared.link_fail.LinkFail.TheVariants.{Memory}
use Rattle.po_symbols.specs.Linking.{NoCause, Fits, IsRefused}
use Rattle.po_link.specs.Joined.{IsLinked}

-- the project of the files exactly where nothing keeps them from being joined, else the cause
abbrev pub IsOutcome : List FileUnit → Target → Result Project LinkFail → Type 0
IsOutcome units target (Ok p) = NoCause units × Fits units × IsLinked units target p
IsOutcome units target (Err fail) = IsRefused units fail

-- of two outcomes of the same files one is want of memory, or they are the same
abbrev pub OneOutcome : Type 0
OneOutcome = (units : List FileUnit) (target : Target) (r s : Result Project LinkFail) → IsOutcome units target r → IsOutcome units target s → (r ≡ Err Memory) ⊎ ((s ≡ Err Memory) ⊎ (r ≡ s))

-- no two functions of the file are seen by other files under one name
abbrev pub ShowsOnce : FileUnit → Type 0
ShowsOnce u = (i j : ℕ) (f g : Function) → slice_get u.functions i ≡ Some f → slice_get u.functions j ≡ Some g → f.local ≡ false → g.local ≡ false → f.name ≡ g.name → i ≡ j

-- each external name has one function (6.9p5)
abbrev pub OneFunctionEach : Type 0
OneFunctionEach = (units : List FileUnit) (target : Target) (p : Project) → IsOutcome units target (Ok p) → All ShowsOnce units →
    (i j : ℕ) (f g : Function) → slice_get p.functions i ≡ Some f → slice_get p.functions j ≡ Some g → f.local ≡ false → g.local ≡ false → f.name ≡ g.name → i ≡ j
