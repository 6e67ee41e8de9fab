-- Ranges of whole numbers, operators that never leave their type over them, and numbers that are small enough to be
-- counted with.
use Rattle.std.specs.Prelude.{ℕ, ◌^◌, ◌<◌, ◌≡◌, ◌⊎◌, ℤ, pos, neg_ℤ, ◌≤ℤ◌, Option, Some, None, All, length, SomeIff, FitsSigned}
use mir.Syntax.{w128}
use Rattle.po_base.specs.declared.operand.Opnd.{Opnd}
use Rattle.po_base.specs.declared.operand.Opnd.TheVariants.{Reg, Num}
use Rattle.po_arith.specs.declared.range.Range.{Range}
use Rattle.po_ir.specs.declared.instr.Ty.TheVariants.{Int}
use Rattle.po_ir.specs.declared.instr.Instr.{Instr}
use Rattle.po_ir.specs.declared.instr.Instr.TheVariants.{Bin, Call}
use Rattle.po_ir.specs.declared.project.Function.{Function}
use Rattle.po_ir.specs.declared.project.Project.{Project}
use Rattle.po_pred.specs.declared.pred.Place.{Place}
use Rattle.po_pred.specs.declared.pred.Over.{Over}
use Rattle.po_pred.specs.declared.pred.Pred.{Pred}
use Rattle.po_pred.specs.declared.pred.Pred.TheVariants.{Nonzero, NoOver}
use Rattle.po_app.specs.Predicates.{Fits}

abbrev pub IsIn : Range → ℤ → Type 0
IsIn range v = (range.lo ≤ℤ v) × (v ≤ℤ range.hi)

-- no result of numbers of the two ranges leaves the signed type of this width
abbrev pub NeverLeaves : Over → ℕ → Range → Range → Type 0
NeverLeaves op bits a b = (v w : ℤ) → IsIn a v → IsIn b w → Fits op bits v w

-- z, as far as 128 bits hold it
abbrev pub IsCounted : Option ℤ → ℤ → Type 0
IsCounted v z = SomeIff v (FitsSigned w128 z) z

-- a width of the types in which C computes
abbrev pub IsWidth : ℕ → Type 0
IsWidth bits = (bits ≡ 32) ⊎ (bits ≡ 64)

-- at most 2^62 in size
abbrev pub IsSmall : ℤ → Type 0
IsSmall v = (neg_ℤ (pos (2 ^ 62)) ≤ℤ v) × (v ≤ℤ pos (2 ^ 62))

-- a number of a predicate: at most 2^65 in size, so that it can be moved by any int
abbrev pub IsSmallEnd : ℤ → Type 0
IsSmallEnd v = (neg_ℤ (pos (2 ^ 65)) ≤ℤ v) × (v ≤ℤ pos (2 ^ 65))

pub record IsSmallPlace (p : Place) : Type 0 where
  pub low : IsSmallEnd p.lo
  pub high : IsSmallEnd p.hi

abbrev pub IsSmallSecond : Option Place → Type 0
IsSmallSecond None = Unit {0}
IsSmallSecond (Some p) = IsSmallPlace p

abbrev pub IsSmallPredicate : Pred → Type 0
IsSmallPredicate (Nonzero x) = IsSmallPlace x
IsSmallPredicate (NoOver op bits a b) = IsWidth bits × IsSmallPlace a × IsSmallSecond b
IsSmallPredicate _ = Unit {0}

abbrev pub IsSmallOperand : Opnd → Type 0
IsSmallOperand (Reg r) = Unit {0}
IsSmallOperand (Num n) = IsSmall n

abbrev pub IsSmallInstr : Instr → Type 0
IsSmallInstr (Bin to op (Int t) a b) = IsWidth t.bits × IsSmallOperand a × IsSmallOperand b
IsSmallInstr (Call to callee args strings) = (length args < 2 ^ 32) × All IsSmallOperand args
IsSmallInstr _ = Unit {0}

pub record IsSmallFunction (f : Function) : Type 0 where
  pub few : length f.graph.nodes < 2 ^ 32
  pub small : All (λ n. IsSmallInstr n.instr) f.graph.nodes

-- the numbers of the project's nodes are small, its parts are counted in 32 bits, and its functions stand in its files
pub record IsSmallProject (p : Project) : Type 0 where
  pub few : length p.functions < 2 ^ 32
  pub few_files : length p.files < 2 ^ 32
  pub in_files : All (λ f. f.file.0 < length p.files) p.functions
  pub small : All IsSmallFunction p.functions
