-- Comparisons, of numbers and of pointers.
use Rattle.std.specs.Prelude.{◌≡◌, ℤ, int_le, int_lt, Bool, true, false, not}
use Rattle.std.specs.Ordering.{int_eq}
use Rattle.po_base.specs.declared.operators.Op.{Op}
use Rattle.po_base.specs.declared.operators.Op.TheVariants as op
use Rattle.po_memory.specs.declared.value.Value.{Value}
use Rattle.po_memory.specs.declared.value.Value.TheVariants.{Number, Null, Pointer}

-- whether the comparison holds of two numbers (6.5.8p6, 6.5.9p3)
abbrev pub compares : Op → ℤ → ℤ → Bool
compares op.Eq v w = int_eq v w
compares op.Ne v w = not (int_eq v w)
compares op.Lt v w = int_lt v w
compares op.Le v w = int_le v w
compares op.Gt v w = int_lt w v
compares op.Ge v w = int_le w v
compares _ v w = false

-- whether two pointers may be equal, or may not be: null equals null and nothing else, in one block the offsets decide, and of
-- others nothing is known (6.5.9p6)
abbrev pub MayEqual : Value → Value → Bool → Type 0
MayEqual (Number v) w equal = ⊥
MayEqual v (Number w) equal = ⊥
MayEqual Null Null equal = equal ≡ true
MayEqual Null w equal = equal ≡ false
MayEqual v Null equal = equal ≡ false
MayEqual (Pointer block offset) (Pointer other place) equal = block ≡ other → equal ≡ int_eq offset place
MayEqual v w equal = Unit {0}

-- the offsets decide on the order of two pointers into one block (6.5.8p5)
abbrev pub MayOrder : Op → Value → Value → Bool → Type 0
MayOrder o (Pointer block offset) (Pointer other place) holds = (block ≡ other) × (holds ≡ compares o offset place)
MayOrder o v w holds = ⊥

-- whether the comparison may hold of two pointers, or may not
abbrev pub MayCompare : Op → Value → Value → Bool → Type 0
MayCompare op.Eq v w holds = MayEqual v w holds
MayCompare op.Ne v w holds = MayEqual v w (not holds)
MayCompare op.Lt v w holds = MayOrder op.Lt v w holds
MayCompare op.Le v w holds = MayOrder op.Le v w holds
MayCompare op.Gt v w holds = MayOrder op.Gt v w holds
MayCompare op.Ge v w holds = MayOrder op.Ge v w holds
MayCompare _ v w holds = ⊥
