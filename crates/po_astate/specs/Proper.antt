-- The proper states of a function.
use Rattle.std.specs.Prelude.{◌≡◌, ℕ, ◌<◌, Bool, true, false, ℤ, pos, List, length, Option, Some, None}
use Rattle.std.specs.List.{AllByRecursion, AllZip}
use Rattle.po_base.specs.declared.numbers.NodeNo.{NodeNo}
use Rattle.po_arith.specs.declared.int_type.IntType.{IntType}
use Rattle.po_arith.specs.declared.interval.Interval.{Interval}
use Rattle.po_arith.specs.Types.{least, greatest}
use Rattle.po_interval.specs.declared.members.Members.TheVariants.{Any}
use Rattle.po_interval.specs.declared.thresholds.Thresholds.{Thresholds}
use Rattle.po_interval.specs.Sets.{IsAmong}
use Rattle.po_interval.specs.Members.{AreOfType}
use Rattle.po_interval.specs.Rounding.{IsThreshold}
use Rattle.po_bases.specs.declared.base.Base.{Base}
use Rattle.po_bases.specs.declared.base.Base.TheVariants.{Param, Slot, Global, Literal, Heap, Null}
use Rattle.po_bases.specs.declared.entry.Entry.{Entry}
use Rattle.po_bases.specs.declared.bases.Bases.{Bases}
use Rattle.po_bases.specs.declared.bases.Bases.TheVariants.{Known, Unknown}
use Rattle.po_bases.specs.declared.heap_fact.HeapFact.{HeapFact}
use Rattle.po_bases.specs.Intervals.{IsBetween}
use Rattle.po_bases.specs.Base.{is_null}
use Rattle.po_astate.specs.Values.{Rel}
use Rattle.po_astate.specs.States.{IsState}
use Rattle.po_astate.specs.declared.value.AValue.{AValue}
use Rattle.po_astate.specs.declared.state.AState.{AState}
use Rattle.po_astate.specs.declared.state.AState.TheVariants.{Bottom, At}

-- What of a function its proper states depend on: the types of its registers, none for a pointer; how many slots, parameters,
-- globals and literals there are; which nodes are a malloc or calloc; and the thresholds.
pub record Shape : Type 0 where
  pub types : List (Option IntType)
  pub slot_count : ℕ
  pub parameters : ℕ
  pub globals : ℕ
  pub literals : ℕ
  pub nodes : ℕ
  pub makes : ℕ → Bool
  pub thresholds : Thresholds

abbrev pub IsMaker : Shape → ℕ → Type 0
IsMaker f n = (n < f.nodes) × (f.makes n ≡ true)

abbrev pub IsThere : Shape → Base → Type 0
IsThere f (Param i) = i < f.parameters
IsThere f (Slot s) = s.0 < f.slot_count
IsThere f (Global g) = g.0 < f.globals
IsThere f (Literal l) = l.0 < f.literals
IsThere f (Heap n) = IsMaker f n.0
IsThere f Null = Unit {0}

-- missing, or at a threshold
abbrev pub IsRoundedEnd : Shape → Option ℤ → Type 0
IsRoundedEnd f None = Unit {0}
IsRoundedEnd f (Some v) = IsThreshold f.thresholds false v

abbrev pub IsRounded : Shape → Interval → Type 0
IsRounded f a = IsRoundedEnd f a.lo × IsRoundedEnd f a.hi

abbrev pub everything : Interval
everything = record { lo = None; hi = None }

abbrev pub nothing_off : Interval
nothing_off = record { lo = Some (pos 0); hi = Some (pos 0) }

-- null is at offset 0
abbrev pub IsPlace : Shape → Entry → Type 0
IsPlace f e = IsThere f e.base × (IsRounded f e.off × (is_null e.base ≡ true → (e.off ≡ nothing_off) × (e.grain ≡ 16)))

abbrev pub ArePlaces : Shape → Bases → Type 0
ArePlaces f (Known es) = AllByRecursion (IsPlace f) es
ArePlaces f Unknown = Unit {0}

abbrev pub IsRelOf : Shape → Rel → Type 0
IsRelOf f None = Unit {0}
IsRelOf f (Some p) = (p.0 < f.parameters) × IsRounded f p.1

abbrev pub range_of : IntType → Interval
range_of t = record { lo = Some (least t); hi = Some (greatest t) }

-- what is known of a register of a type: of a pointer only where it points, of an integer all but that
abbrev pub IsTyped : Shape → Option IntType → AValue → Type 0
IsTyped f None a = (a.range ≡ everything) × ((a.members ≡ Any) × ((a.rel ≡ None) × ArePlaces f a.bases))
IsTyped f (Some t) a =
    (a.bases ≡ Unknown) × (IsRounded f a.range × (IsBetween a.range (range_of t) × (AreOfType t a.members × IsRelOf f a.rel)))

-- a block of a malloc or calloc that is there, whose least size is a threshold
abbrev pub IsBlock : Shape → NodeNo × HeapFact → Type 0
IsBlock f e = IsMaker f e.0.0 × IsThreshold f.thresholds false (pos e.1.size)

-- Not reached; or of the function's numbers of registers and slots, with no part that is empty, lists that ascend and keep to
-- their limits, parts that suit the types of their registers, ends at thresholds, and bases, nodes and parameters that are there.
abbrev pub IsProperState : Shape → AState → Type 0
IsProperState f Bottom = Unit {0}
IsProperState f (At regs slots heap freed wrote) =
    IsState (length f.types) f.slot_count (At regs slots heap freed wrote) × (AllZip (IsTyped f) f.types regs × AllByRecursion (IsBlock f) heap)

-- 0 and both ends of the type of each register are among the coarse thresholds
abbrev pub HasEndsOf : Shape → Option IntType → Type 0
HasEndsOf f None = Unit {0}
HasEndsOf f (Some t) = IsAmong (least t) f.thresholds.coarse × IsAmong (greatest t) f.thresholds.coarse

abbrev pub HasEnds : Shape → Type 0
HasEnds f = IsAmong (pos 0) f.thresholds.coarse × AllByRecursion (HasEndsOf f) f.types
