-- What is known of a register: the form of its parts, their order and their joins, each part by itself.
use Rattle.std.specs.Prelude.{◌≡◌, ℕ, nat_eq, nat_le, Bool, true, false, cond, not, ◌&&◌, ◌||◌, Option, Some, None}
use Rattle.std.specs.Option.{is_some}
use Rattle.po_arith.specs.declared.interval.Interval.{Interval}
use Rattle.po_arith.specs.Hull.{IsInhabited, hull}
use Rattle.po_interval.specs.Members.{IsProper, AreWithin, members_within, join_members}
use Rattle.po_interval.specs.Within.{interval_within}
use Rattle.po_bases.specs.declared.entry.Entry.{Entry}
use Rattle.po_bases.specs.declared.bases.Bases.{Bases}
use Rattle.po_bases.specs.declared.bases.Bases.TheVariants.{Known, Unknown}
use Rattle.po_bases.specs.General.{Surely}
use Rattle.po_bases.specs.Intervals.{IsBetween}
use Rattle.po_bases.specs.Maps.{covered}
use Rattle.po_bases.specs.Bases.{entry_cmp, IsBases, BasesBelow, join_bases}
use Rattle.po_astate.specs.declared.value.AValue.{AValue}

-- at least one end is there
abbrev pub is_bounded : Interval → Bool
is_bounded a = is_some a.lo || is_some a.hi

-- ---- the relation to an argument

abbrev pub Rel : Type 0
Rel = Option (ℕ × Interval)

abbrev pub IsRel : Rel → Type 0
IsRel None = Unit {0}
IsRel (Some p) = IsInhabited p.1 × (is_bounded p.1 ≡ true)

-- of one argument, with offsets of the one among those of the other; none tells nothing
abbrev pub RelBelow : Rel → Rel → Type 0
RelBelow a None = Unit {0}
RelBelow None (Some q) = ⊥
RelBelow (Some p) (Some q) = (p.0 ≡ q.0) × IsBetween p.1 q.1

abbrev pub rel_within : Rel → Rel → Bool
rel_within a None = true
rel_within None (Some q) = false
rel_within (Some p) (Some q) = nat_eq p.0 q.0 && interval_within p.1 q.1

abbrev pub bounded_rel : ℕ → Interval → Rel
bounded_rel j a = cond (is_bounded a) (Some (j, a)) None

-- the hull where both are of one argument; none where it has no end
abbrev pub join_rel : Rel → Rel → Rel
join_rel (Some p) (Some q) = cond (nat_eq p.0 q.0) (bounded_rel p.0 (hull p.1 q.1)) None
join_rel (Some p) None = None
join_rel None b = None

-- ---- bases

abbrev pub entry_within : Entry → Entry → Bool
entry_within e f = interval_within e.off f.off && nat_le f.grain e.grain

abbrev pub bases_within : Bases → Bases → Bool
bases_within a Unknown = true
bases_within Unknown (Known fs) = false
bases_within (Known es) (Known fs) = covered entry_cmp entry_within es fs

-- ---- the value

-- no part is empty
pub record IsValue (a : AValue) : Type 0 where
  pub range : IsInhabited a.range
  pub members : IsProper a.members
  pub rel : IsRel a.rel
  pub bases : IsBases a.bases

-- part by part
pub record ValueBelow (a b : AValue) : Type 0 where
  pub set : Surely a.set b.set
  pub nonzero : Surely a.nonzero b.nonzero
  pub range : IsBetween a.range b.range
  pub members : AreWithin a.members b.members
  pub rel : RelBelow a.rel b.rel
  pub bases : BasesBelow a.bases b.bases

abbrev pub value_within : AValue → AValue → Bool
value_within a b =
    (a.set || not b.set) && (a.nonzero || not b.nonzero) && interval_within a.range b.range && members_within a.members b.members
    && rel_within a.rel b.rel && bases_within a.bases b.bases

abbrev pub join_values : AValue → AValue → AValue
join_values a b = record {
  set = a.set && b.set;
  nonzero = a.nonzero && b.nonzero;
  range = hull a.range b.range;
  members = join_members a.members b.members;
  rel = join_rel a.rel b.rel;
  bases = join_bases a.bases b.bases;
}
