-- Where a pointer points: its bases, their order, their join, and bases that are moved.
use Rattle.std.specs.Prelude.{◌≡◌, ℕ, ◌<◌, ◌≤◌, ◌^◌, min, nat_le, Bool, true, false, cond, ℤ, pos, neg_ℤ, ◌+ℤ◌, ◌<ℤ◌, List, [], ◌∷◌, length, Option, Some, None, ◌⊎◌}
use Rattle.std.specs.List.{All, flat_map}
use Rattle.std.specs.declared.cmp.Ordering.{Ordering}
use Rattle.po_arith.specs.declared.interval.Interval.{Interval}
use Rattle.po_arith.specs.Hull.{IsInhabited, hull}
use Rattle.po_bases.specs.Intervals.{IsBetween}
use Rattle.po_bases.specs.Maps.{merged, by_key, IsMap, MapBelow}
use Rattle.po_bases.specs.Base.{base_cmp, is_null}
use Rattle.po_bases.specs.declared.base.Base.{Base}
use Rattle.po_bases.specs.declared.entry.Entry.{Entry}
use Rattle.po_bases.specs.declared.bases.Bases.{Bases}
use Rattle.po_bases.specs.declared.bases.Bases.TheVariants.{Known, Unknown}

-- the powers of two that an offset may be known to be a multiple of
abbrev pub IsGrain : ℕ → Type 0
IsGrain g = (g ≡ 1) ⊎ ((g ≡ 2) ⊎ ((g ≡ 4) ⊎ ((g ≡ 8) ⊎ (g ≡ 16))))

-- some offset lies between the ends
abbrev pub IsEntry : Entry → Type 0
IsEntry e = IsInhabited e.off × IsGrain e.grain

-- offsets from the one are offsets from the other; a multiple of the greater grain is one of the lesser
abbrev pub EntryBelow : Entry → Entry → Type 0
EntryBelow e f = IsBetween e.off f.off × (f.grain ≤ e.grain)

-- the hull of the offsets, and the least grain
abbrev pub join_entries : Entry → Entry → Entry
join_entries e f = record { base = e.base; off = hull e.off f.off; grain = min e.grain f.grain }

abbrev pub entry_cmp : Entry → Entry → Ordering
entry_cmp = by_key (λ e. e.base) base_cmp

-- one to four bases, each once, ascending; or unknown
abbrev pub IsBases : Bases → Type 0
IsBases (Known es) = ((IsMap (λ e. e.base) base_cmp IsEntry es × (0 < length es)) × (length es ≤ 4))
IsBases Unknown = Unit {0}

-- base by base
abbrev pub BasesBelow : Bases → Bases → Type 0
BasesBelow a Unknown = Unit {0}
BasesBelow Unknown (Known fs) = ⊥
BasesBelow (Known es) (Known fs) = MapBelow (λ e. e.base) base_cmp EntryBelow es fs

-- of at most four bases
abbrev pub few : List Entry → Bases
few es = cond (nat_le (length es) 4) (Known es) Unknown

-- the entries of both, and where both have one of a base its join; unknown past four
abbrev pub join_bases : Bases → Bases → Bases
join_bases (Known es) (Known fs) = few (merged entry_cmp join_entries es fs)
join_bases (Known es) Unknown = Unknown
join_bases Unknown b = Unknown

-- ---- bases that are moved

abbrev pub sum : Option ℤ → Option ℤ → Option ℤ
sum (Some x) (Some y) = Some (x +ℤ y)
sum (Some x) None = None
sum None b = None

abbrev pub moved_interval : Interval → Interval → Interval
moved_interval a by = record { lo = sum a.lo by.lo; hi = sum a.hi by.hi }

abbrev pub moved_entry : Interval → ℕ → Entry → Entry
moved_entry by grain e = record { base = e.base; off = moved_interval e.off by; grain = min e.grain grain }

-- null isn't moved
abbrev pub moved_entries : Interval → ℕ → List Entry → List Entry
moved_entries by grain es = flat_map (λ e. cond (is_null e.base) [] (moved_entry by grain e ∷ [])) es

abbrev pub some_known : List Entry → Option Bases
some_known [] = None
some_known (e ∷ es) = Some (Known (e ∷ es))

-- nothing where null is the only base
abbrev pub move_bases : Bases → Interval → ℕ → Option Bases
move_bases (Known es) by grain = some_known (moved_entries by grain es)
move_bases Unknown by grain = Some Unknown

-- ends whose sums lie below 2^127 in size
abbrev pub EndFits : Option ℤ → Type 0
EndFits None = Unit {0}
EndFits (Some x) = (neg_ℤ (pos (2 ^ 127)) <ℤ x) × (x <ℤ pos (2 ^ 127))

abbrev pub SumsFit : Interval → Interval → Type 0
SumsFit a by = EndFits (sum a.lo by.lo) × EndFits (sum a.hi by.hi)

abbrev pub CanMove : Bases → Interval → Type 0
CanMove (Known es) by = All (λ e. SumsFit e.off by) es
CanMove Unknown by = Unit {0}
