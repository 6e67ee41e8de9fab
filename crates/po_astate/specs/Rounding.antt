-- States whose ends are rounded to thresholds: ranges, relations to arguments and offsets outwards, sizes of blocks downwards.
use Rattle.std.specs.Prelude.{ℕ, Bool, ℤ, pos, negsuc, Option, Some, None, map}
use Rattle.po_base.specs.declared.numbers.NodeNo.{NodeNo}
use Rattle.po_arith.specs.declared.interval.Interval.{Interval}
use Rattle.po_interval.specs.declared.thresholds.Thresholds.{Thresholds}
use Rattle.po_interval.specs.Rounding.{round}
use Rattle.po_bases.specs.declared.entry.Entry.{Entry}
use Rattle.po_bases.specs.declared.bases.Bases.{Bases}
use Rattle.po_bases.specs.declared.bases.Bases.TheVariants.{Known, Unknown}
use Rattle.po_bases.specs.declared.heap_fact.HeapFact.{HeapFact}
use Rattle.po_astate.specs.Values.{Rel, bounded_rel}
use Rattle.po_astate.specs.declared.value.AValue.{AValue}
use Rattle.po_astate.specs.declared.state.AState.{AState}
use Rattle.po_astate.specs.declared.state.AState.TheVariants.{Bottom, At}

-- none where both ends are missing then
abbrev pub round_rel : Thresholds → Bool → Rel → Rel
round_rel th head None = None
round_rel th head (Some p) = bounded_rel p.0 (round p.1 th head)

abbrev pub round_entry : Thresholds → Bool → Entry → Entry
round_entry th head e = record { base = e.base; off = round e.off th head; grain = e.grain }

abbrev pub round_bases : Thresholds → Bool → Bases → Bases
round_bases th head (Known es) = Known (map (round_entry th head) es)
round_bases th head Unknown = Unknown

abbrev pub round_value : Thresholds → Bool → AValue → AValue
round_value th head a = record {
  set = a.set;
  nonzero = a.nonzero;
  range = round a.range th head;
  members = a.members;
  rel = round_rel th head a.rel;
  bases = round_bases th head a.bases;
}

-- a lower end of sizes; at least 0, which is among the thresholds
abbrev pub size_from : Option ℤ → ℕ
size_from (Some (pos n)) = n
size_from (Some (negsuc n)) = 0
size_from None = 0

-- the sizes from n on
abbrev pub sizes : ℕ → Interval
sizes n = record { lo = Some (pos n); hi = None }

abbrev pub round_size : Thresholds → Bool → ℕ → ℕ
round_size th head n = size_from (round (sizes n) th head).lo

abbrev pub round_fact : Thresholds → Bool → HeapFact → HeapFact
round_fact th head f = record { alive = f.alive; size = round_size th head f.size; filled = f.filled }

abbrev pub round_heap_entry : Thresholds → Bool → NodeNo × HeapFact → NodeNo × HeapFact
round_heap_entry th head e = (e.0, round_fact th head e.1)

abbrev pub round_state : AState → Thresholds → Bool → AState
round_state Bottom th head = Bottom
round_state (At regs slots heap freed wrote) th head = At (map (round_value th head) regs) slots (map (round_heap_entry th head) heap) freed wrote
