-- What is known at a node: its form, its order and its joins, each part by itself.
use Rattle.std.specs.Prelude.{ℕ, Bool, true, false, not, ◌&&◌, ◌||◌, List, Option, Some, None}
use Rattle.std.specs.List.{AllZip}
use Rattle.po_base.specs.declared.numbers.NodeNo.{NodeNo}
use Rattle.po_bases.specs.declared.filled.Filled.{Filled}
use Rattle.po_bases.specs.declared.heap_fact.HeapFact.{HeapFact}
use Rattle.po_bases.specs.General.{Maybe, IfThere, BelowFromNone, either_join, each_join, EachProper}
use Rattle.po_bases.specs.Maps.{covered}
use Rattle.po_bases.specs.Filled.{IsFilled, FilledBelow, join_filled, filled_within, fact_within, heap_cmp, IsHeap, HeapBelow, join_heap}
use Rattle.po_astate.specs.Each.{each_within}
use Rattle.po_astate.specs.Values.{IsValue, ValueBelow, value_within, join_values}
use Rattle.po_astate.specs.declared.state.AState.{AState}
use Rattle.po_astate.specs.declared.state.AState.TheVariants.{Bottom, At}

-- ---- a slot; one that isn't entered is below all, and joins as the other's

abbrev pub slot_within : Option Filled → Option Filled → Bool
slot_within None g = true
slot_within (Some f) None = false
slot_within (Some f) (Some g) = filled_within f g

abbrev pub join_slots : Option Filled → Option Filled → Option Filled
join_slots = either_join join_filled

-- ---- a block of malloc or calloc

abbrev pub heap_entry_within : NodeNo × HeapFact → NodeNo × HeapFact → Bool
heap_entry_within e f = fact_within e.1 f.1

abbrev pub heap_within : List (NodeNo × HeapFact) → List (NodeNo × HeapFact) → Bool
heap_within es fs = covered heap_cmp heap_entry_within es fs

-- ---- the state

-- of a function of these numbers of registers and slots
abbrev pub IsState : ℕ → ℕ → AState → Type 0
IsState registers slot_count Bottom = Unit {0}
IsState registers slot_count (At regs slots heap freed wrote) =
    EachProper IsValue registers regs × (EachProper (IfThere IsFilled) slot_count slots × IsHeap heap)

-- two states of one function
pub record AreAlike (a b : AState) : Type 0 where
  pub registers : ℕ
  pub slot_count : ℕ
  pub first : IsState registers slot_count a
  pub second : IsState registers slot_count b

-- part by part; a node that isn't reached is below all
abbrev pub StateBelow : AState → AState → Type 0
StateBelow Bottom b = Unit {0}
StateBelow (At regs slots heap freed wrote) Bottom = ⊥
StateBelow (At regs slots heap freed wrote) (At more_regs more_slots more_heap more_freed more_wrote) =
    AllZip ValueBelow regs more_regs × (AllZip (BelowFromNone FilledBelow) slots more_slots × (HeapBelow heap more_heap × (Maybe freed more_freed × Maybe wrote more_wrote)))

abbrev pub below_state : AState → AState → Bool
below_state Bottom b = true
below_state (At regs slots heap freed wrote) Bottom = false
below_state (At regs slots heap freed wrote) (At more_regs more_slots more_heap more_freed more_wrote) =
    (not freed || more_freed) && (not wrote || more_wrote) && each_within value_within regs more_regs && each_within slot_within slots more_slots && heap_within heap more_heap

abbrev pub join_state : AState → AState → AState
join_state Bottom b = b
join_state (At regs slots heap freed wrote) Bottom = At regs slots heap freed wrote
join_state (At regs slots heap freed wrote) (At more_regs more_slots more_heap more_freed more_wrote) =
    At (each_join join_values regs more_regs) (each_join join_slots slots more_slots) (join_heap heap more_heap) (freed || more_freed) (wrote || more_wrote)
