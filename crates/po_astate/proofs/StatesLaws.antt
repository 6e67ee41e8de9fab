-- States are ordered part by part, their join is the least upper bound, and the test tells the order.
use Rattle.std.specs.Prelude.{◌≡◌, ℕ, Bool, true, not, ◌&&◌, ◌||◌, List, [], ◌∷◌, Option, Some, None, ◌↔◌}
use Rattle.std.proofs.Common.{refl, subst}
use Rattle.std.specs.List.{AllByRecursion, AllZip}
use Rattle.std.specs.Bool.{Decides}
use Rattle.std.specs.Cmp.{nat_cmp_total}
use Rattle.std.specs.Ordering.{nat_cmp}
use Rattle.std.proofs.lemmas.Bool.Decides.{Decides-and}
use Rattle.std.proofs.lemmas.Map.Lookups.{exact_unsigned}
use Rattle.po_base.specs.declared.numbers.NodeNo.{NodeNo}
use Rattle.po_interval.specs.Members.{WithinIsExact, OneOfAll, JoinIsLeast}
use Rattle.po_bases.specs.declared.filled.Filled.{Filled}
use Rattle.po_bases.specs.declared.heap_fact.HeapFact.{HeapFact}
use Rattle.po_bases.specs.General.{IsJoin, IfThere, BelowFromNone, either_join, from_none, each, each_join, EachProper, Maybe, maybe, maybe_tells, pairs, along, renamed, reordered, rejoined, join_of_lesser, join_of_greater}
use Rattle.po_bases.specs.Maps.{covered_tells}
use Rattle.po_bases.specs.Filled.{IsFilled, FilledBelow, node_of, IsHeapEntry, HeapEntryBelow, IsHeap, HeapBelow, join_heap}
use Rattle.po_bases.proofs.FilledLaws.{filled_join, filled_tells, fact_tells, heaps_join}
use Rattle.po_astate.specs.Each.{each_within}
use Rattle.po_astate.specs.Values.{IsValue, ValueBelow, value_within, join_values}
use Rattle.po_astate.proofs.ValuesLaws.{values_join, value_tells}
use Rattle.po_astate.specs.States.{slot_within, join_slots, heap_entry_within, heap_within, IsState, StateBelow, below_state, join_state}
use Rattle.po_astate.specs.declared.value.AValue.{AValue}
use Rattle.po_astate.specs.declared.state.AState.{AState}
use Rattle.po_astate.specs.declared.state.AState.TheVariants.{Bottom, At}

-- ---- lists of one length

pub each_tells : {S : Type 0} (P : S → Type 0) (B : S → S → Type 0) (w : S → S → Bool) → ((x y : S) → P x → P y → Decides (w x y) (B x y)) →
    (xs ys : List S) → AllByRecursion P xs → AllByRecursion P ys → Decides (each_within w xs ys) (AllZip B xs ys)
each_tells P B w tells [] [] px py = (λ h. tt, λ h. refl)
each_tells P B w tells [] (y ∷ ys) px py = (λ h. cc, λ h. absurd h)
each_tells P B w tells (x ∷ xs) [] px py = (λ h. cc, λ h. absurd h)
each_tells P B w tells (x ∷ xs) (y ∷ ys) px py = Decides-and (w x y) (each_within w xs ys) (tells x y px.0 py.0) (each_tells P B w tells xs ys px.1 py.1)

-- ---- slots and blocks

slot_tells : (f g : Option Filled) → IfThere IsFilled f → IfThere IsFilled g → Decides (slot_within f g) (BelowFromNone FilledBelow f g)
slot_tells None g pf pg = (λ h. tt, λ h. refl)
slot_tells (Some f) None pf pg = (λ h. cc, λ h. absurd h)
slot_tells (Some f) (Some g) pf pg = filled_tells f g pf pg

heap_entry_tells : (e f : NodeNo × HeapFact) → IsHeapEntry e → IsHeapEntry f → Decides (heap_entry_within e f) (HeapEntryBelow e f)
heap_entry_tells e f pe pf = fact_tells e.1 f.1 pe pf

heap_tells : (es fs : List (NodeNo × HeapFact)) → IsHeap es → IsHeap fs → Decides (heap_within es fs) (HeapBelow es fs)
heap_tells es fs pe pf = covered_tells node_of nat_cmp nat_cmp_total exact_unsigned HeapEntryBelow heap_entry_within IsHeapEntry heap_entry_tells es fs pe pf

-- ---- states

abbrev Parts : Type 0
Parts = List AValue × (List (Option Filled) × (List (NodeNo × HeapFact) × (Bool × Bool)))

abbrev parts : AState → Option Parts
parts Bottom = None
parts (At regs slots heap freed wrote) = Some (regs, (slots, (heap, (freed, wrote))))

abbrev whole : Option Parts → AState
whole None = Bottom
whole (Some p) = At p.0 p.1.0 p.1.1.0 p.1.1.1.0 p.1.1.1.1

back : (s : AState) → whole (parts s) ≡ s
back Bottom = refl
back (At regs slots heap freed wrote) = refl

there : (o : Option Parts) → parts (whole o) ≡ o
there None = refl
there (Some p) = refl

module _ (exact : WithinIsExact) (one : OneOfAll) (law : JoinIsLeast) (registers slot_count : ℕ) where
  abbrev IsParts : Parts → Type 0
  IsParts p = EachProper IsValue registers p.0 × (EachProper (IfThere IsFilled) slot_count p.1.0 × (IsHeap p.1.1.0 × (Unit {0} × Unit {0})))

  abbrev PartsBelow : Parts → Parts → Type 0
  PartsBelow p q = AllZip ValueBelow p.0 q.0 × (AllZip (BelowFromNone FilledBelow) p.1.0 q.1.0 × (HeapBelow p.1.1.0 q.1.1.0 × (Maybe p.1.1.1.0 q.1.1.1.0 × Maybe p.1.1.1.1 q.1.1.1.1)))

  abbrev join_parts : Parts → Parts → Parts
  join_parts p q = (each_join join_values p.0 q.0, (each_join join_slots p.1.0 q.1.0, (join_heap p.1.1.0 q.1.1.0, (p.1.1.1.0 || q.1.1.1.0, p.1.1.1.1 || q.1.1.1.1))))

  parts_join : IsJoin IsParts PartsBelow join_parts
  parts_join =
      pairs (each (values_join exact one law) registers) (pairs (each (from_none filled_join) slot_count) (pairs heaps_join (pairs maybe maybe)))

  same_form : (s : AState) → IfThere IsParts (parts s) ↔ IsState registers slot_count s
  same_form Bottom = (λ h. h, λ h. h)
  same_form (At regs slots heap freed wrote) = (λ h. (h.0, (h.1.0, h.1.1.0)), λ h. (h.0, (h.1.0, (h.1.1, (tt, tt)))))

  same_order : (s u : AState) → BelowFromNone PartsBelow (parts s) (parts u) ↔ StateBelow s u
  same_order Bottom u = (λ h. h, λ h. h)
  same_order (At regs slots heap freed wrote) Bottom = (λ h. h, λ h. h)
  same_order (At regs slots heap freed wrote) (At regs2 slots2 heap2 freed2 wrote2) = (λ h. h, λ h. h)

  same_join : (s u : AState) → whole (either_join join_parts (parts s) (parts u)) ≡ join_state s u
  same_join Bottom u = back u
  same_join (At regs slots heap freed wrote) Bottom = refl
  same_join (At regs slots heap freed wrote) (At regs2 slots2 heap2 freed2 wrote2) = refl

  pub states_join : IsJoin (IsState registers slot_count) StateBelow join_state
  states_join =
      rejoined (reordered (renamed (along parts whole back there (from_none parts_join)) (IsState registers slot_count) same_form) StateBelow (λ s u ps pu. same_order s u)) join_state same_join

  pub state_tells : (s u : AState) → IsState registers slot_count s → IsState registers slot_count u → Decides (below_state s u) (StateBelow s u)
  state_tells Bottom u ps pu = (λ h. tt, λ h. refl)
  state_tells (At regs slots heap freed wrote) Bottom ps pu = (λ h. cc, λ h. absurd h)
  state_tells (At regs slots heap freed wrote) (At regs2 slots2 heap2 freed2 wrote2) ps pu =
      let both = Decides-and ((not freed || freed2) && (not wrote || wrote2) && each_within value_within regs regs2 && each_within slot_within slots slots2) (heap_within heap heap2)
      (Decides-and ((not freed || freed2) && (not wrote || wrote2) && each_within value_within regs regs2) (each_within slot_within slots slots2)
      (Decides-and ((not freed || freed2) && (not wrote || wrote2)) (each_within value_within regs regs2)
      (Decides-and (not freed || freed2) (not wrote || wrote2) (maybe_tells freed freed2) (maybe_tells wrote wrote2))
      (each_tells IsValue ValueBelow value_within (value_tells exact one law) regs regs2 ps.0.0 pu.0.0))
      (each_tells (IfThere IsFilled) (BelowFromNone FilledBelow) slot_within slot_tells slots slots2 ps.1.0.0 pu.1.0.0))
      (heap_tells heap heap2 ps.1.1 pu.1.1) in (
        λ t. let p = both.0 t in (p.0.0.1, (p.0.1, (p.1, (p.0.0.0.0, p.0.0.0.1)))),
        λ h. both.1 ((((h.1.1.1.0, h.1.1.1.1), h.0), h.1.0), h.1.1.0),
      )

  -- the order that the test tells, and the join its least upper bound
  pub tested_join : IsJoin (IsState registers slot_count) (λ s u. below_state s u ≡ true) join_state
  tested_join = reordered states_join (λ s u. below_state s u ≡ true) (λ s u ps pu. let tells = state_tells s u ps pu in (tells.1, tells.0))

  -- where the test holds, the join is one of the two
  pub joins_to_second : (s u : AState) → IsState registers slot_count s → IsState registers slot_count u → below_state s u ≡ true → join_state s u ≡ u
  joins_to_second s u ps pu h = join_of_lesser tested_join s u ps pu h

  pub joins_to_first : (s u : AState) → IsState registers slot_count s → IsState registers slot_count u → below_state u s ≡ true → join_state s u ≡ s
  joins_to_first s u ps pu h = join_of_greater tested_join s u ps pu h

-- the values of a state of a function
pub regs_form : (registers slot_count : ℕ) (s : AState) (regs : List AValue) (slots : List (Option Filled)) (heap : List (NodeNo × HeapFact)) (freed wrote : Bool) →
    IsState registers slot_count s → s ≡ At regs slots heap freed wrote → AllByRecursion IsValue regs
regs_form registers slot_count s regs slots heap freed wrote form is = (subst (IsState registers slot_count) is form).0.0
