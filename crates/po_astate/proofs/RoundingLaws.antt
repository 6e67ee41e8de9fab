-- A rounded state is above the state, and rounding is monotone.
use Rattle.std.specs.Prelude.{◌≡◌, ℕ, suc, ◌<◌, ◌≤◌, ◌^◌, Bool, true, false, cond, ℤ, pos, negsuc, ◌≤ℤ◌, List, [], ◌∷◌, length, Option, Some, None, map}
use Rattle.std.proofs.Common.{refl, sym, ap, ◌∙◌, subst, arith}
use Rattle.std.specs.List.{AllByRecursion, AllZip}
use Rattle.std.specs.Option.{option_map}
use Rattle.std.specs.declared.cmp.Ordering.{Ordering}
use Rattle.std.specs.Ordering.{is_eq, nat_cmp}
use Rattle.std.proofs.lemmas.Int.{ints}
use lib.Dec.{T}
use lib.Signed.{non_neg}
use lib.IntN.{nat_abs}
use Rattle.po_base.specs.declared.numbers.NodeNo.{NodeNo}
use Rattle.po_arith.specs.declared.interval.Interval.{Interval}
use Rattle.po_arith.specs.Hull.{IsInhabited}
use Rattle.po_interval.specs.declared.thresholds.Thresholds.{Thresholds}
use Rattle.po_interval.specs.Rounding.{round, RoundingWidens}
use Rattle.po_bases.specs.declared.entry.Entry.{Entry}
use Rattle.po_bases.specs.declared.bases.Bases.{Bases}
use Rattle.po_bases.specs.declared.bases.Bases.TheVariants.{Known, Unknown}
use Rattle.po_bases.specs.declared.filled.Filled.{Filled}
use Rattle.po_bases.specs.declared.heap_fact.HeapFact.{HeapFact}
use Rattle.po_bases.specs.General.{BelowFromNone}
use Rattle.po_bases.specs.Intervals.{IsBetween, LowBelow, in_between}
use Rattle.po_bases.specs.Maps.{find, IsAscending, AreAfter, MapBelow}
use Rattle.po_bases.specs.Base.{base_cmp}
use Rattle.po_bases.specs.Bases.{IsEntry, EntryBelow, IsBases, BasesBelow}
use Rattle.po_bases.specs.Filled.{FilledBelow, node_of, IsHeapEntry, HeapEntryBelow}
use Rattle.po_astate.specs.Values.{is_bounded, Rel, IsRel, RelBelow, IsValue, ValueBelow}
use Rattle.po_astate.proofs.ValuesLaws.{between_tells, bounded_within}
use Rattle.po_astate.specs.States.{IsState, StateBelow}
use Rattle.po_astate.specs.Rounding.{round_rel, round_entry, round_bases, round_value, size_from, sizes, round_size, round_heap_entry, round_state}
use Rattle.po_astate.specs.declared.value.AValue.{AValue}
use Rattle.po_astate.specs.declared.state.AState.{AState}
use Rattle.po_astate.specs.declared.state.AState.TheVariants.{Bottom, At}

-- ---- maps and lists whose items are changed, and not their keys

module _ {E K : Type 0} (key : E → K) (cmp : K → K → Ordering) (f : E → E) (keeps : (x : E) → key (f x) ≡ key x) where
  found_changed : (x : E) (b c : Bool) (m n : Option E) → b ≡ c → m ≡ option_map f n → cond b (Some (f x)) m ≡ option_map f (cond c (Some x) n)
  found_changed x true true m n same rest = refl
  found_changed x true false m n same rest = absurd (let g : true ≡ false = same in cc)
  found_changed x false true m n same rest = absurd (let g : false ≡ true = same in cc)
  found_changed x false false m n same rest = rest

  find-map : (xs : List E) (k : K) → find key cmp (map f xs) k ≡ option_map f (find key cmp xs k)
  find-map [] k = refl
  find-map (x ∷ xs) k =
      found_changed x (is_eq (cmp (key (f x)) k)) (is_eq (cmp (key x) k)) (find key cmp (map f xs) k) (find key cmp xs k) (ap (λ v. is_eq (cmp v k)) (keeps x)) (find-map xs k)

  after_map : (k : K) (xs : List E) → AreAfter key cmp k xs → AreAfter key cmp k (map f xs)
  after_map k [] after = tt
  after_map k (x ∷ xs) after = (ap (cmp k) (keeps x) ∙ after.0, after_map k xs after.1)

  ascending_map : (xs : List E) → IsAscending key cmp xs → IsAscending key cmp (map f xs)
  ascending_map [] ascends = tt
  ascending_map (x ∷ xs) ascends = (subst (λ k. AreAfter key cmp k (map f xs)) (sym (keeps x)) (after_map (key x) xs ascends.0), ascending_map xs ascends.1)

  below_changed : (B : E → E → Type 0) → ((x : E) → B x (f x)) → (m : Option E) → BelowFromNone B m (option_map f m)
  below_changed B above None = tt
  below_changed B above (Some x) = above x

  both_changed : (B : E → E → Type 0) → ((x y : E) → B x y → B (f x) (f y)) → (m n : Option E) → BelowFromNone B m n → BelowFromNone B (option_map f m) (option_map f n)
  both_changed B rises None n h = tt
  both_changed B rises (Some x) None h = h
  both_changed B rises (Some x) (Some y) h = rises x y h

  pub map_above : (B : E → E → Type 0) → ((x : E) → B x (f x)) → (xs : List E) → MapBelow key cmp B xs (map f xs)
  map_above B above xs k = subst (BelowFromNone B (find key cmp xs k)) (sym (find-map xs k)) (below_changed B above (find key cmp xs k))

  pub map_rises : (B : E → E → Type 0) → ((x y : E) → B x y → B (f x) (f y)) → (xs ys : List E) → MapBelow key cmp B xs ys → MapBelow key cmp B (map f xs) (map f ys)
  map_rises B rises xs ys below k =
      subst (λ m. BelowFromNone B m (find key cmp (map f ys) k)) (sym (find-map xs k))
      (subst (BelowFromNone B (option_map f (find key cmp xs k))) (sym (find-map ys k)) (both_changed B rises (find key cmp xs k) (find key cmp ys k) (below k)))

module _ {S : Type 0} (f : S → S) where
  pub all_changed : (P : S → Type 0) → ((x : S) → P x → P (f x)) → (xs : List S) → AllByRecursion P xs → AllByRecursion P (map f xs)
  all_changed P stays [] p = tt
  all_changed P stays (x ∷ xs) p = (stays x p.0, all_changed P stays xs p.1)

  length_map : (xs : List S) → length (map f xs) ≡ length xs
  length_map [] = refl
  length_map (x ∷ xs) = ap suc (length_map xs)

  each_above : (B : S → S → Type 0) → ((x : S) → B x (f x)) → (xs : List S) → AllZip B xs (map f xs)
  each_above B above [] = tt
  each_above B above (x ∷ xs) = (above x, each_above B above xs)

  each_rises : (B : S → S → Type 0) → ((x y : S) → B x y → B (f x) (f y)) → (xs ys : List S) → AllZip B xs ys → AllZip B (map f xs) (map f ys)
  each_rises B rises [] [] h = tt
  each_rises B rises [] (y ∷ ys) h = h
  each_rises B rises (x ∷ xs) [] h = h
  each_rises B rises (x ∷ xs) (y ∷ ys) h = (rises x y h.0, each_rises B rises xs ys h.1)

each_itself : {S : Type 0} (B : S → S → Type 0) → ((x : S) → B x x) → (xs : List S) → AllZip B xs xs
each_itself B itself [] = tt
each_itself B itself (x ∷ xs) = (itself x, each_itself B itself xs)

-- a number from 0 to n as a natural number
pub natural_parts : (low : ℤ) (n : ℕ) → pos 0 ≤ℤ low → low ≤ℤ pos n → T (non_neg low) × (nat_abs low ≤ n)
natural_parts (pos m) n h k = (tt, omega (arith, ints))
natural_parts (negsuc m) n h k = absurd (omega (arith, ints))

below_limit : (a b n : ℕ) → a ≤ b → b < n → a < n
below_limit a b n h k = omega arith

-- ---- the parts

module _ (law : RoundingWidens) (th : Thresholds) (head : Bool) where
  wider : (a : Interval) → IsBetween a (round a th head)
  wider a = (between_tells a (round a th head)).0 (law.wider a th head)

  rises : (a b : Interval) → IsBetween a b → IsBetween (round a th head) (round b th head)
  rises a b h = (between_tells (round a th head) (round b th head)).0 (law.monotone a b th head ((between_tells a b).1 h))

  inhabited : (a : Interval) → IsInhabited a → IsInhabited (round a th head)
  inhabited a (v, v_in) = (v, in_between a (round a th head) v (wider a) v_in)

  rel_above : (j : ℕ) (a b : Interval) (bounded : Bool) → IsBetween a b → RelBelow (Some (j, a)) (cond bounded (Some (j, b)) None)
  rel_above j a b true h = (refl, h)
  rel_above j a b false h = tt

  rel_wider : (r : Rel) → RelBelow r (round_rel th head r)
  rel_wider None = tt
  rel_wider (Some p) = rel_above p.0 p.1 (round p.1 th head) (is_bounded (round p.1 th head)) (wider p.1)

  rel_both : (i j : ℕ) (a b : Interval) (s t : Bool) → is_bounded a ≡ s → is_bounded b ≡ t → i ≡ j → IsBetween a b → RelBelow (cond s (Some (i, a)) None) (cond t (Some (j, b)) None)
  rel_both i j a b true true e f same h = (same, h)
  rel_both i j a b true false e f same h = tt
  rel_both i j a b false false e f same h = tt
  rel_both i j a b false true e f same h = absurd (let g : false ≡ true = sym e ∙ bounded_within a b h f in cc)

  top_rel : (r : Rel) → RelBelow r None
  top_rel None = tt
  top_rel (Some p) = tt

  rel_rises : (r s : Rel) → RelBelow r s → RelBelow (round_rel th head r) (round_rel th head s)
  rel_rises r None h = top_rel (round_rel th head r)
  rel_rises None (Some q) h = absurd h
  rel_rises (Some p) (Some q) h =
      rel_both p.0 q.0 (round p.1 th head) (round q.1 th head) (is_bounded (round p.1 th head)) (is_bounded (round q.1 th head)) refl refl h.0 (rises p.1 q.1 h.1)

  rel_kept : (j : ℕ) (a : Interval) (bounded : Bool) → is_bounded a ≡ bounded → IsInhabited a → IsRel (cond bounded (Some (j, a)) None)
  rel_kept j a true e h = (h, e)
  rel_kept j a false e h = tt

  rel_stays : (r : Rel) → IsRel r → IsRel (round_rel th head r)
  rel_stays None h = tt
  rel_stays (Some p) h = rel_kept p.0 (round p.1 th head) (is_bounded (round p.1 th head)) refl (inhabited p.1 h.0)

  entry_wider : (e : Entry) → EntryBelow e (round_entry th head e)
  entry_wider e = (wider e.off, omega arith)

  entry_rises : (e f : Entry) → EntryBelow e f → EntryBelow (round_entry th head e) (round_entry th head f)
  entry_rises e f h = (rises e.off f.off h.0, h.1)

  bases_wider : (b : Bases) → BasesBelow b (round_bases th head b)
  bases_wider Unknown = tt
  bases_wider (Known es) = map_above (λ (e : Entry). e.base) base_cmp (round_entry th head) (λ e. refl) EntryBelow entry_wider es

  bases_rise : (a b : Bases) → BasesBelow a b → BasesBelow (round_bases th head a) (round_bases th head b)
  bases_rise (Known es) Unknown h = tt
  bases_rise Unknown Unknown h = tt
  bases_rise Unknown (Known fs) h = absurd h
  bases_rise (Known es) (Known fs) h = map_rises (λ (e : Entry). e.base) base_cmp (round_entry th head) (λ e. refl) EntryBelow entry_rises es fs h

  bases_stay : (b : Bases) → IsBases b → IsBases (round_bases th head b)
  bases_stay Unknown h = tt
  bases_stay (Known es) h =
      let long = length_map (round_entry th head) es in (
        (
          (
            ascending_map (λ (e : Entry). e.base) base_cmp (round_entry th head) (λ e. refl) es h.0.0.0,
            all_changed (round_entry th head) IsEntry (λ e form. (inhabited e.off form.0, form.1)) es h.0.0.1,
          ),
          subst (λ n. 0 < n) (sym long) h.0.1,
        ),
        subst (λ n. n ≤ 4) (sym long) h.1,
      )

  value_wider : (a : AValue) → ValueBelow a (round_value th head a)
  value_wider a = record { set = λ h. h; nonzero = λ h. h; range = wider a.range; members = λ v h. h; rel = rel_wider a.rel; bases = bases_wider a.bases }

  value_rises : (a b : AValue) → ValueBelow a b → ValueBelow (round_value th head a) (round_value th head b)
  value_rises a b h = record { set = h.set; nonzero = h.nonzero; range = rises a.range b.range h.range; members = h.members; rel = rel_rises a.rel b.rel h.rel; bases = bases_rise a.bases b.bases h.bases }

  value_stays : (a : AValue) → IsValue a → IsValue (round_value th head a)
  value_stays a h = record { range = inhabited a.range h.range; members = h.members; rel = rel_stays a.rel h.rel; bases = bases_stay a.bases h.bases }

  -- ---- sizes

  size_at_most : (low : Option ℤ) (n : ℕ) → LowBelow (Some (pos n)) low → size_from low ≤ n
  size_at_most None n h = omega arith
  size_at_most (Some (pos m)) n h = omega (arith, ints)
  size_at_most (Some (negsuc m)) n h = omega arith

  sizes_rise : (x y : Option ℤ) → LowBelow x y → size_from y ≤ size_from x
  sizes_rise x None h = omega arith
  sizes_rise x (Some (negsuc n)) h = omega arith
  sizes_rise None (Some (pos n)) h = absurd h
  sizes_rise (Some (pos m)) (Some (pos n)) h = omega (arith, ints)
  sizes_rise (Some (negsuc m)) (Some (pos n)) h = absurd (omega (arith, ints))

  -- a size is rounded downwards
  pub size_lower : (n : ℕ) → round_size th head n ≤ n
  size_lower n = size_at_most (round (sizes n) th head).lo n (wider (sizes n)).0

  at_most_size : (n : ℕ) (low : ℤ) (end : Option ℤ) → end ≡ Some low → LowBelow (Some (pos n)) end → low ≤ℤ pos n
  at_most_size n low end is below = let at : LowBelow (Some (pos n)) (Some low) = subst (LowBelow (Some (pos n))) is below in at

  pub rounded_at_most : (n : ℕ) (low : ℤ) → (round (sizes n) th head).lo ≡ Some low → low ≤ℤ pos n
  rounded_at_most n low is = at_most_size n low (round (sizes n) th head).lo is (wider (sizes n)).0

  size_rises : (m n : ℕ) → n ≤ m → round_size th head n ≤ round_size th head m
  size_rises m n h = sizes_rise (round (sizes m) th head).lo (round (sizes n) th head).lo (rises (sizes m) (sizes n) (omega (arith, ints), tt)).0

  fact_wider : (e : NodeNo × HeapFact) → HeapEntryBelow e (round_heap_entry th head e)
  fact_wider e = (λ h. h, (size_lower e.1.size, λ b h. h))

  fact_rises : (e f : NodeNo × HeapFact) → HeapEntryBelow e f → HeapEntryBelow (round_heap_entry th head e) (round_heap_entry th head f)
  fact_rises e f h = (h.0, (size_rises e.1.size f.1.size h.1.0, h.1.1))

  fact_stays : (e : NodeNo × HeapFact) → IsHeapEntry e → IsHeapEntry (round_heap_entry th head e)
  fact_stays e h = (below_limit (round_size th head e.1.size) e.1.size (2 ^ 64) (size_lower e.1.size) h.0, h.1)

  -- ---- states

  slot_itself : (f : Option Filled) → BelowFromNone FilledBelow f f
  slot_itself None = tt
  slot_itself (Some f) = λ b h. h

  -- the rounded state is above the state
  pub state_wider : (s : AState) → StateBelow s (round_state s th head)
  state_wider Bottom = tt
  state_wider (At regs slots heap freed wrote) = (
    each_above (round_value th head) ValueBelow value_wider regs,
    (
      each_itself (BelowFromNone FilledBelow) slot_itself slots,
      (map_above node_of nat_cmp (round_heap_entry th head) (λ e. refl) HeapEntryBelow fact_wider heap, (λ h. h, λ h. h)),
    ),
  )

  -- greater states are rounded to greater ones
  pub state_rises : (s u : AState) → StateBelow s u → StateBelow (round_state s th head) (round_state u th head)
  state_rises Bottom u h = tt
  state_rises (At regs slots heap freed wrote) Bottom h = h
  state_rises (At regs slots heap freed wrote) (At regs2 slots2 heap2 freed2 wrote2) h = (
    each_rises (round_value th head) ValueBelow value_rises regs regs2 h.0,
    (
      h.1.0,
      (map_rises node_of nat_cmp (round_heap_entry th head) (λ e. refl) HeapEntryBelow fact_rises heap heap2 h.1.1.0, h.1.1.1),
    ),
  )

  -- a rounded state is one of the same function
  pub state_stays : (registers slot_count : ℕ) (s : AState) → IsState registers slot_count s → IsState registers slot_count (round_state s th head)
  state_stays registers slot_count Bottom h = tt
  state_stays registers slot_count (At regs slots heap freed wrote) h = (
    (all_changed (round_value th head) IsValue value_stays regs h.0.0, length_map (round_value th head) regs ∙ h.0.1),
    (
      h.1.0,
      (ascending_map node_of nat_cmp (round_heap_entry th head) (λ e. refl) heap h.1.1.0, all_changed (round_heap_entry th head) IsHeapEntry fact_stays heap h.1.1.1),
    ),
  )
