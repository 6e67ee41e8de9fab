-- Each proper state of a function has a rank of at most a height, and a state strictly above another has the greater rank.
use Rattle.std.specs.Prelude.{◌≡◌, ℕ, zero, suc, ◌+◌, ◌-◌, ◌*◌, ◌<◌, ◌≤◌, Bool, false, ℤ, pos, ◌+ℤ◌, ◌<ℤ◌, ◌≤ℤ◌, List, [], ◌∷◌, ◌++◌, length, Option, Some, None, ◌⊎◌}
use Rattle.std.proofs.Common.{refl, sym, ap, subst, arith, inl, inr}
use Rattle.std.specs.List.{AllByRecursion, AllZip, sum_by}
use Rattle.std.proofs.lemmas.Int.{ints, by_lt_z}
use Rattle.std.proofs.lemmas.Bool.{cases_lt}
use Rattle.std.specs.Cmp.{nat_cmp_total}
use Rattle.std.specs.Ordering.{nat_cmp}
use Rattle.std.proofs.lemmas.Map.Lookups.{exact_unsigned}
use Rattle.po_base.specs.declared.numbers.NodeNo.{NodeNo}
use Rattle.po_arith.specs.declared.int_type.IntType.{IntType}
use Rattle.po_arith.specs.declared.interval.Interval.{Interval}
use Rattle.po_interval.specs.Sets.{IsAmong}
use Rattle.po_interval.specs.Members.{WithinIsExact}
use Rattle.po_interval.specs.Rounding.{IsThreshold, least_fine, greatest_fine}
use Rattle.po_bases.specs.declared.base.Base.{Base}
use Rattle.po_bases.specs.declared.entry.Entry.{Entry}
use Rattle.po_bases.specs.declared.bases.Bases.{Bases}
use Rattle.po_bases.specs.declared.bases.Bases.TheVariants.{Known, Unknown}
use Rattle.po_bases.specs.declared.filled.Filled.{Filled}
use Rattle.po_bases.specs.declared.heap_fact.HeapFact.{HeapFact}
use Rattle.po_bases.specs.General.{IfThere, BelowFromNone, BelowNone, EachProper, Maybe, AtLeast}
use Rattle.po_bases.specs.Intervals.{IsBetween}
use Rattle.po_bases.specs.Maps.{IsMap, IsAscending, AreAfter, MapBelow}
use Rattle.po_bases.specs.Base.{base_cmp, base_total, base_same}
use Rattle.po_bases.specs.Bases.{IsGrain, IsEntry, EntryBelow, IsBases, BasesBelow}
use Rattle.po_bases.specs.Filled.{IsFilled, FilledBelow, node_of, HeapEntryBelow, IsHeapEntry, HeapBelow}
use Rattle.po_bases.proofs.FilledLaws.{when_less}
use Rattle.po_astate.specs.Values.{Rel, RelBelow, IsValue, ValueBelow}
use Rattle.po_astate.specs.States.{StateBelow}
use Rattle.po_astate.specs.Ranks.{IsRanked, ranked_among, ranked_below, ranked_alone, ranked_pairs, ranked_along, rank_from_none, rank_to_none, ranked_from_none, ranked_to_none, ranked_each, ranked_maps, map_rank}
use Rattle.po_astate.specs.Heights.{sure_rank, ranked_surely, maybe_rank, ranked_maybe, above_rank, AreEnds, interval_rank, ranked_intervals, ranked_sizes, members_rank, ranked_members, filled_rank, ranked_filled}
use Rattle.po_astate.specs.Proper.{Shape, IsRoundedEnd, IsRounded, IsPlace, ArePlaces, IsRelOf, IsTyped, IsBlock, IsProperState}
use Rattle.po_astate.specs.declared.value.AValue.{AValue}
use Rattle.po_astate.specs.declared.state.AState.{AState}
use Rattle.po_astate.specs.declared.state.AState.TheVariants.{Bottom, At}

-- ---- the thresholds as a list

-- n whole numbers from v on
pub numbers_from : ℤ → ℕ → List ℤ
numbers_from v zero = []
numbers_from v (suc n) = v ∷ numbers_from (v +ℤ pos 1) n

among_numbers : (v : ℤ) (n : ℕ) (w : ℤ) → v ≤ℤ w → w <ℤ (v +ℤ pos n) → IsAmong w (numbers_from v n)
unfolding numbers_from
among_numbers v zero w up under = absurd (omega (arith, ints))
among_numbers v (suc n) w up under = by_lt_z v w (λ less. inr (among_numbers (v +ℤ pos 1) n w (omega (arith, ints)) (omega (arith, ints)))) (λ down. inl (omega (arith, ints)))

pub fine_numbers : List ℤ
fine_numbers = numbers_from least_fine 131073

fine_among : (w : ℤ) → least_fine ≤ℤ w → w ≤ℤ greatest_fine → IsAmong w fine_numbers
unfolding fine_numbers
fine_among w up under = among_numbers least_fine 131073 w up (omega (arith, ints))

-- all thresholds of a function
abbrev pub grid : Shape → List ℤ
grid f = f.thresholds.coarse ++ fine_numbers

in_first : (v : ℤ) (xs ys : List ℤ) → IsAmong v xs → IsAmong v (xs ++ ys)
in_first v [] ys here = absurd here
in_first v (x ∷ xs) ys (inl same) = inl same
in_first v (x ∷ xs) ys (inr later) = inr (in_first v xs ys later)

in_second : (v : ℤ) (xs ys : List ℤ) → IsAmong v ys → IsAmong v (xs ++ ys)
in_second v [] ys here = here
in_second v (x ∷ xs) ys here = inr (in_second v xs ys here)

in_grid : (f : Shape) (v : ℤ) → IsThreshold f.thresholds false v → IsAmong v (grid f)
in_grid f v (inl coarse) = in_first v f.thresholds.coarse fine_numbers coarse
in_grid f v (inr fine) = in_second v f.thresholds.coarse fine_numbers (fine_among v fine.1 fine.2)

end_in_grid : (f : Shape) (a : Option ℤ) → IsRoundedEnd f a → IfThere (λ x. IsAmong x (grid f)) a
end_in_grid f None h = tt
end_in_grid f (Some v) h = in_grid f v h

ends_in_grid : (f : Shape) (a : Interval) → IsRounded f a → AreEnds (grid f) a
ends_in_grid f a h = (end_in_grid f a.lo h.0, end_in_grid f a.hi h.1)

-- ---- grains

grain_small : (g : ℕ) → IsGrain g → g ≤ 16
grain_small g (inl e) = omega arith
grain_small g (inr (inl e)) = omega arith
grain_small g (inr (inr (inl e))) = omega arith
grain_small g (inr (inr (inr (inl e)))) = omega arith
grain_small g (inr (inr (inr (inr e)))) = omega arith

abbrev grain_rank : ℕ → ℕ
grain_rank g = 16 - g

ranked_grains : IsRanked IsGrain AtLeast grain_rank 16
ranked_grains = record { bound = λ g p. omega arith; rises = rises } where
  rises : (g h : ℕ) → IsGrain g → IsGrain h → h ≤ g → (g ≡ h) ⊎ (16 - g < 16 - h)
  rises g h pg ph le =
      let small : g ≤ 16 = grain_small g pg in
      elim (cases_lt h g) [ inl less ↦ inr (omega arith) | inr more ↦ inl (omega arith) ]

module _ (ends : List ℤ) where
  -- ---- relations to an argument

  ranked_argument : IsRanked (λ (j : ℕ). Unit {0}) (λ i j. i ≡ j) (λ j. 0) 0
  ranked_argument = record { bound = λ x px. omega arith; rises = λ x y px py same. inl same }

  abbrev rel_rank : Rel → ℕ
  rel_rank = rank_to_none (λ p. 0 + interval_rank ends p.1) (0 + (suc (length ends) + suc (length ends)))

  abbrev rel_height : ℕ
  rel_height = suc (0 + (suc (length ends) + suc (length ends)))

  rel_order : (r s : Rel) → RelBelow r s → BelowNone (λ p q. (p.0 ≡ q.0) × IsBetween p.1 q.1) r s
  rel_order r None h = tt
  rel_order None (Some q) h = h
  rel_order (Some p) (Some q) h = h

  ranked_rels : IsRanked (IfThere (λ p. Unit {0} × AreEnds ends p.1)) RelBelow rel_rank rel_height
  ranked_rels = ranked_below (ranked_to_none (ranked_pairs ranked_argument (ranked_intervals ends))) RelBelow rel_order

  -- ---- bases

  abbrev EntryForm : Entry → Type 0
  EntryForm e = AreEnds ends e.off × IsGrain e.grain

  abbrev entry_rank : Entry → ℕ
  entry_rank e = 0 + (interval_rank ends e.off + grain_rank e.grain)

  abbrev entry_height : ℕ
  entry_height = 0 + ((suc (length ends) + suc (length ends)) + 16)

  pub ranked_entries : (k : Base) → IsRanked (λ e. (e.base ≡ k) × EntryForm e) EntryBelow entry_rank entry_height
  ranked_entries k =
      ranked_below (ranked_along (λ (e : Entry). (e.base, (e.off, e.grain))) (λ p. record { base = p.0; off = p.1.0; grain = p.1.1 }) (λ e. refl)
      (ranked_pairs (ranked_alone k) (ranked_pairs (ranked_intervals ends) ranked_grains)))
      EntryBelow (λ x y h. (tt, h))

  abbrev bases_rank : Bases → ℕ
  bases_rank (Known es) = map_rank (λ (e : Entry). e.base) base_cmp base_total base_same EntryBelow EntryForm entry_rank entry_height ranked_entries es
  bases_rank Unknown = suc (4 * suc entry_height)

  abbrev BasesForm : Bases → Type 0
  BasesForm (Known es) = IsMap (λ e. e.base) base_cmp EntryForm es × (length es ≤ 4)
  BasesForm Unknown = Unit {0}

  ranked_known : IsRanked (λ es. IsMap (λ e. e.base) base_cmp EntryForm es × (length es ≤ 4)) (MapBelow (λ e. e.base) base_cmp EntryBelow)
      (map_rank (λ (e : Entry). e.base) base_cmp base_total base_same EntryBelow EntryForm entry_rank entry_height ranked_entries) (4 * suc entry_height)
  ranked_known = ranked_maps (λ (e : Entry). e.base) base_cmp base_total base_same EntryBelow EntryForm entry_rank entry_height ranked_entries 4

  known_rises : (r : List Entry → ℕ) (es fs : List Entry) → (es ≡ fs) ⊎ (r es < r fs) → (Known es ≡ Known fs) ⊎ (r es < r fs)
  known_rises r es fs (inl same) = inl (ap Known same)
  known_rises r es fs (inr less) = inr less

  raised : (n h : ℕ) → n ≤ h → n ≤ suc h
  raised n h le = omega arith

  under : (n h : ℕ) → n ≤ h → n < suc h
  under n h le = omega arith

  ranked_bases : IsRanked BasesForm BasesBelow bases_rank (suc (4 * suc entry_height))
  ranked_bases = record { bound = bound; rises = rises } where
    bound : (b : Bases) → BasesForm b → bases_rank b ≤ suc (4 * suc entry_height)
    bound (Known es) p = raised (bases_rank (Known es)) (4 * suc entry_height) (ranked_known.bound es p)
    bound Unknown p = omega arith

    rises : (a b : Bases) → BasesForm a → BasesForm b → BasesBelow a b → (a ≡ b) ⊎ (bases_rank a < bases_rank b)
    rises (Known es) (Known fs) p q h = known_rises (λ gs. bases_rank (Known gs)) es fs (ranked_known.rises es fs p q h)
    rises (Known es) Unknown p q h = inr (under (bases_rank (Known es)) (4 * suc entry_height) (ranked_known.bound es p))
    rises Unknown (Known fs) p q h = absurd h
    rises Unknown Unknown p q h = inl refl

  -- ---- blocks of at most n nodes

  abbrev BlockForm : NodeNo × HeapFact → Type 0
  BlockForm e = IsFilled e.1.filled × IsAmong (pos e.1.size) ends

  abbrev block_rank : NodeNo × HeapFact → ℕ
  block_rank e = 0 + (sure_rank e.1.alive + (above_rank ends (pos e.1.size) + filled_rank e.1.filled))

  abbrev block_height : ℕ
  block_height = 0 + (1 + (length ends + 4097))

  node_is : (n : NodeNo) (k : ℕ) → n.0 ≡ k → n ≡ record { 0 = k }
  node_is n k h i = record { 0 = h i }

  pub ranked_blocks : (k : ℕ) → IsRanked (λ e. (node_of e ≡ k) × BlockForm e) HeapEntryBelow block_rank block_height
  ranked_blocks k =
      ranked_below (ranked_among
      (ranked_along (λ (e : NodeNo × HeapFact). (e.0, (e.1.alive, (e.1.size, e.1.filled)))) (λ p. (p.0, record { alive = p.1.0; size = p.1.1.0; filled = p.1.1.1 })) (λ e. refl)
      (ranked_pairs (ranked_alone (record { 0 = k })) (ranked_pairs ranked_surely (ranked_pairs (ranked_sizes ends) ranked_filled))))
      (λ e. (node_of e ≡ k) × BlockForm e) (λ e h. (node_is e.0 k h.0, (tt, (h.1.1, h.1.0)))))
      HeapEntryBelow (λ x y h. (tt, h))

  abbrev heap_rank : List (NodeNo × HeapFact) → ℕ
  heap_rank es = map_rank node_of nat_cmp nat_cmp_total exact_unsigned HeapEntryBelow BlockForm block_rank block_height ranked_blocks es

  ranked_heaps : (n : ℕ) → IsRanked (λ es. IsMap node_of nat_cmp BlockForm es × (length es ≤ n)) HeapBelow heap_rank (n * suc block_height)
  ranked_heaps n = ranked_maps node_of nat_cmp nat_cmp_total exact_unsigned HeapEntryBelow BlockForm block_rank block_height ranked_blocks n

  -- ---- values

  pub record ValueForm (a : AValue) : Type 0 where
    pub value : IsValue a
    pub range : AreEnds ends a.range
    pub rel : IfThere (λ p. Unit {0} × AreEnds ends p.1) a.rel
    pub bases : BasesForm a.bases

  abbrev value_rank : AValue → ℕ
  value_rank a = sure_rank a.set + (sure_rank a.nonzero + (interval_rank ends a.range + (members_rank a.members + (rel_rank a.rel + bases_rank a.bases))))

  abbrev value_height : ℕ
  value_height = 1 + (1 + ((suc (length ends) + suc (length ends)) + (9 + (rel_height + suc (4 * suc entry_height)))))

  ranked_values : WithinIsExact → IsRanked ValueForm ValueBelow value_rank value_height
  ranked_values exact =
      ranked_below (ranked_among
      (ranked_along (λ (a : AValue). (a.set, (a.nonzero, (a.range, (a.members, (a.rel, a.bases))))))
      (λ p. record { set = p.0; nonzero = p.1.0; range = p.1.1.0; members = p.1.1.1.0; rel = p.1.1.1.1.0; bases = p.1.1.1.1.1 }) (λ a. refl)
      (ranked_pairs ranked_surely (ranked_pairs ranked_surely (ranked_pairs (ranked_intervals ends) (ranked_pairs (ranked_members exact) (ranked_pairs ranked_rels ranked_bases))))))
      ValueForm (λ a h. (tt, (tt, (h.range, (h.value.members, (h.rel, h.bases)))))))
      ValueBelow (λ a b h. (h.set, (h.nonzero, (h.range, (h.members, (h.rel, h.bases))))))

  -- ---- states

  abbrev Parts : Type 0
  Parts = List AValue × (List (Option Filled) × (List (NodeNo × HeapFact) × (Bool × Bool)))

  abbrev parts : AState → Option Parts
  parts Bottom = None
  parts (At regs slots heap freed wrote) = Some (regs, (slots, (heap, (freed, wrote))))

  abbrev whole : Option Parts → AState
  whole None = Bottom
  whole (Some p) = At p.0 p.1.0 p.1.1.0 p.1.1.1.0 p.1.1.1.1

  back : (s : AState) → whole (parts s) ≡ s
  back Bottom = refl
  back (At regs slots heap freed wrote) = refl

  abbrev parts_rank : Parts → ℕ
  parts_rank p = sum_by value_rank p.0 + (sum_by (rank_from_none filled_rank) p.1.0 + (heap_rank p.1.1.0 + (maybe_rank p.1.1.1.0 + maybe_rank p.1.1.1.1)))

  abbrev pub state_rank : AState → ℕ
  state_rank s = rank_from_none parts_rank (parts s)

  module _ (registers slot_count nodes : ℕ) where
    abbrev PartsForm : Parts → Type 0
    PartsForm p = EachProper ValueForm registers p.0 × (EachProper (IfThere IsFilled) slot_count p.1.0 × ((IsMap node_of nat_cmp BlockForm p.1.1.0 × (length p.1.1.0 ≤ nodes)) × (Unit {0} × Unit {0})))

    abbrev PartsBelow : Parts → Parts → Type 0
    PartsBelow p q = AllZip ValueBelow p.0 q.0 × (AllZip (BelowFromNone FilledBelow) p.1.0 q.1.0 × (HeapBelow p.1.1.0 q.1.1.0 × (Maybe p.1.1.1.0 q.1.1.1.0 × Maybe p.1.1.1.1 q.1.1.1.1)))

    abbrev parts_height : ℕ
    parts_height = registers * value_height + (slot_count * suc 4097 + (nodes * suc block_height + (1 + 1)))

    ranked_parts : WithinIsExact → IsRanked PartsForm PartsBelow parts_rank parts_height
    ranked_parts exact =
        ranked_pairs (ranked_each (ranked_values exact) registers) (ranked_pairs (ranked_each (ranked_from_none ranked_filled) slot_count) (ranked_pairs (ranked_heaps nodes) (ranked_pairs ranked_maybe ranked_maybe)))

    state_order : (s u : AState) → StateBelow s u → BelowFromNone PartsBelow (parts s) (parts u)
    state_order Bottom u h = tt
    state_order (At regs slots heap freed wrote) Bottom h = h
    state_order (At regs slots heap freed wrote) (At regs2 slots2 heap2 freed2 wrote2) h = h

    pub ranked_states : WithinIsExact → IsRanked (λ s. IfThere PartsForm (parts s)) StateBelow state_rank (suc parts_height)
    ranked_states exact = ranked_below (ranked_along parts whole back (ranked_from_none (ranked_parts exact))) StateBelow state_order

-- ---- proper states

module _ (f : Shape) where
  entry_form : (e : Entry) → IsEntry e → IsPlace f e → EntryForm (grid f) e
  entry_form e form place = (ends_in_grid f e.off place.1.0, form.1)

  entry_forms : (es : List Entry) → AllByRecursion IsEntry es → AllByRecursion (IsPlace f) es → AllByRecursion (EntryForm (grid f)) es
  entry_forms [] forms places = tt
  entry_forms (e ∷ es) forms places = (entry_form e forms.0 places.0, entry_forms es forms.1 places.1)

  bases_form : (b : Bases) → IsBases b → ArePlaces f b → BasesForm (grid f) b
  bases_form (Known es) form places = ((form.0.0.0, entry_forms es form.0.0.1 places), form.1)
  bases_form Unknown form places = tt

  rel_form : (r : Rel) → IsRelOf f r → IfThere (λ p. Unit {0} × AreEnds (grid f) p.1) r
  rel_form None h = tt
  rel_form (Some p) h = (tt, ends_in_grid f p.1 h.1)

  open_ends : (a : Interval) → a.lo ≡ None → a.hi ≡ None → AreEnds (grid f) a
  open_ends a low high = (subst (IfThere (λ x. IsAmong x (grid f))) (sym low) tt, subst (IfThere (λ x. IsAmong x (grid f))) (sym high) tt)

  value_form : (t : Option IntType) (a : AValue) → IsValue a → IsTyped f t a → ValueForm (grid f) a
  value_form None a form typed = record {
    value = form;
    range = open_ends a.range (ap (λ (i : Interval). i.lo) typed.0) (ap (λ (i : Interval). i.hi) typed.0);
    rel = subst (IfThere (λ p. Unit {0} × AreEnds (grid f) p.1)) (sym typed.1.1.0) tt;
    bases = bases_form a.bases form.bases typed.1.1.1;
  }
  value_form (Some t) a form typed = record {
    value = form;
    range = ends_in_grid f a.range typed.1.0;
    rel = rel_form a.rel typed.1.1.1.1;
    bases = subst (BasesForm (grid f)) (sym typed.0) tt;
  }

  value_forms : (types : List (Option IntType)) (regs : List AValue) → AllByRecursion IsValue regs → AllZip (IsTyped f) types regs → AllByRecursion (ValueForm (grid f)) regs
  value_forms types [] forms typed = tt
  value_forms [] (a ∷ regs) forms typed = absurd typed
  value_forms (t ∷ types) (a ∷ regs) forms typed = (value_form t a forms.0 typed.0, value_forms types regs forms.1 typed.1)

  block_forms : (es : List (NodeNo × HeapFact)) → AllByRecursion IsHeapEntry es → AllByRecursion (IsBlock f) es → AllByRecursion (BlockForm (grid f)) es
  block_forms [] forms blocks = tt
  block_forms (e ∷ es) forms blocks = ((forms.0.1, in_grid f (pos e.1.size) blocks.0.1), block_forms es forms.1 blocks.1)

  -- ascending nodes from a on, below n
  heap_bound : (a n : ℕ) (es : List (NodeNo × HeapFact)) → IsAscending node_of nat_cmp es → AllByRecursion (λ e. a ≤ node_of e) es → AllByRecursion (λ e. node_of e < n) es → length es ≤ n - a
  heap_bound a n [] ascends above below = omega arith
  heap_bound a n (e ∷ es) ascends above below =
      let low = above.0 in
      let high = below.0 in
      let rest : length es ≤ n - suc (node_of e) = heap_bound (suc (node_of e)) n es ascends.1 (after (node_of e) es ascends.0) below.1 in
      omega arith where
        after : (k : ℕ) (fs : List (NodeNo × HeapFact)) → AreAfter node_of nat_cmp k fs → AllByRecursion (λ e. suc k ≤ node_of e) fs
        after k [] h = tt
        after k (g ∷ gs) h = (when_less k (node_of g) h.0, after k gs h.1)

  all_of : (a b : ℕ) → a ≤ b - 0 → a ≤ b
  all_of a b le = omega arith

  from_zero : (es : List (NodeNo × HeapFact)) → AllByRecursion (λ e. 0 ≤ node_of e) es
  from_zero [] = tt
  from_zero (e ∷ es) = (omega arith, from_zero es)

  makers : (es : List (NodeNo × HeapFact)) → AllByRecursion (IsBlock f) es → AllByRecursion (λ e. node_of e < f.nodes) es
  makers [] blocks = tt
  makers (e ∷ es) blocks = (blocks.0.0.0, makers es blocks.1)

  proper_form : (s : AState) → IsProperState f s → IfThere (PartsForm (grid f) (length f.types) f.slot_count f.nodes) (parts (grid f) s)
  proper_form Bottom h = tt
  proper_form (At regs slots heap freed wrote) h = (
    (value_forms f.types regs h.0.0.0 h.1.0, h.0.0.1),
    (
      h.0.1.0,
      (((h.0.1.1.0, block_forms heap h.0.1.1.1 h.1.1), all_of (length heap) f.nodes (heap_bound 0 f.nodes heap h.0.1.1.0 (from_zero heap) (makers heap h.1.1))), (tt, tt)),
    ),
  )

  -- the rank of a state of the function, and the greatest that it may be
  abbrev pub rank_of : AState → ℕ
  rank_of s = state_rank (grid f) s

  abbrev pub height_of : ℕ
  height_of = suc (parts_height (grid f) (length f.types) f.slot_count f.nodes)

  pub proper_ranked : WithinIsExact → IsRanked (IsProperState f) StateBelow rank_of height_of
  proper_ranked exact = ranked_among (ranked_states (grid f) (length f.types) f.slot_count f.nodes exact) (IsProperState f) proper_form
