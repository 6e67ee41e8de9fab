-- Greater bases, joins and moved bases allow what they are to.
use Rattle.std.specs.Prelude.{◌≡◌, ℕ, ◌+◌, ◌*◌, ◌≤◌, min, Bool, true, false, cond, ℤ, pos, ◌+ℤ◌, ◌*ℤ◌, List, [], ◌∷◌, ◌++◌, Option, Some, None}
use Rattle.std.proofs.Common.{refl, sym, ap, ◌∙◌, subst, arith, inl, inr}
use Rattle.std.proofs.lemmas.Int.{ints}
use Rattle.std.specs.List.{AllByRecursion}
use Rattle.std.specs.Option.{option_map}
use Rattle.std.specs.Ordering.{is_eq}
use Rattle.po_lists.proofs.Integers.{times_parts, distributes}
use Rattle.po_lists.proofs.Orders.{equal_where_tested}
use Rattle.po_arith.specs.declared.interval.Interval.{Interval}
use Rattle.po_arith.specs.Hull.{IsAtLeast, IsAtMost, IsIn}
use Rattle.po_bases.specs.General.{IfThere, BelowFromNone}
use Rattle.po_bases.specs.Intervals.{IsBetween, LowBelow, HighBelow, in_between}
use Rattle.po_bases.specs.Maps.{find, MapBelow, found_form, not_below}
use Rattle.po_bases.specs.Base.{base_cmp, base_total, base_same, is_null}
use Rattle.po_bases.specs.Bases.{IsGrain, IsEntry, EntryBelow, join_entries, IsBases, BasesBelow, join_bases, sum, moved_entry, moved_entries, some_known, move_bases}
use Rattle.po_bases.proofs.BasesLaws.{lesser_is, entries, bases_join}
use Rattle.po_bases.specs.declared.base.Base.{Base}
use Rattle.po_bases.specs.declared.entry.Entry.{Entry}
use Rattle.po_bases.specs.declared.bases.Bases.{Bases}
use Rattle.po_bases.specs.declared.bases.Bases.TheVariants.{Known, Unknown}
use Rattle.po_bases.specs.Cover.{IsMultiple, EntryAllows, Allows, IsMove, IsNotNull, IsAllowed}

-- ---- multiples

grain_over : (g h : ℕ) → IsGrain g → IsGrain h → h ≤ g → (c : ℕ) × (g ≡ c * h)
grain_over g h (inl is_g) (inl is_h) le = (1, omega arith)
grain_over g h (inl is_g) (inr (inl is_h)) le = absurd (omega arith)
grain_over g h (inl is_g) (inr (inr (inl is_h))) le = absurd (omega arith)
grain_over g h (inl is_g) (inr (inr (inr (inl is_h)))) le = absurd (omega arith)
grain_over g h (inl is_g) (inr (inr (inr (inr is_h)))) le = absurd (omega arith)
grain_over g h (inr (inl is_g)) (inl is_h) le = (2, omega arith)
grain_over g h (inr (inl is_g)) (inr (inl is_h)) le = (1, omega arith)
grain_over g h (inr (inl is_g)) (inr (inr (inl is_h))) le = absurd (omega arith)
grain_over g h (inr (inl is_g)) (inr (inr (inr (inl is_h)))) le = absurd (omega arith)
grain_over g h (inr (inl is_g)) (inr (inr (inr (inr is_h)))) le = absurd (omega arith)
grain_over g h (inr (inr (inl is_g))) (inl is_h) le = (4, omega arith)
grain_over g h (inr (inr (inl is_g))) (inr (inl is_h)) le = (2, omega arith)
grain_over g h (inr (inr (inl is_g))) (inr (inr (inl is_h))) le = (1, omega arith)
grain_over g h (inr (inr (inl is_g))) (inr (inr (inr (inl is_h)))) le = absurd (omega arith)
grain_over g h (inr (inr (inl is_g))) (inr (inr (inr (inr is_h)))) le = absurd (omega arith)
grain_over g h (inr (inr (inr (inl is_g)))) (inl is_h) le = (8, omega arith)
grain_over g h (inr (inr (inr (inl is_g)))) (inr (inl is_h)) le = (4, omega arith)
grain_over g h (inr (inr (inr (inl is_g)))) (inr (inr (inl is_h))) le = (2, omega arith)
grain_over g h (inr (inr (inr (inl is_g)))) (inr (inr (inr (inl is_h)))) le = (1, omega arith)
grain_over g h (inr (inr (inr (inl is_g)))) (inr (inr (inr (inr is_h)))) le = absurd (omega arith)
grain_over g h (inr (inr (inr (inr is_g)))) (inl is_h) le = (16, omega arith)
grain_over g h (inr (inr (inr (inr is_g)))) (inr (inl is_h)) le = (8, omega arith)
grain_over g h (inr (inr (inr (inr is_g)))) (inr (inr (inl is_h))) le = (4, omega arith)
grain_over g h (inr (inr (inr (inr is_g)))) (inr (inr (inr (inl is_h)))) le = (2, omega arith)
grain_over g h (inr (inr (inr (inr is_g)))) (inr (inr (inr (inr is_h)))) le = (1, omega arith)

multiple_of_lesser : (g h : ℕ) (v : ℤ) → IsGrain g → IsGrain h → h ≤ g → IsMultiple g v → IsMultiple h v
multiple_of_lesser g h v is_g is_h le (m, v_is) =
    let over = grain_over g h is_g is_h le in
    (m *ℤ pos over.0, v_is ∙ ap (λ k. m *ℤ pos k) over.1 ∙ times_parts m over.0 h)

sum_multiple : (g : ℕ) (v w : ℤ) → IsMultiple g v → IsMultiple g w → IsMultiple g (v +ℤ w)
sum_multiple g v w (m, v_is) (n, w_is) = (m +ℤ n, ap (λ k. k +ℤ w) v_is ∙ ap (λ k. (m *ℤ pos g) +ℤ k) w_is ∙ sym (distributes m n (pos g)))

-- ---- entries

form_at : (es : List Entry) → AllByRecursion IsEntry es → (b : Base) → IfThere (λ e. (e.base ≡ b) × IsEntry e) (find (λ e. e.base) base_cmp es b)
form_at es forms b = found_form (λ (e : Entry). e.base) base_cmp base_total base_same EntryBelow join_entries (λ x y. refl) IsEntry entries es forms b

entry_up : {V : Type 0} (value : Base → ℤ → Option V) (b : Base) (e f : Option Entry) (p : V) →
    IfThere (λ e. (e.base ≡ b) × IsEntry e) e → IfThere (λ e. (e.base ≡ b) × IsEntry e) f →
    BelowFromNone EntryBelow e f → EntryAllows value b e p → EntryAllows value b f p
entry_up value b None f p e_form f_form below allows = absurd allows
entry_up value b (Some e) None p e_form f_form below allows = absurd below
entry_up value b (Some e) (Some f) p e_form f_form below (v, (v_in, (multiple, is))) =
    (v, (in_between e.off f.off v below.0 v_in, (multiple_of_lesser e.grain f.grain v e_form.1.1 f_form.1.1 below.1 multiple, is)))

-- greater bases allow more
pub allows_up : {V : Type 0} (value : Base → ℤ → Option V) (a b : Bases) (p : V) → IsBases a → IsBases b → BasesBelow a b → Allows value a p → Allows value b p
allows_up value (Known es) (Known fs) p a_form b_form below (k, allows) =
    (k, entry_up value k (find (λ e. e.base) base_cmp es k) (find (λ e. e.base) base_cmp fs k) p (form_at es a_form.0.0.1 k) (form_at fs b_form.0.0.1 k) (below k) allows)
allows_up value (Known es) Unknown p a_form b_form below allows = tt
allows_up value Unknown (Known fs) p a_form b_form below allows = absurd below
allows_up value Unknown Unknown p a_form b_form below allows = tt

-- the join allows what each of the two does
pub join_allows_first : {V : Type 0} (value : Base → ℤ → Option V) (a b : Bases) (p : V) → IsBases a → IsBases b → Allows value a p → Allows value (join_bases a b) p
join_allows_first value a b p a_form b_form allows = allows_up value a (join_bases a b) p a_form (bases_join.stays a b a_form b_form) (bases_join.left a b a_form b_form) allows

pub join_allows_second : {V : Type 0} (value : Base → ℤ → Option V) (a b : Bases) (p : V) → IsBases a → IsBases b → Allows value b p → Allows value (join_bases a b) p
join_allows_second value a b p a_form b_form allows = allows_up value b (join_bases a b) p b_form (bases_join.stays a b a_form b_form) (bases_join.right a b a_form b_form) allows

-- ---- moved bases

-- the entry of a base, moved; none for null
abbrev pub moved_found : Interval → ℕ → Base → Option Entry → Option Entry
moved_found by grain b found = cond (is_null b) None (option_map (moved_entry by grain) found)

found_moved : (by : Interval) (grain : ℕ) (b : Base) (same null : Bool) (x : Entry) (m n : Option Entry) → (same ≡ true → null ≡ is_null b) → n ≡ moved_found by grain b m →
    cond null n (cond same (Some (moved_entry by grain x)) n) ≡ moved_found by grain b (cond same (Some x) m)
found_moved by grain b true true x m n null_is rest = rest ∙ rw (sym (null_is refl)) refl
found_moved by grain b true false x m n null_is rest = rw (sym (null_is refl)) refl
found_moved by grain b false true x m n null_is rest = rest
found_moved by grain b false false x m n null_is rest = rest

split_found : (b : Base) (null : Bool) (e : Entry) (rest : List Entry) →
    find (λ e. e.base) base_cmp (cond null [] (e ∷ []) ++ rest) b
    ≡ cond null (find (λ e. e.base) base_cmp rest b) (cond (is_eq (base_cmp e.base b)) (Some e) (find (λ e. e.base) base_cmp rest b))
split_found b true e rest = refl
split_found b false e rest = refl

pub find-moved_entries : (by : Interval) (grain : ℕ) (es : List Entry) (b : Base) →
    find (λ e. e.base) base_cmp (moved_entries by grain es) b ≡ moved_found by grain b (find (λ e. e.base) base_cmp es b)
find-moved_entries by grain [] b = none (is_null b) where
  none : (null : Bool) → None ≡ cond null None (option_map (moved_entry by grain) None)
  none true = refl
  none false = refl
find-moved_entries by grain (x ∷ xs) b =
    split_found b (is_null x.base) (moved_entry by grain x) (moved_entries by grain xs)
    ∙ found_moved by grain b (is_eq (base_cmp x.base b)) (is_null x.base) x (find (λ e. e.base) base_cmp xs b) (find (λ e. e.base) base_cmp (moved_entries by grain xs) b)
    (λ h. ap is_null (base_same x.base b (equal_where_tested (base_cmp x.base b) h))) (find-moved_entries by grain xs b)

sum_low : (a b : Option ℤ) (v w : ℤ) → IsAtLeast a v → IsAtLeast b w → IsAtLeast (sum a b) (v +ℤ w)
sum_low None b v w h k = tt
sum_low (Some x) None v w h k = tt
sum_low (Some x) (Some y) v w h k = omega (arith, ints)

sum_high : (a b : Option ℤ) (v w : ℤ) → IsAtMost a v → IsAtMost b w → IsAtMost (sum a b) (v +ℤ w)
sum_high None b v w h k = tt
sum_high (Some x) None v w h k = tt
sum_high (Some x) (Some y) v w h k = omega (arith, ints)

module _ {V : Type 0} (value : Base → ℤ → Option V) (move : V → ℤ → V) (moves : IsMove value move) (by : Interval) (grain : ℕ) (is_grain : IsGrain grain) where
  entry_moved : (b : Base) (null : Bool) (found : Option Entry) (p : V) (w : ℤ) → is_null b ≡ null → IfThere (λ e. (e.base ≡ b) × IsEntry e) found →
      IsNotNull value p → IsIn by w → IsMultiple grain w →
      EntryAllows value b found p → EntryAllows value b (cond null None (option_map (moved_entry by grain) found)) (move p w)
  entry_moved b null None p w null_is form not_null w_in multiple allows = absurd allows
  entry_moved b true (Some e) p w null_is form not_null w_in multiple (v, (v_in, (v_multiple, is))) = absurd (not_null b v null_is is)
  entry_moved b false (Some e) p w null_is form not_null w_in multiple (v, (v_in, (v_multiple, is))) =
      let least_is : IsGrain (min e.grain grain) = lesser_is IsGrain e.grain grain form.1.1 is_grain in (
        v +ℤ w,
        (
          (sum_low e.off.lo by.lo v w v_in.0 w_in.0, sum_high e.off.hi by.hi v w v_in.1 w_in.1),
          (
            sum_multiple (min e.grain grain) v w
                (multiple_of_lesser e.grain (min e.grain grain) v form.1.1 least_is (omega arith) v_multiple)
                (multiple_of_lesser grain (min e.grain grain) w is_grain least_is (omega arith) multiple),
            moves b v w p null_is is,
          ),
        ),
      )

  known_allows : (es : List Entry) (k : Base) (p : V) → EntryAllows value k (find (λ e. e.base) base_cmp es k) p → IsAllowed value (some_known es) p
  known_allows [] k p allows = allows
  known_allows (e ∷ es) k p allows = (k, allows)

  -- what a value that isn't null is moved to is allowed where the value was; so there is a base
  pub moved_allows : (a : Bases) (p : V) (w : ℤ) → IsBases a → IsNotNull value p → IsIn by w → IsMultiple grain w → Allows value a p → IsAllowed value (move_bases a by grain) (move p w)
  moved_allows Unknown p w form not_null w_in multiple allows = tt
  moved_allows (Known es) p w form not_null w_in multiple (k, allows) =
      known_allows (moved_entries by grain es) k (move p w)
      (subst (λ found. EntryAllows value k found (move p w)) (sym (find-moved_entries by grain es k))
      (entry_moved k (is_null k) (find (λ e. e.base) base_cmp es k) p w refl (form_at es form.0.0.1 k) not_null w_in multiple allows))

-- ---- greater bases that are moved by more are greater

sum_lows_rise : (a b c d : Option ℤ) → LowBelow a b → LowBelow c d → LowBelow (sum a c) (sum b d)
sum_lows_rise a None c d h k = tt
sum_lows_rise a (Some y) c None h k = tt
sum_lows_rise None (Some y) c (Some w) h k = absurd h
sum_lows_rise (Some x) (Some y) None (Some w) h k = absurd k
sum_lows_rise (Some x) (Some y) (Some v) (Some w) h k = omega (arith, ints)

sum_highs_rise : (a b c d : Option ℤ) → HighBelow a b → HighBelow c d → HighBelow (sum a c) (sum b d)
sum_highs_rise a None c d h k = tt
sum_highs_rise a (Some y) c None h k = tt
sum_highs_rise None (Some y) c (Some w) h k = absurd h
sum_highs_rise (Some x) (Some y) None (Some w) h k = absurd k
sum_highs_rise (Some x) (Some y) (Some v) (Some w) h k = omega (arith, ints)

lesser_grains : (g h k l : ℕ) → h ≤ g → l ≤ k → min h l ≤ min g k
lesser_grains g h k l le less = omega arith

module _ (by more : Interval) (grain lesser : ℕ) (between : IsBetween by more) (less : lesser ≤ grain) where
  moved_up : (e f : Entry) → EntryBelow e f → EntryBelow (moved_entry by grain e) (moved_entry more lesser f)
  moved_up e f h = (
    (sum_lows_rise e.off.lo f.off.lo by.lo more.lo h.0.0 between.0, sum_highs_rise e.off.hi f.off.hi by.hi more.hi h.0.1 between.1),
    lesser_grains e.grain f.grain grain lesser h.1 less,
  )

  found_up : (null : Bool) (m n : Option Entry) → BelowFromNone EntryBelow m n →
      BelowFromNone EntryBelow (cond null None (option_map (moved_entry by grain) m)) (cond null None (option_map (moved_entry more lesser) n))
  found_up true m n h = tt
  found_up false None n h = tt
  found_up false (Some e) None h = h
  found_up false (Some e) (Some f) h = moved_up e f h

  entries_up : (es fs : List Entry) → MapBelow (λ e. e.base) base_cmp EntryBelow es fs →
      MapBelow (λ e. e.base) base_cmp EntryBelow (moved_entries by grain es) (moved_entries more lesser fs)
  entries_up es fs below k =
      subst (λ m. BelowFromNone EntryBelow m (find (λ e. e.base) base_cmp (moved_entries more lesser fs) k)) (sym (find-moved_entries by grain es k))
      (subst (λ n. BelowFromNone EntryBelow (moved_found by grain k (find (λ e. e.base) base_cmp es k)) n) (sym (find-moved_entries more lesser fs k))
      (found_up (is_null k) (find (λ e. e.base) base_cmp es k) (find (λ e. e.base) base_cmp fs k) (below k)))

  some_up : (es fs : List Entry) → MapBelow (λ e. e.base) base_cmp EntryBelow es fs → BelowFromNone BasesBelow (some_known es) (some_known fs)
  some_up [] fs below = tt
  some_up (e ∷ es) [] below = absurd (not_below (λ (x : Entry). x.base) base_cmp base_total base_same EntryBelow e es [] tt below)
  some_up (e ∷ es) (f ∷ fs) below = below

  some_known_up : (es : List Entry) → BelowFromNone BasesBelow (some_known es) (Some Unknown)
  some_known_up [] = tt
  some_known_up (e ∷ es) = tt

  -- a missing result is below all
  pub moving_rises : (a b : Bases) → BasesBelow a b → BelowFromNone BasesBelow (move_bases a by grain) (move_bases b more lesser)
  moving_rises (Known es) (Known fs) below = some_up (moved_entries by grain es) (moved_entries more lesser fs) (entries_up es fs below)
  moving_rises (Known es) Unknown below = some_known_up (moved_entries by grain es)
  moving_rises Unknown (Known fs) below = absurd below
  moving_rises Unknown Unknown below = tt
