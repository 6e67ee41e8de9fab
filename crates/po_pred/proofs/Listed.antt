-- Each predicate over so many parameters with bounded numbers is in the list of them.
use Rattle.std.proofs.Common.{◌≡◌, ◌⊎◌, ℕ, zero, suc, ◌+◌, ◌^◌, ◌<◌, List, [], ◌∷◌, ◌++◌, map, refl, sym, ap, subst, inl, inr, arith, lit<}
use Rattle.std.specs.Prelude.{ℤ, pos, neg_ℤ, ◌+ℤ◌, ◌≤ℤ◌, ◌<ℤ◌, Option, Some, None, All}
use Rattle.std.specs.List.{Contains}
use Rattle.std.proofs.lemmas.Int.{ints, by_lt_z}
use Rattle.std.proofs.lemmas.List.Elements.{All-head, All-tail, Contains-append_left, Contains-append_right}
use Rattle.po_lists.proofs.Members.{Has, contains, contains_map, contains_flat_map}
use Rattle.po_pred.specs.declared.pred.Atom.{Atom}
use Rattle.po_pred.specs.declared.pred.Atom.TheVariants.{Reg, Param}
use Rattle.po_pred.specs.declared.pred.Over.{Over}
use Rattle.po_pred.specs.declared.pred.Over.TheVariants.{Add, Sub, Mul, Div, Rem, Shl, Neg}
use Rattle.po_pred.specs.declared.pred.Place.{Place}
use Rattle.po_pred.specs.declared.pred.Pred.{Pred}
use Rattle.po_pred.specs.declared.pred.Pred.TheVariants.{NotNull, Live, Span, Filled, RegSet, Writable, Nonzero, NoOver, IntIn, Aligned, SameBlock, HeapStart, Terminated, Apart, RoomFor, Never}
use Rattle.po_pred.specs.declared.view.View.{View}
use Rattle.po_pred.specs.View.{view_of, viewed, added}
use Rattle.po_pred.specs.OrderLaws.{viewed_back}
use Rattle.po_pred.specs.Finite.{IsNumber, IsOffset, IsPlaceFrom, IsPlaceOver, IsOver, crossed, numbers_below, numbers_from, all_numbers, all_offsets, placed, parameter_places, optional_places, all_operators, Head, Scale, Sides, Ends, Left, Right, joined, all_heads, all_scales, all_left, all_sides, all_right, all_ends, all_views, predicates_over}

contains_crossed : {A B C : Type 0} (f : A → B → C) (xs : List A) (ys : List B) (x : A) (y : B) → Contains xs x → Contains ys y → Contains (crossed f xs ys) (f x y)
unfolding crossed
contains_crossed f xs ys x y h k = contains_flat_map (λ x. map (f x) ys) xs x (f x y) h (contains_map (f x) ys y k)

-- ---- numbers

-- the least of so many numbers, or one of those above it
next_or_here : (least v : ℤ) → least ≤ℤ v → (least ≡ v) ⊎ ((least +ℤ pos 1) ≤ℤ v)
next_or_here least v h = by_lt_z least v (λ l. inr (omega (arith, ints))) (λ l. inl (omega (arith, ints)))

has_number : (least v : ℤ) (n : ℕ) → least ≤ℤ v → v <ℤ (least +ℤ pos n) → Has (numbers_from least n) v
unfolding numbers_from
has_number least v zero low high = absurd (omega (arith, ints))
has_number least v (suc n) low high =
    elim (next_or_here least v low) [
      | inl here ↦ inl here
      | inr there ↦ inr (has_number (least +ℤ pos 1) v n there (omega (arith, ints)))
    ]

contains_number : (v : ℤ) → IsNumber v → Contains all_numbers v
unfolding all_numbers
contains_number v h = contains _ v (has_number (neg_ℤ (pos (2 ^ 63))) v (2 ^ 63 + 2 ^ 64) h.0 (let high = h.1 in omega (arith, ints)))

contains_offset : (v : ℤ) → IsOffset v → Contains all_offsets v
unfolding all_offsets
contains_offset v h = contains _ v (has_number (neg_ℤ (pos 1024)) v 2049 h.0 (let high = h.1 in omega (arith, ints)))

last_or_below : (i n : ℕ) → i < suc n → (i ≡ n) ⊎ (i < n)
last_or_below zero zero h = inl refl
last_or_below zero (suc n) h = inr (omega arith)
last_or_below (suc i) zero h = absurd (omega arith)
last_or_below (suc i) (suc n) h = elim (last_or_below i n (omega arith)) [ inl e ↦ inl (ap suc e) | inr l ↦ inr (omega arith) ]

has_below : (i n : ℕ) → i < n → Has (numbers_below n) i
unfolding numbers_below
has_below i zero h = absurd (omega arith)
has_below i (suc n) h = elim (last_or_below i n h) [ inl last ↦ inl (sym last) | inr less ↦ inr (has_below i n less) ]

contains_below : (i n : ℕ) → i < n → Contains (numbers_below n) i
contains_below i n h = contains (numbers_below n) i (has_below i n h)

-- ---- places

contains_parameter : (params i : ℕ) (lo hi : ℤ) → i < params → IsOffset lo → IsOffset hi → Contains (parameter_places params) (placed (Some (Param i)) lo hi)
unfolding parameter_places
contains_parameter zero i lo hi below l h = absurd (omega arith)
contains_parameter (suc params) i lo hi below l h =
    elim (last_or_below i params below) [
      | inl last ↦ Contains-append_left (crossed (placed (Some (Param params))) all_offsets all_offsets) (parameter_places params) _
          (subst (λ n. Contains (crossed (placed (Some (Param n))) all_offsets all_offsets) (placed (Some (Param i)) lo hi)) last
          (contains_crossed (placed (Some (Param i))) all_offsets all_offsets lo hi (contains_offset lo l) (contains_offset hi h)))
      | inr less ↦ Contains-append_right (crossed (placed (Some (Param params))) all_offsets all_offsets) (parameter_places params) _ (contains_parameter params i lo hi less l h)
    ]

contains_place_from : (params : ℕ) (atom : Option Atom) (lo hi : ℤ) → IsPlaceFrom params atom (placed atom lo hi) →
    Contains (crossed (placed None) all_numbers all_numbers ++ parameter_places params) (placed atom lo hi)
contains_place_from params None lo hi h =
    Contains-append_left (crossed (placed None) all_numbers all_numbers) (parameter_places params) _
    (contains_crossed (placed None) all_numbers all_numbers lo hi (contains_number lo h.0) (contains_number hi h.1))
contains_place_from params (Some (Reg r)) lo hi h = absurd h
contains_place_from params (Some (Param i)) lo hi h =
    Contains-append_right (crossed (placed None) all_numbers all_numbers) (parameter_places params) _ (contains_parameter params i lo hi h.0 h.1 h.2)

abbrev OptionalOver : ℕ → Option Place → Type 0
OptionalOver params None = Unit {0}
OptionalOver params (Some p) = IsPlaceOver params p

contains_optional : (params : ℕ) (x : Option Place) → OptionalOver params x → Contains (optional_places params) x
unfolding optional_places
contains_optional params None h = (0, omega arith, refl)
contains_optional params (Some p) h =
    Contains-append_right (None ∷ []) (map Some (crossed (placed None) all_numbers all_numbers ++ parameter_places params)) (Some p)
    (contains_map Some _ p (contains_place_from params p.atom p.lo p.hi h))

parted : (params : ℕ) (x : Option Place) (xs : List Place) → All (IsPlaceOver params) (added x xs) → OptionalOver params x × All (IsPlaceOver params) xs
parted params None xs h = (tt, h)
parted params (Some p) xs h = (All-head (IsPlaceOver params) p xs h, All-tail (IsPlaceOver params) p xs h)

-- ---- views

kind_below : (p : Pred) → (view_of p).kind < 16
kind_below (NotNull p) = lit< tt
kind_below (Live p) = lit< tt
kind_below (Span p factor lo hi) = lit< tt
kind_below (Filled p factor lo hi) = lit< tt
kind_below (RegSet v) = lit< tt
kind_below (Writable p) = lit< tt
kind_below (Nonzero x) = lit< tt
kind_below (NoOver op bits a b) = lit< tt
kind_below (IntIn x lo hi) = lit< tt
kind_below (Aligned p a) = lit< tt
kind_below (SameBlock p q) = lit< tt
kind_below (HeapStart p) = lit< tt
kind_below (Terminated p) = lit< tt
kind_below (Apart p q n) = lit< tt
kind_below (RoomFor p q) = lit< tt
kind_below (Never why) = lit< tt

has_operator : (op : Option Over) → Has all_operators op
has_operator None = inl refl
has_operator (Some Add) = inr (inl refl)
has_operator (Some Sub) = inr (inr (inl refl))
has_operator (Some Mul) = inr (inr (inr (inl refl)))
has_operator (Some Div) = inr (inr (inr (inr (inl refl))))
has_operator (Some Rem) = inr (inr (inr (inr (inr (inl refl)))))
has_operator (Some Shl) = inr (inr (inr (inr (inr (inr (inl refl))))))
has_operator (Some Neg) = inr (inr (inr (inr (inr (inr (inr (inl refl)))))))

contains_head : (kind : ℕ) (operator : Option Over) → kind < 16 → Contains all_heads (record { kind = kind; operator = operator })
unfolding all_heads
contains_head kind operator h = contains_crossed _ (numbers_below 16) all_operators kind operator (contains_below kind 16 h) (contains all_operators operator (has_operator operator))

contains_scale : (width : ℕ) (factor : ℤ) → width < 2 ^ 8 → IsNumber factor → Contains all_scales (record { width = width; factor = factor })
unfolding all_scales
contains_scale width factor h k = contains_crossed _ (numbers_below (2 ^ 8)) all_numbers width factor (contains_below width (2 ^ 8) h) (contains_number factor k)

contains_left : (head : Head) (scale : Scale) → Contains all_heads head → Contains all_scales scale → Contains all_left (record { head = head; scale = scale })
unfolding all_left
contains_left head scale h k = contains_crossed _ all_heads all_scales head scale h k

contains_sides : (params : ℕ) (second third : Option Place) → OptionalOver params second → OptionalOver params third → Contains (all_sides params) (record { second = second; third = third })
unfolding all_sides
contains_sides params second third h k = contains_crossed _ (optional_places params) (optional_places params) second third (contains_optional params second h) (contains_optional params third k)

contains_right : (params : ℕ) (first : Option Place) (sides : Sides) → OptionalOver params first → Contains (all_sides params) sides → Contains (all_right params) (record { first = first; sides = sides })
unfolding all_right
contains_right params first sides h k = contains_crossed _ (optional_places params) (all_sides params) first sides (contains_optional params first h) k

contains_ends : (low high : ℤ) → IsNumber low → IsNumber high → Contains all_ends (record { low = low; high = high })
unfolding all_ends
contains_ends low high h k = contains_crossed _ all_numbers all_numbers low high (contains_number low h) (contains_number high k)

contains_view : (params : ℕ) (l : Left) (r : Right) (e : Ends) → Contains all_left l → Contains (all_right params) r → Contains all_ends e → Contains (all_views params) (joined l r e)
unfolding all_views
contains_view params l r e h k m = contains_crossed (λ (f : Ends → View) (e : Ends). f e) (crossed joined all_left (all_right params)) all_ends (joined l r) e (contains_crossed joined all_left (all_right params) l r h k) m

view_listed : (params : ℕ) (v : View) → v.kind < 16 → v.width < 2 ^ 8 → IsNumber v.factor → IsNumber v.low → IsNumber v.high →
    OptionalOver params v.first → OptionalOver params v.second → OptionalOver params v.third → Contains (all_views params) v
view_listed params v kind width factor low high first second third =
    contains_view params
    (record { head = record { kind = v.kind; operator = v.operator }; scale = record { width = v.width; factor = v.factor } })
    (record { first = v.first; sides = record { second = v.second; third = v.third } })
    (record { low = v.low; high = v.high })
    (contains_left _ _ (contains_head v.kind v.operator kind) (contains_scale v.width v.factor width factor))
    (contains_right params v.first _ first (contains_sides params v.second v.third second third))
    (contains_ends v.low v.high low high)

pub listed : (params : ℕ) (p : Pred) → IsOver params p → Contains (predicates_over params) p
unfolding predicates_over
listed params p h =
    let v = view_of p in
    let one = parted params v.first _ h.places in
    let two = parted params v.second _ one.1 in
    let three = parted params v.third _ two.1 in
    let there : Contains (all_views params) v = view_listed params v (kind_below p) h.width h.factor h.low h.high one.0 two.0 three.0 in
    subst (λ q. Contains (map viewed (all_views params)) q) (viewed_back p) (contains_map viewed (all_views params) v there)
