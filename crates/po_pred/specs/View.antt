-- Predicates seen as their parts, whatever their kind. Order, equality, weight, spelling and finiteness are said of this view.
use Rattle.std.specs.Prelude.{ℕ, ℤ, pos, negsuc, List, [], ◌∷◌, Option, Some, None, slice_index_or, unwrap_or}
use Rattle.po_pred.specs.declared.pred.Over.TheVariants.{Add}
use Rattle.po_pred.specs.declared.pred.Why.{Why}
use Rattle.po_pred.specs.declared.pred.Why.TheVariants.{Unread, End, Extern}
use Rattle.po_pred.specs.declared.pred.Place.{Place}
use Rattle.po_pred.specs.declared.pred.Pred.{Pred}
use Rattle.po_pred.specs.declared.pred.Pred.TheVariants.{NotNull, Live, Span, Filled, RegSet, Writable, Nonzero, NoOver, IntIn, Aligned, SameBlock, HeapStart, Terminated, Apart, RoomFor, Never}
use Rattle.po_pred.specs.declared.view.View.{View}

-- a kind alone: no operator, no places, factor 1 and no other numbers
abbrev pub bare : ℕ → View
bare kind = record { kind = kind; operator = None; width = 0; first = None; second = None; third = None; factor = pos 1; low = pos 0; high = pos 0 }

abbrev pub of_one : ℕ → Place → View
of_one kind x = record (bare kind) { first = Some x }

abbrev pub of_two : ℕ → Place → Place → View
of_two kind x y = record (of_one kind x) { second = Some y }

abbrev pub of_three : ℕ → Place → Place → Place → View
of_three kind x y z = record (of_two kind x y) { third = Some z }

-- the reasons in their order
abbrev pub why_number : Why → ℤ
why_number Unread = pos 0
why_number End = pos 1
why_number Extern = pos 2

-- the kinds in their order, each with its operator, its places and its other numbers in the order of their fields
abbrev pub view_of : Pred → View
view_of (NotNull p) = of_one 0 p
view_of (Live p) = of_one 1 p
view_of (Span p factor lo hi) = record (of_three 2 p lo hi) { factor = factor }
view_of (Filled p factor lo hi) = record (of_three 3 p lo hi) { factor = factor }
view_of (RegSet v) = record (bare 4) { low = pos v.0 }
view_of (Writable p) = of_one 5 p
view_of (Nonzero x) = of_one 6 x
view_of (NoOver op bits a b) = record (of_one 7 a) { operator = Some op; width = bits; second = b }
view_of (IntIn x lo hi) = record (of_one 8 x) { low = lo; high = hi }
view_of (Aligned p a) = record (of_one 9 p) { low = pos a }
view_of (SameBlock p q) = of_two 10 p q
view_of (HeapStart p) = of_one 11 p
view_of (Terminated p) = of_one 12 p
view_of (Apart p q n) = of_three 13 p q n
view_of (RoomFor p q) = of_two 14 p q
view_of (Never why) = record (bare 15) { low = why_number why }

abbrev pub added : Option Place → List Place → List Place
added None xs = xs
added (Some x) xs = x ∷ xs

-- the places of a view in their order
abbrev pub places_in : View → List Place
places_in v = added v.first (added v.second (added v.third []))

-- the places of a predicate in the order of their fields
abbrev pub places_of : Pred → List Place
places_of p = places_in (view_of p)

-- how many of a kind's places are pointers; they stand first
abbrev pub pointers_of : ℕ → ℕ
pointers_of kind = slice_index_or (1 ∷ 1 ∷ 1 ∷ 1 ∷ 0 ∷ 1 ∷ 0 ∷ 0 ∷ 0 ∷ 1 ∷ 2 ∷ 1 ∷ 1 ∷ 2 ∷ 2 ∷ 0 ∷ []) kind 0

-- ---- and back

abbrev no_place : Place
no_place = record { atom = None; lo = pos 0; hi = pos 0 }

abbrev place_at : Option Place → Place
place_at x = unwrap_or x no_place

abbrev natural : ℤ → ℕ
natural (pos n) = n
natural (negsuc n) = 0

abbrev why_of : ℤ → Why
why_of w = slice_index_or (Unread ∷ End ∷ Extern ∷ []) (natural w) Unread

-- what has this view if it is of the first kind, of the second and so on
abbrev of_each_kind : View → List Pred
of_each_kind v =
    NotNull (place_at v.first)
    ∷ Live (place_at v.first)
    ∷ Span (place_at v.first) v.factor (place_at v.second) (place_at v.third)
    ∷ Filled (place_at v.first) v.factor (place_at v.second) (place_at v.third)
    ∷ RegSet (record { 0 = natural v.low })
    ∷ Writable (place_at v.first)
    ∷ Nonzero (place_at v.first)
    ∷ NoOver (unwrap_or v.operator Add) v.width (place_at v.first) v.second
    ∷ IntIn (place_at v.first) v.low v.high
    ∷ Aligned (place_at v.first) (natural v.low)
    ∷ SameBlock (place_at v.first) (place_at v.second)
    ∷ HeapStart (place_at v.first)
    ∷ Terminated (place_at v.first)
    ∷ Apart (place_at v.first) (place_at v.second) (place_at v.third)
    ∷ RoomFor (place_at v.first) (place_at v.second)
    ∷ Never (why_of v.low)
    ∷ []

-- the predicate of a view
abbrev pub viewed : View → Pred
viewed v = slice_index_or (of_each_kind v) v.kind (NotNull no_place)
