-- The predicates over so many parameters with bounded numbers, as one finite list.
use Rattle.std.specs.Prelude.{ℕ, zero, suc, ◌+◌, ◌^◌, ◌<◌, ℤ, pos, neg_ℤ, ◌+ℤ◌, ◌≤ℤ◌, List, [], ◌∷◌, ◌++◌, map, Option, Some, None, All}
use Rattle.std.specs.List.{flat_map}
use Rattle.po_pred.specs.declared.pred.Atom.{Atom}
use Rattle.po_pred.specs.declared.pred.Atom.TheVariants.{Reg, Param}
use Rattle.po_pred.specs.declared.pred.Over.{Over}
use Rattle.po_pred.specs.declared.pred.Over.TheVariants.{Add, Sub, Mul, Div, Rem, Shl, Neg}
use Rattle.po_pred.specs.declared.pred.Place.{Place}
use Rattle.po_pred.specs.declared.pred.Pred.{Pred}
use Rattle.po_pred.specs.declared.view.View.{View}
use Rattle.po_pred.specs.View.{view_of, viewed, places_of}

-- a number of an assumption: of -2^63..2^64-1
abbrev pub IsNumber : ℤ → Type 0
IsNumber v = (neg_ℤ (pos (2 ^ 63)) ≤ℤ v) × ((v +ℤ pos 1) ≤ℤ pos (2 ^ 64))

-- an offset of an assumption: of -1,024..1,024
abbrev pub IsOffset : ℤ → Type 0
IsOffset v = (neg_ℤ (pos 1024) ≤ℤ v) × (v ≤ℤ pos 1024)

abbrev pub IsPlaceFrom : ℕ → Option Atom → Place → Type 0
IsPlaceFrom params None p = IsNumber p.lo × IsNumber p.hi
IsPlaceFrom params (Some (Reg r)) p = ⊥
IsPlaceFrom params (Some (Param i)) p = (i < params) × IsOffset p.lo × IsOffset p.hi

-- a number or a range of them, or one of so many parameters with offsets
abbrev pub IsPlaceOver : ℕ → Place → Type 0
IsPlaceOver params p = IsPlaceFrom params p.atom p

-- a predicate over so many parameters, with bounded numbers
pub record IsOver (params : ℕ) (p : Pred) : Type 0 where
  pub places : All (IsPlaceOver params) (places_of p)
  pub width : (view_of p).width < 2 ^ 8
  pub factor : IsNumber (view_of p).factor
  pub low : IsNumber (view_of p).low
  pub high : IsNumber (view_of p).high

-- ---- all of them

-- what is made of each of the one and each of the other
unfoldable pub crossed : {A B C : Type 0} → (A → B → C) → List A → List B → List C
crossed f xs ys = flat_map (λ x. map (f x) ys) xs

-- the numbers below this one
unfoldable pub numbers_below : ℕ → List ℕ
numbers_below zero = []
numbers_below (suc n) = n ∷ numbers_below n

-- so many whole numbers, from the least on
unfoldable pub numbers_from : ℤ → ℕ → List ℤ
numbers_from least zero = []
numbers_from least (suc n) = least ∷ numbers_from (least +ℤ pos 1) n

unfoldable pub all_numbers : List ℤ
all_numbers = numbers_from (neg_ℤ (pos (2 ^ 63))) (2 ^ 63 + 2 ^ 64)

unfoldable pub all_offsets : List ℤ
all_offsets = numbers_from (neg_ℤ (pos 1024)) 2049

abbrev pub placed : Option Atom → ℤ → ℤ → Place
placed atom lo hi = record { atom = atom; lo = lo; hi = hi }

unfoldable pub parameter_places : ℕ → List Place
parameter_places zero = []
parameter_places (suc i) = crossed (placed (Some (Param i))) all_offsets all_offsets ++ parameter_places i

-- no place, a range of numbers, or a parameter with offsets
unfoldable pub optional_places : ℕ → List (Option Place)
optional_places params = None ∷ map Some (crossed (placed None) all_numbers all_numbers ++ parameter_places params)

abbrev pub all_operators : List (Option Over)
all_operators = None ∷ Some Add ∷ Some Sub ∷ Some Mul ∷ Some Div ∷ Some Rem ∷ Some Shl ∷ Some Neg ∷ []

-- the parts of a view in groups: its kind and operator, its width and factor, its places, its numbers
pub record Head : Type 0 where
  pub kind : ℕ
  pub operator : Option Over

pub record Scale : Type 0 where
  pub width : ℕ
  pub factor : ℤ

pub record Sides : Type 0 where
  pub second : Option Place
  pub third : Option Place

pub record Ends : Type 0 where
  pub low : ℤ
  pub high : ℤ

pub record Left : Type 0 where
  pub head : Head
  pub scale : Scale

pub record Right : Type 0 where
  pub first : Option Place
  pub sides : Sides

abbrev pub joined : Left → Right → Ends → View
joined l r e = record { kind = l.head.kind; operator = l.head.operator; width = l.scale.width; first = r.first; second = r.sides.second; third = r.sides.third; factor = l.scale.factor; low = e.low; high = e.high }

unfoldable pub all_heads : List Head
all_heads = crossed (λ kind operator. record { kind = kind; operator = operator }) (numbers_below 16) all_operators

unfoldable pub all_scales : List Scale
all_scales = crossed (λ width factor. record { width = width; factor = factor }) (numbers_below (2 ^ 8)) all_numbers

unfoldable pub all_left : List Left
all_left = crossed (λ head scale. record { head = head; scale = scale }) all_heads all_scales

unfoldable pub all_sides : ℕ → List Sides
all_sides params = crossed (λ second third. record { second = second; third = third }) (optional_places params) (optional_places params)

unfoldable pub all_right : ℕ → List Right
all_right params = crossed (λ first sides. record { first = first; sides = sides }) (optional_places params) (all_sides params)

unfoldable pub all_ends : List Ends
all_ends = crossed (λ low high. record { low = low; high = high }) all_numbers all_numbers

unfoldable pub all_views : ℕ → List View
all_views params = crossed (λ f e. f e) (crossed joined all_left (all_right params)) all_ends

-- every predicate over so many parameters with bounded numbers is among these
unfoldable pub predicates_over : ℕ → List Pred
predicates_over params = map viewed (all_views params)
