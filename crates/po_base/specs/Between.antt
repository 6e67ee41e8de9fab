-- The items of an ascending list between two bounds.
use Rattle.std.specs.Prelude.{false, List, [], ◌∷◌, ◌++◌, ◌≡◌, IfSome, slice_get, IsTrue}
use Rattle.std.specs.List.{All, list_any}
use Rattle.std.specs.declared.cmp.Ordering.{Ordering}
use Rattle.std.specs.Ordering.{is_lt}
use Rattle.std.specs.BTreeMap.{is_at}
use Rattle.std.specs.BTreeMap.Range.{IsInRange, IsLeBy}
use Rattle.std.specs.declared.ops.Bound.{Bound}

module _ {K : Type 0} (cmp : K → K → Ordering) where
  -- k is one of the items, and is between the bounds
  abbrev pub IsItemBetween : Bound K → Bound K → List K → K → Type 0
  IsItemBetween lo hi items k = IsInRange cmp lo hi k × IsTrue (list_any (is_at (cmp k)) items)

  -- r is what lies between the bounds: each of it is such an item, the first one is the least and the last one
  -- the greatest of all such items, and where r is empty there is none
  abbrev pub IsBetween : Bound K → Bound K → List K → List K → Type 0
  IsBetween lo hi items r = All (IsItemBetween lo hi items) r
      × IfSome (slice_get r 0) (IsItemBetween lo hi items)
      × ((q : K) → IsItemBetween lo hi items q → IfSome (slice_get r 0) (λ k. IsLeBy cmp k q))
      × ((k : K) (t : List K) → r ≡ t ++ k ∷ [] → IsItemBetween lo hi items k)
      × ((k : K) (t : List K) → r ≡ t ++ k ∷ [] → (q : K) → IsItemBetween lo hi items q → is_lt (cmp k q) ≡ false)
      × (r ≡ [] → (q : K) → IsItemBetween lo hi items q → ⊥)
