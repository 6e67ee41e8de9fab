-- What a flow means, and the laws that it keeps.
use Rattle.std.specs.Prelude.{ℕ, ◌≤◌, ◌<◌, ◌≡◌, List, Bool, true, false, slice_get, Some}
use Rattle.std.specs.List.{Contains}
use Rattle.po_base.specs.declared.numbers.NodeNo.{NodeNo}

-- A directed graph of `size` nodes that starts at node 0, the state in which it starts, and the order of its states: which
-- is below which, the least one, the least upper bound of two, and what an edge makes of a state. Each state has a rank,
-- which is at most the height.
pub record Flows (S : Type 0) : Type 0 where
  pub size : ℕ
  pub nexts : NodeNo → List NodeNo
  pub first : S
  pub least : S
  pub moved : NodeNo → NodeNo → S → S
  pub joined : S → S → S
  pub below : S → S → Bool
  pub rank : S → ℕ
  pub height : ℕ

-- no item of a list stands twice
abbrev pub IsOnce : {X : Type 0} → List X → Type 0
IsOnce {X} xs = (i j : ℕ) (x : X) → slice_get xs i ≡ Some x → slice_get xs j ≡ Some x → i ≡ j

-- there is an edge from the one node to the other
abbrev pub HasEdge : {S : Type 0} → Flows S → NodeNo → NodeNo → Type 0
HasEdge f n m = (n.0 < f.size) × Contains (f.nexts n) m

-- What every flow keeps. Of states only the proper ones count: on them `below` is an order with a least state, `joined` gives
-- least upper bounds, edges are monotone, and a state strictly above another has the greater rank.
pub record IsLawful {S : Type 0} (f : Flows S) (proper : S → Type 0) : Type 0 where
  pub nonempty : 0 < f.size
  pub within : (n m : NodeNo) → HasEdge f n m → m.0 < f.size
  pub once : (n : NodeNo) → n.0 < f.size → IsOnce (f.nexts n)
  pub first_proper : proper f.first
  pub least_proper : proper f.least
  pub moved_proper : (n m : NodeNo) (s : S) → HasEdge f n m → proper s → proper (f.moved n m s)
  pub joined_proper : (s u : S) → proper s → proper u → proper (f.joined s u)
  pub itself : (s : S) → proper s → f.below s s ≡ true
  pub along : (s u v : S) → proper s → proper u → proper v → f.below s u ≡ true → f.below u v ≡ true → f.below s v ≡ true
  pub same : (s u : S) → proper s → proper u → f.below s u ≡ true → f.below u s ≡ true → s ≡ u
  pub least_below : (s : S) → proper s → f.below f.least s ≡ true
  pub left : (s u : S) → proper s → proper u → f.below s (f.joined s u) ≡ true
  pub right : (s u : S) → proper s → proper u → f.below u (f.joined s u) ≡ true
  pub joined_below : (s u v : S) → proper s → proper u → proper v → f.below s v ≡ true → f.below u v ≡ true → f.below (f.joined s u) v ≡ true
  pub monotone : (n m : NodeNo) (s u : S) → HasEdge f n m → proper s → proper u → f.below s u ≡ true → f.below (f.moved n m s) (f.moved n m u) ≡ true
  pub rank_bound : (s : S) → proper s → f.rank s ≤ f.height
  pub rank_rises : (s u : S) → proper s → proper u → f.below s u ≡ true → f.below u s ≡ false → f.rank s < f.rank u
