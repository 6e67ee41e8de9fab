-- How often edges are evaluated.
use Rattle.std.specs.Prelude.{ℕ, zero, suc, ◌≤◌, ◌<◌, ◌≡◌, ◌+◌, ◌*◌, ◌^◌, ◌-◌, min, List, length, slice_index}
use Rattle.po_flow.specs.Flows.{Flows}
use Rattle.po_flow.specs.Least.{state}

-- the greatest 64-bit number, at which a count stands still
abbrev pub last_count : ℕ
last_count = 2 ^ 64 - 1

-- a count after `more` further ones
abbrev pub counted_on : ℕ → ℕ → ℕ
counted_on count more = min (count + more) last_count

-- the sum of a number of each node below k
abbrev pub sum_below : ℕ → (ℕ → ℕ) → ℕ
sum_below zero g = 0
sum_below (suc k) g = sum_below k g + g k

-- how many edges leave a node: its nexts have each node once
abbrev pub leaving : {S : Type 0} → Flows S → ℕ → ℕ
leaving f n = length (f.nexts (record { 0 = n }))

-- the sum, over all edges, of a number of the edge's source
abbrev pub sum_over_edges : {S : Type 0} → Flows S → (ℕ → ℕ) → ℕ
sum_over_edges f g = sum_below f.size (λ n. leaving f n * g n)

-- how many edges there are
abbrev pub edge_count : {S : Type 0} → Flows S → ℕ
edge_count f = sum_over_edges f (λ _. 1)

-- how often each node's state has risen: each rise took its rank up
pub record AreRises {S : Type 0} (f : Flows S) (table : List S) (rises : List ℕ) : Type 0 where
  pub long : length rises ≡ f.size
  pub ranked : (n : ℕ) → n < f.size → slice_index rises n ≤ f.rank (state f table n)

-- no count of rises stands at the greatest number
abbrev pub NoneStands : List ℕ → Type 0
NoneStands rises = (n : ℕ) → slice_index rises n < last_count

-- Evaluations are counted from `before` to `after`. Each edge is evaluated once, and at most once more for each rise of its
-- source; so there are at most as many as edges times the height and one.
pub record AreCounted {S : Type 0} (f : Flows S) (rises : List ℕ) (before after : ℕ) : Type 0 where
  pub at_least : counted_on before (edge_count f) ≤ after
  pub by_rises : NoneStands rises → after ≤ before + sum_over_edges f (λ n. 1 + slice_index rises n)
  pub by_height : after ≤ before + edge_count f * (f.height + 1)
