-- Bytes of a block that are surely filled, and what is known of a block from malloc or calloc: orders and joins.
use Rattle.std.specs.Prelude.{◌≡◌, ℕ, ◌<◌, ◌≤◌, ◌^◌, min, nat_eq, nat_le, nat_lt, Bool, true, false, cond, not, ◌&&◌, ◌||◌, List, [], ◌∷◌, ◌⊎◌}
use Rattle.std.specs.declared.cmp.Ordering.{Ordering}
use Rattle.std.specs.Ordering.{nat_cmp, match_ordering}
use Rattle.po_base.specs.declared.numbers.NodeNo.{NodeNo}
use Rattle.po_bases.specs.General.{Surely, AtLeast}
use Rattle.po_bases.specs.Maps.{merged, by_key, IsMap, MapBelow}
use Rattle.po_bases.specs.declared.filled.Filled.{Filled}
use Rattle.po_bases.specs.declared.filled.Filled.TheVariants.{All, Bytes}
use Rattle.po_bases.specs.declared.heap_fact.HeapFact.{HeapFact}

-- b is one of the bytes
abbrev pub IsAmong : ℕ → List ℕ → Type 0
IsAmong b [] = ⊥
IsAmong b (x ∷ xs) = (x ≡ b) ⊎ IsAmong b xs

-- each byte is below those after it
abbrev pub IsBelowAll : ℕ → List ℕ → Type 0
IsBelowAll b xs = (y : ℕ) → IsAmong y xs → b < y

abbrev pub IsAscending : List ℕ → Type 0
IsAscending [] = Unit {0}
IsAscending (x ∷ xs) = IsBelowAll x xs × IsAscending xs

-- all bytes; or some of the first 4,096, ascending
abbrev pub IsFilled : Filled → Type 0
IsFilled All = Unit {0}
IsFilled (Bytes xs) = IsAscending xs × ((b : ℕ) → IsAmong b xs → b < 4096)

-- byte b is surely filled
abbrev pub Fills : Filled → ℕ → Type 0
Fills All b = Unit {0}
Fills (Bytes xs) b = IsAmong b xs

-- to know more bytes to be filled is the lesser
abbrev pub FilledBelow : Filled → Filled → Type 0
FilledBelow f g = (b : ℕ) → Fills g b → Fills f b

-- the bytes of both
abbrev pub common_with : ℕ → (List ℕ → List ℕ) → List ℕ → List ℕ
common_with x rest [] = []
common_with x rest (y ∷ ys) = match_ordering (nat_cmp x y) (rest (y ∷ ys)) (x ∷ rest ys) (common_with x rest ys)

abbrev pub common : List ℕ → List ℕ → List ℕ
common [] = λ ys. []
common (x ∷ xs) = common_with x (common xs)

abbrev pub join_filled : Filled → Filled → Filled
join_filled All g = g
join_filled (Bytes xs) All = Bytes xs
join_filled (Bytes xs) (Bytes ys) = Bytes (common xs ys)

-- whether each byte of the second is one of the first
abbrev pub has_all : List ℕ → List ℕ → Bool
has_all [] [] = true
has_all [] (y ∷ ys) = false
has_all (x ∷ xs) [] = true
has_all (x ∷ xs) (y ∷ ys) = match_ordering (nat_cmp x y) (has_all xs (y ∷ ys)) (has_all xs ys) false

abbrev pub filled_within : Filled → Filled → Bool
filled_within All g = true
filled_within (Bytes xs) All = false
filled_within (Bytes xs) (Bytes ys) = has_all xs ys

-- ---- a block from malloc or calloc

abbrev pub IsFact : HeapFact → Type 0
IsFact f = (f.size < 2 ^ 64) × IsFilled f.filled

-- to know it alive, greater and more of it filled is the lesser
abbrev pub FactBelow : HeapFact → HeapFact → Type 0
FactBelow f g = Surely f.alive g.alive × (AtLeast f.size g.size × FilledBelow f.filled g.filled)

abbrev pub join_facts : HeapFact → HeapFact → HeapFact
join_facts f g = record { alive = f.alive && g.alive; size = min f.size g.size; filled = join_filled f.filled g.filled }

abbrev pub fact_within : HeapFact → HeapFact → Bool
fact_within f g = (f.alive || not g.alive) && nat_le g.size f.size && filled_within f.filled g.filled

-- ---- one fact for each node, ascending by node

abbrev pub node_of : NodeNo × HeapFact → ℕ
node_of e = e.0.0

abbrev pub heap_cmp : NodeNo × HeapFact → NodeNo × HeapFact → Ordering
heap_cmp = by_key node_of nat_cmp

abbrev pub join_heap_entries : NodeNo × HeapFact → NodeNo × HeapFact → NodeNo × HeapFact
join_heap_entries e f = (e.0, join_facts e.1 f.1)

abbrev pub IsHeapEntry : NodeNo × HeapFact → Type 0
IsHeapEntry e = IsFact e.1

abbrev pub HeapEntryBelow : NodeNo × HeapFact → NodeNo × HeapFact → Type 0
HeapEntryBelow e f = FactBelow e.1 f.1

abbrev pub IsHeap : List (NodeNo × HeapFact) → Type 0
IsHeap es = IsMap node_of nat_cmp IsHeapEntry es

-- a node that isn't there is below all
abbrev pub HeapBelow : List (NodeNo × HeapFact) → List (NodeNo × HeapFact) → Type 0
HeapBelow es fs = MapBelow node_of nat_cmp HeapEntryBelow es fs

-- a node that isn't there joins as the other's
abbrev pub join_heap : List (NodeNo × HeapFact) → List (NodeNo × HeapFact) → List (NodeNo × HeapFact)
join_heap es fs = merged heap_cmp join_heap_entries es fs
