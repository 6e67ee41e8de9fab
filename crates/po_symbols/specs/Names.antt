-- Maps from names, and from numbers.
use Rattle.std.specs.Prelude.{List, [], Option, unwrap_or, ℕ}
use Rattle.std.specs.Cmp.Lexicographic.{slice_cmp}
use Rattle.std.specs.Ordering.{nat_cmp}
use Rattle.std.specs.BTreeMap.{BTreeMap, get}

-- the value under the name
abbrev pub named : {X : Type 0} → BTreeMap (List ℕ) X → List ℕ → Option X
named m name = get (slice_cmp nat_cmp) m name

-- the items under the name
abbrev pub listed : {X : Type 0} → BTreeMap (List ℕ) (List X) → List ℕ → List X
listed m name = unwrap_or (named m name) []
