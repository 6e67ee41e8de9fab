-- A flow in small, for tests: states are numbers up to a cap, and an edge adds the gain of its source, up to the source's limit.
use Rattle.std.specs.Prelude.{ℕ, zero, suc, ◌+◌, ◌≡◌, ◌≤◌, ◌<◌, min, max, List, [], ◌∷◌, Some, None, Bool, true, false, nat_lt, nat_le, nat_eq, slice_get, slice_index, slice_index_or, cond}
use Rattle.std.proofs.Common.{arith, refl, sym, ◌∙◌, ap}
use Rattle.std.specs.List.{Contains}
use Rattle.std.proofs.lemmas.Bool.{leb-true, leb-false, le-leb, ltb-true, eqb-false, cases_Bool}
use Rattle.po_base.specs.declared.numbers.NodeNo.{NodeNo}
use Rattle.po_flow.specs.Flows.{Flows, HasEdge, IsLawful, IsOnce}

-- the one or two nodes below `size` among two numbers
abbrev pub two_exits : Bool → Bool → Bool → ℕ → ℕ → List NodeNo
two_exits true true false a b = record { 0 = a } ∷ (record { 0 = b } ∷ [])
two_exits true y same a b = record { 0 = a } ∷ []
two_exits false true same a b = record { 0 = b } ∷ []
two_exits false false same a b = []

abbrev pub exits_of : ℕ → ℕ × ℕ → List NodeNo
exits_of size p = two_exits (nat_lt p.0 size) (nat_lt p.1 size) (nat_eq p.0 p.1) p.0 p.1

-- a number of nodes, the two exits, the gain and the limit of each, the state in which it starts and the cap of states
abbrev pub sample : ℕ → List (ℕ × ℕ) → List ℕ → List ℕ → ℕ → ℕ → Flows ℕ
sample size exits gains limits first cap = record {
  size = size;
  nexts = λ n. exits_of size (slice_index_or exits n.0 (size, size));
  first = min first cap;
  least = 0;
  moved = λ n m s. min (min (s + slice_index gains n.0) (slice_index_or limits n.0 cap)) cap;
  joined = max;
  below = nat_le;
  rank = λ s. s;
  height = cap + 1;
}

exits_in : (x y same : Bool) (size a b : ℕ) (m : NodeNo) → (x ≡ true → a < size) → (y ≡ true → b < size) → Contains (two_exits x y same a b) m → m.0 < size
exits_in true true false size a b m ha hb (zero, l, q) = let h = ha refl in let e = ap (λ n. n.0) q in omega arith
exits_in true true false size a b m ha hb (suc zero, l, q) = let h = hb refl in let e = ap (λ n. n.0) q in omega arith
exits_in true true false size a b m ha hb (suc (suc k), l, q) = absurd (omega arith)
exits_in true true true size a b m ha hb (zero, l, q) = let h = ha refl in let e = ap (λ n. n.0) q in omega arith
exits_in true true true size a b m ha hb (suc k, l, q) = absurd (omega arith)
exits_in true false same size a b m ha hb (zero, l, q) = let h = ha refl in let e = ap (λ n. n.0) q in omega arith
exits_in true false same size a b m ha hb (suc k, l, q) = absurd (omega arith)
exits_in false true same size a b m ha hb (zero, l, q) = let h = hb refl in let e = ap (λ n. n.0) q in omega arith
exits_in false true same size a b m ha hb (suc k, l, q) = absurd (omega arith)
exits_in false false same size a b m ha hb (k, l, q) = absurd (omega arith)

once_nil : IsOnce {X = NodeNo} []
once_nil i j x p q = absurd (cc)

once_one : (n : NodeNo) → IsOnce (n ∷ [])
once_one n zero zero x p q = refl
once_one n zero (suc j) x p q = absurd (cc)
once_one n (suc i) j x p q = absurd (cc)

once_two : (n m : NodeNo) → (n.0 ≡ m.0 → ⊥) → IsOnce (n ∷ (m ∷ []))
once_two n m d zero zero x p q = refl
once_two n m d zero (suc zero) x p q = absurd (d (ap (λ k. k.0) (let e : n ≡ m = cc in e)))
once_two n m d zero (suc (suc j)) x p q = absurd (cc)
once_two n m d (suc zero) zero x p q = absurd (d (ap (λ k. k.0) (let e : n ≡ m = cc in e)))
once_two n m d (suc zero) (suc zero) x p q = refl
once_two n m d (suc zero) (suc (suc j)) x p q = absurd (cc)
once_two n m d (suc (suc i)) j x p q = absurd (cc)

exits_once : (x y same : Bool) (a b : ℕ) → (same ≡ false → a ≡ b → ⊥) → IsOnce (two_exits x y same a b)
exits_once true true false a b d = once_two _ _ (d refl)
exits_once true true true a b d = once_one _
exits_once true false same a b d = once_one _
exits_once false true same a b d = once_one _
exits_once false false same a b d = once_nil

pub sample_lawful : (size : ℕ) (exits : List (ℕ × ℕ)) (gains limits : List ℕ) (first cap : ℕ) → 0 < size → IsLawful (sample size exits gains limits first cap) (λ s. s ≤ cap)
sample_lawful size exits gains limits first cap some = record {
  nonempty = some;
  within = λ n m edge. let p = slice_index_or exits n.0 (size, size) in exits_in (nat_lt p.0 size) (nat_lt p.1 size) (nat_eq p.0 p.1) size p.0 p.1 m (ltb-true p.0 size) (ltb-true p.1 size) edge.1;
  once = λ n l. let p = slice_index_or exits n.0 (size, size) in exits_once (nat_lt p.0 size) (nat_lt p.1 size) (nat_eq p.0 p.1) p.0 p.1 (eqb-false p.0 p.1);
  first_proper = omega arith;
  least_proper = omega arith;
  moved_proper = λ n m s edge h. omega arith;
  joined_proper = λ s u h k. omega arith;
  itself = λ s h. le-leb s s (omega arith);
  along = λ s u v hs hu hv p q. le-leb s v (let a = leb-true s u p in let b = leb-true u v q in omega arith);
  same = λ s u hs hu p q. let a = leb-true s u p in let b = leb-true u s q in omega arith;
  least_below = λ s h. le-leb 0 s (omega arith);
  left = λ s u hs hu. le-leb s (max s u) (omega arith);
  right = λ s u hs hu. le-leb u (max s u) (omega arith);
  joined_below = λ s u v hs hu hv p q. le-leb (max s u) v (let a = leb-true s v p in let b = leb-true u v q in omega arith);
  monotone = λ n m s u edge hs hu p. le-leb _ _ (let a = leb-true s u p in omega arith);
  rank_bound = λ s h. omega arith;
  rank_rises = λ s u hs hu p q. leb-false u s q;
}
