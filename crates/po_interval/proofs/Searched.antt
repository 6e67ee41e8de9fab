-- What a search of an ordered set by a range finds is the nearest of its numbers.
use Rattle.std.proofs.Common.{◌≡◌, true, false, List, [], ◌∷◌, ◌++◌, refl, sym, ap, arith, inl, inr, ◌⊎◌, Ordering, Less, Equal, Greater}
use Rattle.std.specs.Prelude.{ℤ, ◌≤ℤ◌, ◌<ℤ◌, Option, Some, None}
use Rattle.std.specs.declared.ops.Bound.TheVariants.{Included, Unbounded}
use Rattle.std.specs.List.{list_any}
use Rattle.std.specs.Ordering.{int_cmp, is_gt, is_lt, MatchOrdering}
use Rattle.std.specs.Cmp.{int_ranks}
use Rattle.std.specs.BTreeMap.{is_at}
use Rattle.std.proofs.lemmas.Int.{ints}
use Rattle.std.proofs.lemmas.Bool.{or_cases, or_left, or_right}
use Rattle.std.proofs.lemmas.Bool.Decides.{Decides-int_eq}
use Rattle.po_base.specs.Between.{IsBetween}
use Rattle.po_interval.specs.Sets.{IsAmong}
use Rattle.po_interval.specs.Rounding.{greatest_to, least_from}
use Rattle.po_interval.proofs.Nearest.{IsGreatest, IsLeast, greatest_is, least_is}

not_above : (q v : ℤ) (o : Ordering) → MatchOrdering o (q <ℤ v) (q ≡ v) (v <ℤ q) → is_gt o ≡ false → q ≤ℤ v
not_above q v Less less test = omega (arith, ints)
not_above q v Equal same test = omega (arith, ints)
not_above q v Greater more test = absurd (cc)

since_not_above : (q v : ℤ) (o : Ordering) → MatchOrdering o (q <ℤ v) (q ≡ v) (v <ℤ q) → q ≤ℤ v → is_gt o ≡ false
since_not_above q v Less less up = refl
since_not_above q v Equal same up = refl
since_not_above q v Greater more up = absurd (omega (arith, ints))

not_below : (q v : ℤ) (o : Ordering) → MatchOrdering o (q <ℤ v) (q ≡ v) (v <ℤ q) → is_lt o ≡ false → v ≤ℤ q
not_below q v Less less test = absurd (cc)
not_below q v Equal same test = omega (arith, ints)
not_below q v Greater more test = omega (arith, ints)

among : (xs : List ℤ) (v : ℤ) → list_any (is_at (int_cmp v)) xs ≡ true → IsAmong v xs
among [] v test = absurd (cc)
among (x ∷ xs) v test = by (among xs v) (or_cases (is_at (int_cmp v) x) (list_any (is_at (int_cmp v)) xs) test)
  where
    by : (list_any (is_at (int_cmp v)) xs ≡ true → IsAmong v xs) → (is_at (int_cmp v) x ≡ true) ⊎ (list_any (is_at (int_cmp v)) xs ≡ true) → (x ≡ v) ⊎ IsAmong v xs
    by more (inl same) = inl (sym ((Decides-int_eq v x).0 same))
    by more (inr rest) = inr (more rest)

there : (xs : List ℤ) (v : ℤ) → IsAmong v xs → list_any (is_at (int_cmp v)) xs ≡ true
there [] v here = absurd here
there (x ∷ xs) v (inl same) = or_left _ _ ((Decides-int_eq v x).1 (sym same))
there (x ∷ xs) v (inr rest) = or_right _ _ (there xs v rest)

-- there is one greatest and one least at most
one_greatest : (P : ℤ → Type 0) (v : ℤ) (a b : Option ℤ) → IsGreatest P v a → IsGreatest P v b → a ≡ b
one_greatest P v None None first second = refl
one_greatest P v None (Some y) first second = absurd (first y second.0 second.1)
one_greatest P v (Some x) None first second = absurd (second x first.0 first.1)
one_greatest P v (Some x) (Some y) first second = let up = second.2 x first.0 first.1 in let down = first.2 y second.0 second.1 in let same : x ≡ y = omega (arith, ints) in ap Some same

one_least : (P : ℤ → Type 0) (v : ℤ) (a b : Option ℤ) → IsLeast P v a → IsLeast P v b → a ≡ b
one_least P v None None first second = refl
one_least P v None (Some y) first second = absurd (first y second.0 second.1)
one_least P v (Some x) None first second = absurd (second x first.0 first.1)
one_least P v (Some x) (Some y) first second = let down = second.2 x first.0 first.1 in let up = first.2 y second.0 second.1 in let same : x ≡ y = omega (arith, ints) in ap Some same

-- the last one up to v
pub last_found : (s : List ℤ) (v x : ℤ) (r t : List ℤ) → IsBetween int_cmp Unbounded (Included v) s r → r ≡ t ++ x ∷ [] → Some x ≡ greatest_to s v
last_found s v x r t is last =
    let here = is.3 x t last in
    one_greatest (λ w. IsAmong w s) v (Some x) (greatest_to s v) (
      among s x here.1,
      not_above x v (int_cmp x v) (int_ranks x v) here.0.1,
      λ w kind down. not_below x w (int_cmp x w) (int_ranks x w) (is.4 x t last w ((tt, since_not_above w v (int_cmp w v) (int_ranks w v) down), there s w kind)),
    )
    (greatest_is s v)

pub none_up_to : (s : List ℤ) (v : ℤ) (r : List ℤ) → IsBetween int_cmp Unbounded (Included v) s r → r ≡ [] → None ≡ greatest_to s v
none_up_to s v r is empty =
    one_greatest (λ w. IsAmong w s) v None (greatest_to s v)
    (λ w kind down. is.5 empty w ((tt, since_not_above w v (int_cmp w v) (int_ranks w v) down), there s w kind))
    (greatest_is s v)

-- the first one from v on
pub first_found : (s : List ℤ) (v x : ℤ) (r t : List ℤ) → IsBetween int_cmp (Included v) Unbounded s r → r ≡ x ∷ t → Some x ≡ least_from s v
first_found s v x r t is first = by r is first
  where
    by : (r : List ℤ) → IsBetween int_cmp (Included v) Unbounded s r → r ≡ x ∷ t → Some x ≡ least_from s v
    by [] is first = absurd (cc)
    by (y ∷ ys) is first =
        let same : y ≡ x = cc in
        let here = is.1 in
        rw (← same)
        (one_least (λ w. IsAmong w s) v (Some y) (least_from s v) (
          among s y here.1,
          not_above v y (int_cmp v y) (int_ranks v y) here.0.0,
          λ w kind up. not_above y w (int_cmp y w) (int_ranks y w) (is.2 w ((since_not_above v w (int_cmp v w) (int_ranks v w) up, tt), there s w kind)),
        )
        (least_is s v))

pub none_from : (s : List ℤ) (v : ℤ) (r : List ℤ) → IsBetween int_cmp (Included v) Unbounded s r → r ≡ [] → None ≡ least_from s v
none_from s v r is empty =
    one_least (λ w. IsAmong w s) v None (least_from s v)
    (λ w kind up. is.5 empty w ((since_not_above v w (int_cmp v w) (int_ranks v w) up, tt), there s w kind))
    (least_is s v)
