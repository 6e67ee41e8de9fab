-- Sets of whole numbers as ascending lists.
use Rattle.std.proofs.Common.{◌≡◌, ◌≤◌, true, List, [], ◌∷◌, length, refl, sym, ◌∙◌, subst, inl, inr, ◌⊎◌, arith}
use Rattle.std.specs.Prelude.{ℤ, ◌<ℤ◌}
use Rattle.std.proofs.Common.{Ordering, Less, Equal, Greater}
use Rattle.std.specs.Ordering.{int_cmp, int_eq, MatchOrdering, match_ordering}
use Rattle.std.specs.Cmp.{int_ranks}
use Rattle.std.specs.BTreeSet.{insert_key}
use Rattle.std.proofs.lemmas.Int.{ints}
use Rattle.std.proofs.lemmas.Bool.{or_cases, or_left, or_right, and_parts, and_from}
use Rattle.std.proofs.lemmas.Bool.Decides.{Decides-int_eq}
use Rattle.po_interval.specs.Sets.{IsAmong, IsBelowAll, IsAscending, has, numbers_within, insert_all}

irreflexive : (v : ℤ) → v <ℤ v → ⊥
irreflexive v less = absurd (omega (arith, ints))

below_along : (v w x : ℤ) → v <ℤ w → w <ℤ x → v <ℤ x
below_along v w x first second = omega (arith, ints)

below_same : (v w x : ℤ) → w ≡ x → v <ℤ w → v <ℤ x
below_same v w x same less = subst (λ (z : ℤ). v <ℤ z) same less

-- what stands in a list after a number is put in
pub from_insert : (xs : List ℤ) (v w : ℤ) → IsAmong w (insert_key int_cmp xs v) → (v ≡ w) ⊎ IsAmong w xs
from_insert [] v w here = here
from_insert (x ∷ xs) v w here = by (from_insert xs v w) (int_cmp v x) here
  where
    behind : (x ≡ w) ⊎ ((v ≡ w) ⊎ IsAmong w xs) → (v ≡ w) ⊎ ((x ≡ w) ⊎ IsAmong w xs)
    behind (inl same) = inr (inl same)
    behind (inr (inl same)) = inl same
    behind (inr (inr rest)) = inr (inr rest)

    deeper : (IsAmong w (insert_key int_cmp xs v) → (v ≡ w) ⊎ IsAmong w xs) → (x ≡ w) ⊎ IsAmong w (insert_key int_cmp xs v) → (x ≡ w) ⊎ ((v ≡ w) ⊎ IsAmong w xs)
    deeper more (inl same) = inl same
    deeper more (inr rest) = inr (more rest)

    by : (IsAmong w (insert_key int_cmp xs v) → (v ≡ w) ⊎ IsAmong w xs) → (o : Ordering) → IsAmong w (match_ordering o (v ∷ x ∷ xs) (x ∷ xs) (x ∷ insert_key int_cmp xs v)) → (v ≡ w) ⊎ ((x ≡ w) ⊎ IsAmong w xs)
    by more Less there = there
    by more Equal there = inr there
    by more Greater there = behind (deeper more there)

pub insert_new : (xs : List ℤ) (v : ℤ) → IsAmong v (insert_key int_cmp xs v)
insert_new [] v = inl refl
insert_new (x ∷ xs) v = by (insert_new xs v) (int_cmp v x) (int_ranks v x)
  where
    by : IsAmong v (insert_key int_cmp xs v) → (o : Ordering) → MatchOrdering o (v <ℤ x) (v ≡ x) (x <ℤ v) → IsAmong v (match_ordering o (v ∷ x ∷ xs) (x ∷ xs) (x ∷ insert_key int_cmp xs v))
    by later Less rank = inl refl
    by later Equal rank = inl (sym rank)
    by later Greater rank = inr later

pub insert_old : (xs : List ℤ) (v w : ℤ) → IsAmong w xs → IsAmong w (insert_key int_cmp xs v)
insert_old [] v w here = absurd here
insert_old (x ∷ xs) v w here = by (insert_old xs v w) (int_cmp v x) here
  where
    deeper : (IsAmong w xs → IsAmong w (insert_key int_cmp xs v)) → (x ≡ w) ⊎ IsAmong w xs → (x ≡ w) ⊎ IsAmong w (insert_key int_cmp xs v)
    deeper more (inl same) = inl same
    deeper more (inr rest) = inr (more rest)

    by : (IsAmong w xs → IsAmong w (insert_key int_cmp xs v)) → (o : Ordering) → (x ≡ w) ⊎ IsAmong w xs → IsAmong w (match_ordering o (v ∷ x ∷ xs) (x ∷ xs) (x ∷ insert_key int_cmp xs v))
    by more Less there = inr there
    by more Equal there = there
    by more Greater there = deeper more there

pub insert_ascending : (xs : List ℤ) (v : ℤ) → IsAscending xs → IsAscending (insert_key int_cmp xs v)
insert_ascending [] v up = (λ w here. absurd here, tt)
insert_ascending (x ∷ xs) v (low, up) = by (insert_ascending xs v up) (int_cmp v x) (int_ranks v x)
  where
    first : v <ℤ x → IsBelowAll v (x ∷ xs)
    first less w (inl same) = below_same v x w same less
    first less w (inr rest) = below_along v x w less (low w rest)

    later : x <ℤ v → (w : ℤ) → (v ≡ w) ⊎ IsAmong w xs → x <ℤ w
    later less w (inl same) = below_same x v w same less
    later less w (inr rest) = low w rest

    by : IsAscending (insert_key int_cmp xs v) → (o : Ordering) → MatchOrdering o (v <ℤ x) (v ≡ x) (x <ℤ v) → IsAscending (match_ordering o (v ∷ x ∷ xs) (x ∷ xs) (x ∷ insert_key int_cmp xs v))
    by rest Less rank = (first rank, (low, up))
    by rest Equal rank = (low, up)
    by rest Greater rank = (λ w here. later rank w (from_insert xs v w here), rest)

-- the same for all of a list
pub from_all : (xs more : List ℤ) (w : ℤ) → IsAmong w (insert_all xs more) → IsAmong w xs ⊎ IsAmong w more
from_all xs [] w here = inl here
from_all xs (v ∷ more) w here = by (from_all (insert_key int_cmp xs v) more w here)
  where
    was : (v ≡ w) ⊎ IsAmong w xs → IsAmong w xs ⊎ ((v ≡ w) ⊎ IsAmong w more)
    was (inl same) = inr (inl same)
    was (inr old) = inl old

    by : IsAmong w (insert_key int_cmp xs v) ⊎ IsAmong w more → IsAmong w xs ⊎ ((v ≡ w) ⊎ IsAmong w more)
    by (inl there) = was (from_insert xs v w there)
    by (inr later) = inr (inr later)

pub all_old : (xs more : List ℤ) (w : ℤ) → IsAmong w xs → IsAmong w (insert_all xs more)
all_old xs [] w here = here
all_old xs (v ∷ more) w here = all_old (insert_key int_cmp xs v) more w (insert_old xs v w here)

pub all_new : (xs more : List ℤ) (w : ℤ) → IsAmong w more → IsAmong w (insert_all xs more)
all_new xs [] w here = absurd here
all_new xs (v ∷ more) w (inl same) = all_old (insert_key int_cmp xs v) more w (subst (λ (z : ℤ). IsAmong z (insert_key int_cmp xs v)) same (insert_new xs v))
all_new xs (v ∷ more) w (inr later) = all_new (insert_key int_cmp xs v) more w later

pub all_ascending : (xs more : List ℤ) → IsAscending xs → IsAscending (insert_all xs more)
all_ascending xs [] up = up
all_ascending xs (v ∷ more) up = all_ascending (insert_key int_cmp xs v) more (insert_ascending xs v up)

-- a part of a set has no more numbers
pub shorter : (xs zs : List ℤ) → IsAscending xs → IsAscending zs → ((w : ℤ) → IsAmong w xs → IsAmong w zs) → length xs ≤ length zs
shorter [] zs up zs_up part = omega arith
shorter (x ∷ xs) [] up zs_up part = absurd (part x (inl refl))
shorter (x ∷ xs) (z ∷ zs) (low, up) (z_low, zs_up) part = by (shorter xs zs up zs_up) (shorter (x ∷ xs) zs (low, up) zs_up) (part x (inl refl))
  where
    none : (w : ℤ) → IsAmong w xs → z ≡ x → z ≡ w → ⊥
    none w here first same = irreflexive w (subst (λ (v : ℤ). v <ℤ w) (sym first ∙ same) (low w here))

    rest : z ≡ x → (w : ℤ) → IsAmong w xs → (z ≡ w) ⊎ IsAmong w zs → IsAmong w zs
    rest first w here (inl same) = absurd (none w here first same)
    rest first w here (inr there) = there

    above : IsAmong x zs → (w : ℤ) → (x ≡ w) ⊎ IsAmong w xs → z <ℤ w
    above there w (inl same) = below_same z x w same (z_low x there)
    above there w (inr here) = below_along z x w (z_low x there) (low w here)

    past : IsAmong x zs → (w : ℤ) → (x ≡ w) ⊎ IsAmong w xs → (z ≡ w) ⊎ IsAmong w zs → IsAmong w zs
    past there w here (inl same) = absurd (irreflexive w (subst (λ (v : ℤ). v <ℤ w) same (above there w here)))
    past there w here (inr found) = found

    by : (((w : ℤ) → IsAmong w xs → IsAmong w zs) → length xs ≤ length zs) → (((w : ℤ) → IsAmong w (x ∷ xs) → IsAmong w zs) → length (x ∷ xs) ≤ length zs) → (z ≡ x) ⊎ IsAmong x zs → length (x ∷ xs) ≤ length (z ∷ zs)
    by tails all (inl first) = let fewer = tails (λ w here. rest first w here (part w (inr here))) in omega arith
    by tails all (inr there) = let fewer = all (λ w here. past there w here (part w here)) in omega arith

-- sets of the same numbers are the same list
pub same_set : (xs ys : List ℤ) → IsAscending xs → IsAscending ys → ((w : ℤ) → IsAmong w xs → IsAmong w ys) → ((w : ℤ) → IsAmong w ys → IsAmong w xs) → xs ≡ ys
same_set [] [] up ys_up one other = refl
same_set [] (y ∷ ys) up ys_up one other = absurd (other y (inl refl))
same_set (x ∷ xs) [] up ys_up one other = absurd (one x (inl refl))
same_set (x ∷ xs) (y ∷ ys) (low, up) (y_low, ys_up) one other = by (same_set xs ys up ys_up) first
  where
    crossed : (x ≡ y) ⊎ IsAmong y xs → (y ≡ x) ⊎ IsAmong x ys → x ≡ y
    crossed (inl same) there = same
    crossed (inr here) (inl same) = sym same
    crossed (inr here) (inr there) = absurd (irreflexive x (below_along x y x (low y here) (y_low x there)))

    first : x ≡ y
    first = crossed (other y (inl refl)) (one x (inl refl))

    tail : (w : ℤ) → IsAmong w xs → (y ≡ w) ⊎ IsAmong w ys → IsAmong w ys
    tail w here (inl same) = absurd (irreflexive w (subst (λ (v : ℤ). v <ℤ w) (first ∙ same) (low w here)))
    tail w here (inr there) = there

    back : (w : ℤ) → IsAmong w ys → (x ≡ w) ⊎ IsAmong w xs → IsAmong w xs
    back w there (inl same) = absurd (irreflexive w (subst (λ (v : ℤ). v <ℤ w) (sym first ∙ same) (y_low w there)))
    back w there (inr here) = here

    by : (((w : ℤ) → IsAmong w xs → IsAmong w ys) → ((w : ℤ) → IsAmong w ys → IsAmong w xs) → xs ≡ ys) → x ≡ y → (x ∷ xs) ≡ (y ∷ ys)
    by tails same = let rest = tails (λ w here. tail w here (one w (inr here))) (λ w there. back w there (other w (inr there))) in cc

-- what the tests tell
pub has_tells : (xs : List ℤ) (v : ℤ) → has xs v ≡ true → IsAmong v xs
has_tells [] v test = absurd (cc)
has_tells (x ∷ xs) v test = by (has_tells xs v) (or_cases (int_eq x v) (has xs v) test)
  where
    by : (has xs v ≡ true → IsAmong v xs) → (int_eq x v ≡ true) ⊎ (has xs v ≡ true) → (x ≡ v) ⊎ IsAmong v xs
    by more (inl same) = inl ((Decides-int_eq x v).0 same)
    by more (inr rest) = inr (more rest)

pub has_since : (xs : List ℤ) (v : ℤ) → IsAmong v xs → has xs v ≡ true
has_since [] v here = absurd here
has_since (x ∷ xs) v (inl same) = or_left _ _ ((Decides-int_eq x v).1 same)
has_since (x ∷ xs) v (inr rest) = or_right _ _ (has_since xs v rest)

pub within_tells : (xs ys : List ℤ) → numbers_within xs ys ≡ true → (w : ℤ) → IsAmong w xs → IsAmong w ys
within_tells [] ys test w here = absurd here
within_tells (x ∷ xs) ys test w (inl same) = subst (λ (z : ℤ). IsAmong z ys) same (has_tells ys x (and_parts _ _ test).0)
within_tells (x ∷ xs) ys test w (inr rest) = within_tells xs ys (and_parts _ _ test).1 w rest

pub within_since : (xs ys : List ℤ) → ((w : ℤ) → IsAmong w xs → IsAmong w ys) → numbers_within xs ys ≡ true
within_since [] ys part = refl
within_since (x ∷ xs) ys part = and_from _ _ (has_since ys x (part x (inl refl))) (within_since xs ys (λ w here. part w (inr here)))
