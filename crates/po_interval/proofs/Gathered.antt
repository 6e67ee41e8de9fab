-- The gathered results: all of them, and no others.
use Rattle.std.proofs.Common.{◌≡◌, ◌<◌, ◌+◌, ℕ, zero, suc, List, [], ◌∷◌, ◌++◌, length, drop, get_or, refl, sym, ap, ◌∙◌, inl, inr, ◌⊎◌, arith}
use Rattle.std.specs.List.{cons_option}
use Rattle.std.specs.Prelude.{ℤ, pos, filter_map, Option, Some, None, IfSome}
use Rattle.std.specs.Ordering.{int_cmp}
use Rattle.std.specs.BTreeSet.{insert_key}
use Rattle.std.proofs.lemmas.List.{at_drop_more}
use Rattle.std.proofs.lemmas.List.Sums.{fold-append}
use Rattle.po_arith.specs.declared.int_type.IntType.{IntType}
use Rattle.po_arith.specs.Types.{IsOfType}
use Rattle.po_interval.specs.Sets.{IsAmong, IsAscending, insert_all, ascending}
use Rattle.po_interval.specs.Members.{IsProper, AreOfType}
use Rattle.po_interval.specs.Gathering.{of_set, gathered, put, pairs, IsResult, ResultsWithin}
use Rattle.po_interval.specs.declared.members.Members.{Members}
use Rattle.po_interval.proofs.Numbers.{from_all, all_new, all_ascending}
use Rattle.po_interval.proofs.Joins.{few_allows, few_within, few_proper, few_of_type}
use Rattle.po_interval.proofs.Covers.{some_same}

-- what the code puts in, step by step
pub row_step : (f : ℤ → Option ℤ) (xs ys : List ℤ) (y : ℤ) → insert_all xs (filter_map f (y ∷ ys)) ≡ insert_all (put xs (f y)) (filter_map f ys)
row_step f xs ys y = by (f y)
  where
    by : (o : Option ℤ) → insert_all xs (cons_option o (filter_map f ys)) ≡ insert_all (put xs o) (filter_map f ys)
    by None = refl
    by (Some v) = refl

pub pairs_step : (f : ℤ → ℤ → Option ℤ) (numbers xs ys : List ℤ) (x : ℤ) → insert_all numbers (pairs f (x ∷ xs) ys) ≡ insert_all (insert_all numbers (filter_map (f x) ys)) (pairs f xs ys)
pairs_step f numbers xs ys x = fold-append (insert_key int_cmp) numbers (filter_map (f x) ys) (pairs f xs ys)

pub row_at : (f : ℤ → Option ℤ) (old new ys all : List ℤ) (i : ℕ) → i < length ys → insert_all old (filter_map f (drop i ys)) ≡ all → new ≡ put old (f (get_or ys i (pos 0))) → insert_all new (filter_map f (drop (i + 1) ys)) ≡ all
row_at f old new ys all i less before is = rw is (sym (row_step f old (drop (i + 1) ys) (get_or ys i (pos 0))) ∙ sym (at_drop_more (λ (rest : List ℤ). insert_all old (filter_map f rest)) ys i (pos 0) less) ∙ before)

pub pairs_at : (f : ℤ → ℤ → Option ℤ) (old new xs ys all : List ℤ) (i : ℕ) → i < length xs → insert_all old (pairs f (drop i xs) ys) ≡ all → new ≡ insert_all old (filter_map (f (get_or xs i (pos 0))) ys) → insert_all new (pairs f (drop (i + 1) xs) ys) ≡ all
pairs_at f old new xs ys all i less before is = rw is (sym (pairs_step f old (drop (i + 1) xs) ys (get_or xs i (pos 0))) ∙ sym (at_drop_more (λ (rest : List ℤ). insert_all old (pairs f rest ys)) xs i (pos 0) less) ∙ before)

pub among_at : (xs : List ℤ) (i : ℕ) → i < length xs → IsAmong (get_or xs i (pos 0)) xs
among_at [] i less = absurd (omega arith)
among_at (x ∷ xs) zero less = inl refl
among_at (x ∷ xs) (suc i) less = inr (among_at xs i (omega arith))

-- which results there are
pub to_filter : (f : ℤ → Option ℤ) (ys : List ℤ) (y v : ℤ) → IsAmong y ys → f y ≡ Some v → IsAmong v (filter_map f ys)
to_filter f [] y v here same = absurd here
to_filter f (z ∷ ys) y v (inl at) same = by (f z) (ap f at ∙ same)
  where
    by : (o : Option ℤ) → o ≡ Some v → IsAmong v (cons_option o (filter_map f ys))
    by None is = absurd (cc)
    by (Some w) is = inl (some_same w v is)
to_filter f (z ∷ ys) y v (inr later) same = by (to_filter f ys y v later same) (f z)
  where
    by : IsAmong v (filter_map f ys) → (o : Option ℤ) → IsAmong v (cons_option o (filter_map f ys))
    by found None = found
    by found (Some w) = inr found

pub from_filter : (f : ℤ → Option ℤ) (ys : List ℤ) (v : ℤ) → IsAmong v (filter_map f ys) → (y : ℤ) × IsAmong y ys × (f y ≡ Some v)
from_filter f [] v here = absurd here
from_filter f (z ∷ ys) v here = by (from_filter f ys v) (f z) refl here
  where
    deeper : (y : ℤ) × IsAmong y ys × (f y ≡ Some v) → (y : ℤ) × ((z ≡ y) ⊎ IsAmong y ys) × (f y ≡ Some v)
    deeper (y, at, same) = (y, inr at, same)

    by : (IsAmong v (filter_map f ys) → (y : ℤ) × IsAmong y ys × (f y ≡ Some v)) → (o : Option ℤ) → f z ≡ o → IsAmong v (cons_option o (filter_map f ys)) → (y : ℤ) × ((z ≡ y) ⊎ IsAmong y ys) × (f y ≡ Some v)
    by more None is there = deeper (more there)
    by more (Some w) is (inl same) = (z, inl refl, is ∙ ap Some same)
    by more (Some w) is (inr there) = deeper (more there)

among_left : (xs ys : List ℤ) (v : ℤ) → IsAmong v xs → IsAmong v (xs ++ ys)
among_left [] ys v here = absurd here
among_left (x ∷ xs) ys v (inl same) = inl same
among_left (x ∷ xs) ys v (inr here) = inr (among_left xs ys v here)

among_right : (xs ys : List ℤ) (v : ℤ) → IsAmong v ys → IsAmong v (xs ++ ys)
among_right [] ys v here = here
among_right (x ∷ xs) ys v here = inr (among_right xs ys v here)

among_either : (xs ys : List ℤ) (v : ℤ) → IsAmong v (xs ++ ys) → IsAmong v xs ⊎ IsAmong v ys
among_either [] ys v here = inr here
among_either (x ∷ xs) ys v (inl same) = inl (inl same)
among_either (x ∷ xs) ys v (inr here) = by (among_either xs ys v here)
  where
    by : IsAmong v xs ⊎ IsAmong v ys → ((x ≡ v) ⊎ IsAmong v xs) ⊎ IsAmong v ys
    by (inl there) = inl (inr there)
    by (inr there) = inr there

pub to_pairs : (f : ℤ → ℤ → Option ℤ) (xs ys : List ℤ) (x y v : ℤ) → IsAmong x xs → IsAmong y ys → f x y ≡ Some v → IsAmong v (pairs f xs ys)
to_pairs f [] ys x y v here there same = absurd here
to_pairs f (z ∷ xs) ys x y v (inl at) there same = among_left (filter_map (f z) ys) (pairs f xs ys) v (to_filter (f z) ys y v there (ap (λ (u : ℤ). f u y) at ∙ same))
to_pairs f (z ∷ xs) ys x y v (inr here) there same = among_right (filter_map (f z) ys) (pairs f xs ys) v (to_pairs f xs ys x y v here there same)

pub from_pairs : (f : ℤ → ℤ → Option ℤ) (xs ys : List ℤ) (v : ℤ) → IsAmong v (pairs f xs ys) → (x y : ℤ) × IsAmong x xs × IsAmong y ys × (f x y ≡ Some v)
from_pairs f [] ys v here = absurd here
from_pairs f (z ∷ xs) ys v here = by (from_pairs f xs ys v) (among_either (filter_map (f z) ys) (pairs f xs ys) v here)
  where
    first : (y : ℤ) × IsAmong y ys × (f z y ≡ Some v) → (x y : ℤ) × ((z ≡ x) ⊎ IsAmong x xs) × IsAmong y ys × (f x y ≡ Some v)
    first (y, at, same) = (z, y, inl refl, at, same)

    later : (x y : ℤ) × IsAmong x xs × IsAmong y ys × (f x y ≡ Some v) → (x y : ℤ) × ((z ≡ x) ⊎ IsAmong x xs) × IsAmong y ys × (f x y ≡ Some v)
    later (x, y, here, at, same) = (x, y, inr here, at, same)

    by : (IsAmong v (pairs f xs ys) → (x y : ℤ) × IsAmong x xs × IsAmong y ys × (f x y ≡ Some v)) → IsAmong v (filter_map (f z) ys) ⊎ IsAmong v (pairs f xs ys) → (x y : ℤ) × ((z ≡ x) ⊎ IsAmong x xs) × IsAmong y ys × (f x y ≡ Some v)
    by more (inl there) = first (from_filter (f z) ys v there)
    by more (inr there) = later (more there)

-- members of a set of numbers
of_set_allows : (xs : List ℤ) (v : ℤ) → IsAmong v xs → IsResult (of_set xs) v
of_set_allows [] v here = absurd here
of_set_allows (x ∷ xs) v here = few_allows (x ∷ xs) v here

pub gathered_allows : (xs : List ℤ) (v : ℤ) → IsAmong v xs → IsResult (gathered xs) v
gathered_allows xs v here = of_set_allows (ascending xs) v (all_new [] xs v here)

from_ascending : (xs : List ℤ) (v : ℤ) → IsAmong v (ascending xs) → IsAmong v xs
from_ascending xs v here = by (from_all [] xs v here)
  where
    by : IsAmong v [] ⊎ IsAmong v xs → IsAmong v xs
    by (inl none) = absurd none
    by (inr there) = there

of_set_proper : (xs : List ℤ) → IsAscending xs → IfSome (of_set xs) IsProper
of_set_proper [] up = tt
of_set_proper (x ∷ xs) up = few_proper (x ∷ xs) up (omega arith)

pub gathered_proper : (xs : List ℤ) → IfSome (gathered xs) IsProper
gathered_proper xs = of_set_proper (ascending xs) (all_ascending [] xs tt)

of_set_within : (xs : List ℤ) (o : Option Members) → IsAscending xs → IfSome o IsProper → ((v : ℤ) → IsAmong v xs → IsResult o v) → ResultsWithin (of_set xs) o
of_set_within [] o up o_is part = tt
of_set_within (x ∷ xs) None up o_is part = absurd (part x (inl refl))
of_set_within (x ∷ xs) (Some m) up o_is part = few_within (x ∷ xs) m up o_is part

pub gathered_within : (xs : List ℤ) (o : Option Members) → IfSome o IsProper → ((v : ℤ) → IsAmong v xs → IsResult o v) → ResultsWithin (gathered xs) o
gathered_within xs o o_is part = of_set_within (ascending xs) o (all_ascending [] xs tt) o_is (λ v here. part v (from_ascending xs v here))

of_set_of_type : (t : IntType) (xs : List ℤ) → ((v : ℤ) → IsAmong v xs → IsOfType t v) → IfSome (of_set xs) (AreOfType t)
of_set_of_type t [] all = tt
of_set_of_type t (x ∷ xs) all = few_of_type t (x ∷ xs) all

pub gathered_of_type : (t : IntType) (xs : List ℤ) → ((v : ℤ) → IsAmong v xs → IsOfType t v) → IfSome (gathered xs) (AreOfType t)
gathered_of_type t xs all = of_set_of_type t (ascending xs) (λ v here. all v (from_ascending xs v here))
