-- The order of members, and their join as the least upper bound.
use Rattle.std.proofs.Common.{◌≡◌, ◌<◌, Bool, true, false, cond, List, [], ◌∷◌, length, refl, sym, ap, subst, inl, inr, ◌⊎◌, arith}
use Rattle.std.specs.Prelude.{ℤ, pos, ◌<ℤ◌, ◌+ℤ◌, nat_le}
use Rattle.std.specs.Int.{int_max}
use Rattle.std.proofs.lemmas.Int.{ints, clamps}
use Rattle.std.proofs.lemmas.Bool.{le-leb, leb-true}
use Rattle.po_interval.specs.Sets.{IsAmong, IsAscending, insert_all, few}
use Rattle.po_arith.specs.declared.int_type.IntType.{IntType}
use Rattle.po_arith.specs.Types.{IsOfType}
use Rattle.po_interval.specs.Members.{Allows, IsProper, AreOfType, AreWithin, members_within, join_members}
use Rattle.po_interval.specs.declared.members.Members.{Members}
use Rattle.po_interval.specs.declared.members.Members.TheVariants.{Few, Any}
use Rattle.po_interval.proofs.Numbers.{from_all, all_old, all_new, all_ascending, shorter, same_set, within_tells, within_since}

-- a number above all of a list
above : List ℤ → ℤ
above [] = pos 0
above (x ∷ xs) = int_max (x +ℤ pos 1) (above xs)

not_above : (xs : List ℤ) (v : ℤ) → IsAmong v xs → v <ℤ above xs
unfolding above
not_above [] v here = absurd here
not_above (x ∷ xs) v (inl same) = omega (arith, ints, clamps)
not_above (x ∷ xs) v (inr rest) = let less = not_above xs v rest in omega (arith, ints, clamps)

pub tells : (a b : Members) → members_within a b ≡ true → AreWithin a b
tells a Any test v allowed = tt
tells (Few xs) (Few ys) test v allowed = within_tells xs ys test v allowed
tells Any (Few ys) test v allowed = absurd (cc)

pub since : (a b : Members) → AreWithin a b → members_within a b ≡ true
since (Few xs) Any part = refl
since Any Any part = refl
since (Few xs) (Few ys) part = within_since xs ys part
since Any (Few ys) part = absurd (let less = not_above ys (above ys) (part (above ys) tt) in omega (arith, ints))

pub same_members : (a b : Members) → IsProper a → IsProper b → AreWithin a b → AreWithin b a → a ≡ b
same_members Any Any a_is b_is one other = refl
same_members (Few xs) (Few ys) a_is b_is one other = ap Few (same_set xs ys a_is.2 b_is.2 one other)
same_members Any (Few ys) a_is b_is one other = absurd (let less = not_above ys (above ys) (one (above ys) tt) in omega (arith, ints))
same_members (Few xs) Any a_is b_is one other = absurd (let less = not_above xs (above xs) (other (above xs) tt) in omega (arith, ints))

-- a set of at most eight numbers is kept, and a longer one gives way to any
pub few_allows : (xs : List ℤ) (v : ℤ) → IsAmong v xs → Allows (few xs) v
few_allows xs v here = by (nat_le (length xs) 8)
  where
    by : (b : Bool) → Allows (cond b (Few xs) Any) v
    by true = here
    by false = tt

pub few_within : (xs : List ℤ) (c : Members) → IsAscending xs → IsProper c → ((v : ℤ) → IsAmong v xs → Allows c v) → AreWithin (few xs) c
few_within xs Any up c_is part v allowed = tt
few_within xs (Few zs) up c_is part v allowed =
    let fewer = shorter xs zs up c_is.2 part in
    let bound = c_is.1 in
    part v (subst (λ (b : Bool). Allows (cond b (Few xs) Any) v) (le-leb (length xs) 8 (omega arith)) allowed)

pub few_proper : (xs : List ℤ) → IsAscending xs → 0 < length xs → IsProper (few xs)
few_proper xs up some = by (nat_le (length xs) 8) refl
  where
    by : (b : Bool) → nat_le (length xs) 8 ≡ b → IsProper (cond b (Few xs) Any)
    by true test = (some, leb-true _ _ test, up)
    by false test = tt

joined : (xs ys : List ℤ) (v : ℤ) → IsAmong v (insert_all (insert_all [] xs) ys) → IsAmong v xs ⊎ IsAmong v ys
joined xs ys v here = by (from_all (insert_all [] xs) ys v here)
  where
    first : IsAmong v [] ⊎ IsAmong v xs → IsAmong v xs ⊎ IsAmong v ys
    first (inl none) = absurd none
    first (inr there) = inl there

    by : IsAmong v (insert_all [] xs) ⊎ IsAmong v ys → IsAmong v xs ⊎ IsAmong v ys
    by (inl there) = first (from_all [] xs v there)
    by (inr there) = inr there

ascends : (xs ys : List ℤ) → IsAscending (insert_all (insert_all [] xs) ys)
ascends xs ys = all_ascending (insert_all [] xs) ys (all_ascending [] xs tt)

pub first_within : (a b : Members) → AreWithin a (join_members a b)
first_within (Few xs) (Few ys) v here = few_allows _ v (all_old (insert_all [] xs) ys v (all_new [] xs v here))
first_within (Few xs) Any v here = tt
first_within Any b v here = tt

pub second_within : (a b : Members) → AreWithin b (join_members a b)
second_within (Few xs) (Few ys) v here = few_allows _ v (all_new (insert_all [] xs) ys v here)
second_within (Few xs) Any v here = tt
second_within Any b v here = tt

pub join_least : (a b c : Members) → IsProper c → AreWithin a c → AreWithin b c → AreWithin (join_members a b) c
join_least (Few xs) (Few ys) c c_is one other = few_within _ c (ascends xs ys) c_is (λ v here. by v (joined xs ys v here))
  where
    by : (v : ℤ) → IsAmong v xs ⊎ IsAmong v ys → Allows c v
    by v (inl here) = one v here
    by v (inr here) = other v here
join_least (Few xs) Any c c_is one other = other
join_least Any b c c_is one other = one

longer : (xs : List ℤ) (v : ℤ) → IsAmong v xs → 0 < length xs
longer [] v here = absurd here
longer (x ∷ xs) v here = omega arith

pub join_proper : (a b : Members) → IsProper a → IsProper b → IsProper (join_members a b)
join_proper (Few []) (Few ys) a_is b_is = absurd (let some = a_is.0 in omega arith)
join_proper (Few (x ∷ xs)) (Few ys) a_is b_is = few_proper _ (ascends (x ∷ xs) ys) (longer _ x (all_old (insert_all [] (x ∷ xs)) ys x (all_new [] (x ∷ xs) x (inl refl))))
join_proper (Few xs) Any a_is b_is = tt
join_proper Any b a_is b_is = tt

pub join_commutes : (a b : Members) → IsProper a → IsProper b → join_members a b ≡ join_members b a
join_commutes a b a_is b_is =
    same_members _ _ (join_proper a b a_is b_is) (join_proper b a b_is a_is)
    (join_least a b _ (join_proper b a b_is a_is) (second_within b a) (first_within b a))
    (join_least b a _ (join_proper a b a_is b_is) (second_within a b) (first_within a b))

pub join_associates : (a b c : Members) → IsProper a → IsProper b → IsProper c → join_members (join_members a b) c ≡ join_members a (join_members b c)
join_associates a b c a_is b_is c_is =
    let ab = join_members a b in
    let bc = join_members b c in
    let ab_is = join_proper a b a_is b_is in
    let bc_is = join_proper b c b_is c_is in
    let one_is = join_proper ab c ab_is c_is in
    let other_is = join_proper a bc a_is bc_is in
    same_members _ _ one_is other_is
    (join_least ab c _ other_is
    (join_least a b _ other_is (first_within a bc) (λ v here. second_within a bc v (first_within b c v here)))
    (λ v here. second_within a bc v (second_within b c v here)))
    (join_least a bc _ one_is
    (λ v here. first_within ab c v (first_within a b v here))
    (join_least b c _ one_is (λ v here. first_within ab c v (second_within a b v here)) (second_within ab c)))

pub join_idempotent : (a : Members) → IsProper a → join_members a a ≡ a
join_idempotent a a_is = same_members _ _ (join_proper a a a_is a_is) a_is (join_least a a a a_is (λ v here. here) (λ v here. here)) (first_within a a)

-- what few numbers allow where they are listed
abbrev numbers_of : Members → List ℤ
numbers_of (Few xs) = xs
numbers_of Any = []

pub few_listed : (xs zs : List ℤ) (v : ℤ) → few xs ≡ Few zs → IsAmong v zs → IsAmong v xs
few_listed xs zs v same here = by (nat_le (length xs) 8) same
  where
    by : (b : Bool) → cond b (Few xs) Any ≡ Few zs → IsAmong v xs
    by true is = subst (IsAmong v) (sym (ap numbers_of is)) here
    by false is = absurd (cc)

pub few_of_type : (t : IntType) (xs : List ℤ) → ((v : ℤ) → IsAmong v xs → IsOfType t v) → AreOfType t (few xs)
few_of_type t xs all = by (nat_le (length xs) 8)
  where
    by : (b : Bool) → AreOfType t (cond b (Few xs) Any)
    by true = all
    by false = tt

pub join_listed : (a b : Members) (zs : List ℤ) (v : ℤ) → join_members a b ≡ Few zs → IsAmong v zs → Allows a v ⊎ Allows b v
join_listed (Few xs) (Few ys) zs v same here = joined xs ys v (few_listed (insert_all (insert_all [] xs) ys) zs v same here)
join_listed (Few xs) Any zs v same here = inr tt
join_listed Any b zs v same here = inl tt

pub join_of_type : (t : IntType) (a b : Members) → AreOfType t a → AreOfType t b → AreOfType t (join_members a b)
join_of_type t (Few xs) (Few ys) one other = few_of_type t (insert_all (insert_all [] xs) ys) (λ v here. by v (joined xs ys v here))
  where
    by : (v : ℤ) → IsAmong v xs ⊎ IsAmong v ys → IsOfType t v
    by v (inl here) = one v here
    by v (inr here) = other v here
join_of_type t (Few xs) Any one other = tt
join_of_type t Any b one other = tt
