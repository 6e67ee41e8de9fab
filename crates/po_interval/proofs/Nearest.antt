-- Rounding goes to the nearest threshold.
use Rattle.std.proofs.Common.{◌≡◌, Bool, true, false, cond, List, [], ◌∷◌, refl, sym, subst, arith, inl, inr, ◌⊎◌}
use Rattle.std.specs.Prelude.{ℤ, ◌≤ℤ◌, Option, Some, None, int_le}
use Rattle.std.specs.Int.{int_min, int_max}
use Rattle.std.proofs.lemmas.Int.{ints, clamps}
use Rattle.std.proofs.lemmas.Bool.{and_parts, and_from}
use Rattle.po_arith.proofs.Comparing.{le_tells, le_since, le_false}
use Rattle.po_interval.specs.Sets.{IsAmong}
use Rattle.po_interval.specs.Within.{is_lower, is_upper}
use Rattle.po_interval.specs.Rounding.{greater_of, lesser_of, down_to, up_to, greatest_to, least_from, least_fine, greatest_fine, fine_to, fine_from, round_down, round_up, low_end, high_end, IsThreshold, IsNearestDown, IsNearestUp, RoundingWidens}
use Rattle.po_interval.specs.declared.thresholds.Thresholds.{Thresholds}

-- end is the greatest number of a kind that isn't above v, or the least one that isn't below
abbrev pub IsGreatest : (ℤ → Type 0) → ℤ → Option ℤ → Type 0
IsGreatest P v None = (w : ℤ) → P w → w ≤ℤ v → ⊥
IsGreatest P v (Some end) = P end × (end ≤ℤ v) × ((w : ℤ) → P w → w ≤ℤ v → w ≤ℤ end)

abbrev pub IsLeast : (ℤ → Type 0) → ℤ → Option ℤ → Type 0
IsLeast P v None = (w : ℤ) → P w → v ≤ℤ w → ⊥
IsLeast P v (Some end) = P end × (v ≤ℤ end) × ((w : ℤ) → P w → v ≤ℤ w → end ≤ℤ w)

-- of two kinds together
greatest_of_both : (P Q : ℤ → Type 0) (v : ℤ) (a b : Option ℤ) → IsGreatest P v a → IsGreatest Q v b → IsGreatest (λ w. P w ⊎ Q w) v (greater_of a b)
greatest_of_both P Q v None None a_is b_is = λ w kind down. by w down kind
  where
    by : (w : ℤ) → w ≤ℤ v → P w ⊎ Q w → ⊥
    by w down (inl p) = a_is w p down
    by w down (inr q) = b_is w q down
greatest_of_both P Q v None (Some y) a_is b_is = (inr b_is.0, b_is.1, λ w kind down. by w down kind)
  where
    by : (w : ℤ) → w ≤ℤ v → P w ⊎ Q w → w ≤ℤ y
    by w down (inl p) = absurd (a_is w p down)
    by w down (inr q) = b_is.2 w q down
greatest_of_both P Q v (Some x) None a_is b_is = (inl a_is.0, a_is.1, λ w kind down. by w down kind)
  where
    by : (w : ℤ) → w ≤ℤ v → P w ⊎ Q w → w ≤ℤ x
    by w down (inl p) = a_is.2 w p down
    by w down (inr q) = absurd (b_is w q down)
greatest_of_both P Q v (Some x) (Some y) a_is b_is = (which (int_max x y) picked, bound, λ w kind down. by w down kind)
  where
    bound : int_max x y ≤ℤ v
    bound = let p = a_is.1 in let q = b_is.1 in omega (arith, ints, clamps)

    picked : (int_max x y ≡ x) ⊎ (int_max x y ≡ y)
    picked = grind (arith, ints, clamps)

    which : (z : ℤ) → (z ≡ x) ⊎ (z ≡ y) → P z ⊎ Q z
    which z (inl same) = inl (subst P (sym same) a_is.0)
    which z (inr same) = inr (subst Q (sym same) b_is.0)

    by : (w : ℤ) → w ≤ℤ v → P w ⊎ Q w → w ≤ℤ int_max x y
    by w down (inl p) = let less = a_is.2 w p down in omega (arith, ints, clamps)
    by w down (inr q) = let less = b_is.2 w q down in omega (arith, ints, clamps)

least_of_both : (P Q : ℤ → Type 0) (v : ℤ) (a b : Option ℤ) → IsLeast P v a → IsLeast Q v b → IsLeast (λ w. P w ⊎ Q w) v (lesser_of a b)
least_of_both P Q v None None a_is b_is = λ w kind up. by w up kind
  where
    by : (w : ℤ) → v ≤ℤ w → P w ⊎ Q w → ⊥
    by w up (inl p) = a_is w p up
    by w up (inr q) = b_is w q up
least_of_both P Q v None (Some y) a_is b_is = (inr b_is.0, b_is.1, λ w kind up. by w up kind)
  where
    by : (w : ℤ) → v ≤ℤ w → P w ⊎ Q w → y ≤ℤ w
    by w up (inl p) = absurd (a_is w p up)
    by w up (inr q) = b_is.2 w q up
least_of_both P Q v (Some x) None a_is b_is = (inl a_is.0, a_is.1, λ w kind up. by w up kind)
  where
    by : (w : ℤ) → v ≤ℤ w → P w ⊎ Q w → x ≤ℤ w
    by w up (inl p) = a_is.2 w p up
    by w up (inr q) = absurd (b_is w q up)
least_of_both P Q v (Some x) (Some y) a_is b_is = (which (int_min x y) picked, bound, λ w kind up. by w up kind)
  where
    bound : v ≤ℤ int_min x y
    bound = let p = a_is.1 in let q = b_is.1 in omega (arith, ints, clamps)

    picked : (int_min x y ≡ x) ⊎ (int_min x y ≡ y)
    picked = grind (arith, ints, clamps)

    which : (z : ℤ) → (z ≡ x) ⊎ (z ≡ y) → P z ⊎ Q z
    which z (inl same) = inl (subst P (sym same) a_is.0)
    which z (inr same) = inr (subst Q (sym same) b_is.0)

    by : (w : ℤ) → v ≤ℤ w → P w ⊎ Q w → int_min x y ≤ℤ w
    by w up (inl p) = let less = a_is.2 w p up in omega (arith, ints, clamps)
    by w up (inr q) = let less = b_is.2 w q up in omega (arith, ints, clamps)

one_down : (x v : ℤ) → IsGreatest (λ w. x ≡ w) v (down_to x v)
one_down x v = by (int_le x v) refl
  where
    by : (b : Bool) → int_le x v ≡ b → IsGreatest (λ w. x ≡ w) v (cond b (Some x) None)
    by true test = (refl, le_tells x v test, λ w same down. omega (arith, ints))
    by false test = λ w same down. let less = le_false x v test in absurd (omega (arith, ints))

one_up : (x v : ℤ) → IsLeast (λ w. x ≡ w) v (up_to x v)
one_up x v = by (int_le v x) refl
  where
    by : (b : Bool) → int_le v x ≡ b → IsLeast (λ w. x ≡ w) v (cond b (Some x) None)
    by true test = (refl, le_tells v x test, λ w same up. omega (arith, ints))
    by false test = λ w same up. let less = le_false v x test in absurd (omega (arith, ints))

pub greatest_is : (xs : List ℤ) (v : ℤ) → IsGreatest (λ w. IsAmong w xs) v (greatest_to xs v)
greatest_is [] v = λ w none down. none
greatest_is (x ∷ xs) v = greatest_of_both (λ w. x ≡ w) (λ w. IsAmong w xs) v (down_to x v) (greatest_to xs v) (one_down x v) (greatest_is xs v)

pub least_is : (xs : List ℤ) (v : ℤ) → IsLeast (λ w. IsAmong w xs) v (least_from xs v)
least_is [] v = λ w none up. none
least_is (x ∷ xs) v = least_of_both (λ w. x ≡ w) (λ w. IsAmong w xs) v (up_to x v) (least_from xs v) (one_up x v) (least_is xs v)

abbrev pub IsFine : ℤ → Type 0
IsFine w = (least_fine ≤ℤ w) × (w ≤ℤ greatest_fine)

fine_down : (v : ℤ) → IsGreatest IsFine v (fine_to v)
fine_down v = by (int_le least_fine v) refl
  where
    by : (b : Bool) → int_le least_fine v ≡ b → IsGreatest IsFine v (cond b (Some (int_min v greatest_fine)) None)
    by true test = let up = le_tells least_fine v test in ((omega (arith, ints, clamps), omega (arith, ints, clamps)), omega (arith, ints, clamps), λ w fine down. let high = fine.1 in omega (arith, ints, clamps))
    by false test = λ w fine down. let less = le_false least_fine v test in let low = fine.0 in absurd (omega (arith, ints))

fine_up : (v : ℤ) → IsLeast IsFine v (fine_from v)
fine_up v = by (int_le v greatest_fine) refl
  where
    by : (b : Bool) → int_le v greatest_fine ≡ b → IsLeast IsFine v (cond b (Some (int_max v least_fine)) None)
    by true test = let down = le_tells v greatest_fine test in ((omega (arith, ints, clamps), omega (arith, ints, clamps)), omega (arith, ints, clamps), λ w fine up. let low = fine.0 in omega (arith, ints, clamps))
    by false test = λ w fine up. let less = le_false v greatest_fine test in let high = fine.1 in absurd (omega (arith, ints))

-- the same kind in other words
greatest_like : (P Q : ℤ → Type 0) (v : ℤ) (end : Option ℤ) → ((w : ℤ) → P w → Q w) → ((w : ℤ) → Q w → P w) → IsGreatest P v end → IsGreatest Q v end
greatest_like P Q v None one other is = λ w kind down. is w (other w kind) down
greatest_like P Q v (Some x) one other is = (one x is.0, is.1, λ w kind down. is.2 w (other w kind) down)

least_like : (P Q : ℤ → Type 0) (v : ℤ) (end : Option ℤ) → ((w : ℤ) → P w → Q w) → ((w : ℤ) → Q w → P w) → IsLeast P v end → IsLeast Q v end
least_like P Q v None one other is = λ w kind up. is w (other w kind) up
least_like P Q v (Some x) one other is = (one x is.0, is.1, λ w kind up. is.2 w (other w kind) up)

coarse_only : (th : Thresholds) (w : ℤ) → IsThreshold th true w → IsAmong w th.coarse
coarse_only th w (inl coarse) = coarse
coarse_only th w (inr fine) = absurd (let wrong = fine.0 in cc)

either : (th : Thresholds) (w : ℤ) → IsFine w ⊎ IsAmong w th.coarse → IsThreshold th false w
either th w (inl fine) = inr (refl, fine.0, fine.1)
either th w (inr coarse) = inl coarse

one_of : (th : Thresholds) (w : ℤ) → IsThreshold th false w → IsFine w ⊎ IsAmong w th.coarse
one_of th w (inl coarse) = inr coarse
one_of th w (inr fine) = inl (fine.1, fine.2)

pub down_is : (th : Thresholds) (head : Bool) (v : ℤ) → IsGreatest (IsThreshold th head) v (round_down th head v)
down_is th true v = greatest_like _ _ v (greatest_to th.coarse v) (λ w coarse. inl coarse) (coarse_only th) (greatest_is th.coarse v)
down_is th false v = greatest_like _ _ v (greater_of (fine_to v) (greatest_to th.coarse v)) (either th) (one_of th) (greatest_of_both IsFine (λ w. IsAmong w th.coarse) v (fine_to v) (greatest_to th.coarse v) (fine_down v) (greatest_is th.coarse v))

pub up_is : (th : Thresholds) (head : Bool) (v : ℤ) → IsLeast (IsThreshold th head) v (round_up th head v)
up_is th true v = least_like _ _ v (least_from th.coarse v) (λ w coarse. inl coarse) (coarse_only th) (least_is th.coarse v)
up_is th false v = least_like _ _ v (lesser_of (fine_from v) (least_from th.coarse v)) (either th) (one_of th) (least_of_both IsFine (λ w. IsAmong w th.coarse) v (fine_from v) (least_from th.coarse v) (fine_up v) (least_is th.coarse v))

nearest_down : (th : Thresholds) (head : Bool) (v : ℤ) (end : Option ℤ) → IsGreatest (IsThreshold th head) v end → IsNearestDown th head v end
nearest_down th head v None is = is
nearest_down th head v (Some x) is = is

nearest_up : (th : Thresholds) (head : Bool) (v : ℤ) (end : Option ℤ) → IsLeast (IsThreshold th head) v end → IsNearestUp th head v end
nearest_up th head v None is = is
nearest_up th head v (Some x) is = is

pub nearest : (th : Thresholds) (head : Bool) (v : ℤ) → IsNearestDown th head v (round_down th head v) × IsNearestUp th head v (round_up th head v)
nearest th head v = (nearest_down th head v _ (down_is th head v), nearest_up th head v _ (up_is th head v))

-- an end lies above where it is rounded down to, and of two ends so do the rounded ones
down_wider : (P : ℤ → Type 0) (v : ℤ) (end : Option ℤ) → IsGreatest P v end → is_lower end (Some v) ≡ true
down_wider P v None is = refl
down_wider P v (Some x) is = le_since x v is.1

up_wider : (P : ℤ → Type 0) (v : ℤ) (end : Option ℤ) → IsLeast P v end → is_upper end (Some v) ≡ true
up_wider P v None is = refl
up_wider P v (Some x) is = le_since v x is.1

low_wider : (th : Thresholds) (head : Bool) (a : Option ℤ) → is_lower (low_end th head a) a ≡ true
low_wider th head None = refl
low_wider th head (Some v) = down_wider _ v _ (down_is th head v)

high_wider : (th : Thresholds) (head : Bool) (a : Option ℤ) → is_upper (high_end th head a) a ≡ true
high_wider th head None = refl
high_wider th head (Some v) = up_wider _ v _ (up_is th head v)

down_monotone : (P : ℤ → Type 0) (v w : ℤ) (a b : Option ℤ) → w ≤ℤ v → IsGreatest P v a → IsGreatest P w b → is_lower b a ≡ true
down_monotone P v w a None down a_is b_is = refl
down_monotone P v w None (Some y) down a_is b_is = absurd (a_is y b_is.0 (let less = b_is.1 in omega (arith, ints)))
down_monotone P v w (Some x) (Some y) down a_is b_is = le_since y x (a_is.2 y b_is.0 (let less = b_is.1 in omega (arith, ints)))

up_monotone : (P : ℤ → Type 0) (v w : ℤ) (a b : Option ℤ) → v ≤ℤ w → IsLeast P v a → IsLeast P w b → is_upper b a ≡ true
up_monotone P v w a None up a_is b_is = refl
up_monotone P v w None (Some y) up a_is b_is = absurd (a_is y b_is.0 (let more = b_is.1 in omega (arith, ints)))
up_monotone P v w (Some x) (Some y) up a_is b_is = le_since x y (a_is.2 y b_is.0 (let more = b_is.1 in omega (arith, ints)))

low_monotone : (th : Thresholds) (head : Bool) (a b : Option ℤ) → is_lower b a ≡ true → is_lower (low_end th head b) (low_end th head a) ≡ true
low_monotone th head a None test = refl
low_monotone th head None (Some y) test = absurd (cc)
low_monotone th head (Some x) (Some y) test = down_monotone _ x y _ _ (le_tells y x test) (down_is th head x) (down_is th head y)

high_monotone : (th : Thresholds) (head : Bool) (a b : Option ℤ) → is_upper b a ≡ true → is_upper (high_end th head b) (high_end th head a) ≡ true
high_monotone th head a None test = refl
high_monotone th head None (Some y) test = absurd (cc)
high_monotone th head (Some x) (Some y) test = up_monotone _ x y _ _ (le_tells x y test) (up_is th head x) (up_is th head y)

pub widens : RoundingWidens
widens = record {
  wider = λ a th head. and_from _ _ (low_wider th head a.lo) (high_wider th head a.hi);
  monotone = λ a b th head test. let ends = and_parts _ _ test in and_from _ _ (low_monotone th head a.lo b.lo ends.0) (high_monotone th head a.hi b.hi ends.1);
}
