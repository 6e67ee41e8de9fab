-- A predicate is closed by its ranges wherever it holds for all values that its places may have.
use Rattle.std.proofs.Common.{◌≡◌, ◌↔◌, arith, refl, true}
use Rattle.std.specs.Prelude.{ℤ, pos, ◌≤ℤ◌, ◌-ℤ◌, Option, Some, None}
use Rattle.std.proofs.lemmas.Int.{ints, by_lt_z}
use Rattle.po_pred.specs.declared.pred.Atom.{Atom}
use Rattle.po_pred.specs.declared.pred.Place.{Place}
use Rattle.po_pred.specs.declared.pred.Pred.{Pred}
use Rattle.po_pred.specs.declared.pred.Pred.TheVariants.{Nonzero, NoOver}
use Rattle.po_app.specs.Predicates.{MayBe, MayBeFrom, SecondMayBe, HoldsForAll, HasANumber, SecondHasANumber, HaveNumbers}
use Rattle.po_app.specs.Ranges.{IsIn}
use Rattle.po_app.specs.Discharge.{range_of, range_from, second_range, is_closed}
use Rattle.po_app.specs.Tests.{Decides-never}
use Rattle.po_app.proofs.Tells.{Decides-has, stays_wherever, closed_for_all}

-- each number of a range is the greatest int or less, moved by a number of the place
reached_from : (atom : Option Atom) (p : Place) (v : ℤ) → HasANumber p → IsIn (range_from atom p) v → MayBeFrom atom p v
reached_from None p v some h = (omega (arith, ints), omega (arith, ints))
reached_from (Some atom) p v some h =
    by_lt_z (pos 2147483647) (v -ℤ p.lo)
    (λ above. (pos 2147483647, (omega (arith, ints), omega (arith, ints)), (omega (arith, ints), omega (arith, ints))))
    (λ low. (v -ℤ p.lo, (omega (arith, ints), omega (arith, ints)), (omega (arith, ints), omega (arith, ints))))

reached : (p : Place) (v : ℤ) → HasANumber p → IsIn (range_of p) v → MayBe p v
reached p v some h = reached_from p.atom p v some h

second_reached : (b : Option Place) (w : ℤ) → SecondHasANumber b → IsIn (second_range b) w → SecondMayBe b w
second_reached None w some h = omega (arith, ints)
second_reached (Some p) w some h = reached p w some h

ordered_from : (atom : Option Atom) (p : Place) → HasANumber p → (range_from atom p).lo ≤ℤ (range_from atom p).hi
ordered_from None p some = some
ordered_from (Some atom) p some = omega (arith, ints)

second_ordered : (b : Option Place) → SecondHasANumber b → (second_range b).lo ≤ℤ (second_range b).hi
second_ordered None some = omega (arith, ints)
second_ordered (Some p) some = ordered_from p.atom p some

closed_wherever : (q : Pred) → HaveNumbers q → HoldsForAll q → is_closed q ≡ true
closed_wherever (Nonzero x) some all = (Decides-never _ (Decides-has (range_of x) (pos 0))).1 (λ h. all (pos 0) (reached x (pos 0) some h) refl)
closed_wherever (NoOver op bits a b) some all =
    stays_wherever op bits (range_of a) (second_range b) (ordered_from a.atom a some.0) (second_ordered b some.1) (λ v w h k. all v w (reached a v some.0 h) (second_reached b w some.1 k))
closed_wherever _ some all = absurd all

pub closed_exactly : (q : Pred) → HaveNumbers q → (is_closed q ≡ true) ↔ HoldsForAll q
closed_exactly q some = (closed_for_all q, closed_wherever q some)
