-- The order of predicates.
use Rattle.std.specs.Prelude.{ℕ, Option, Some, None, ◌≡◌, ◌↔◌}
use Rattle.std.specs.Option.{option_cmp}
use Rattle.std.specs.declared.cmp.Ordering.{Ordering}
use Rattle.std.specs.declared.cmp.Ordering.TheVariants.{Less, Equal, Greater}
use Rattle.std.specs.Ordering.{nat_cmp, int_cmp, on, then_cmp}
use Rattle.po_pred.specs.declared.pred.Atom.{Atom}
use Rattle.po_pred.specs.declared.pred.Atom.TheVariants.{Reg, Param}
use Rattle.po_pred.specs.declared.pred.Place.{Place}
use Rattle.po_pred.specs.declared.pred.Over.{Over}
use Rattle.po_pred.specs.declared.pred.Over.TheVariants.{Add, Sub, Mul, Div, Rem, Shl, Neg}
use Rattle.po_pred.specs.declared.pred.Pred.{Pred}
use Rattle.po_pred.specs.declared.view.View.{View}
use Rattle.po_pred.specs.View.{view_of}

-- a place without an atom comes first, and a register before a parameter
abbrev pub atom_rank : Option Atom → ℕ
atom_rank None = 0
atom_rank (Some (Reg r)) = 1
atom_rank (Some (Param i)) = 2

abbrev pub atom_number : Option Atom → ℕ
atom_number None = 0
atom_number (Some (Reg r)) = r.0
atom_number (Some (Param i)) = i

-- then the lesser number of the atom decides, then lo, then hi
abbrev pub place_cmp : Place → Place → Ordering
place_cmp = then_cmp (on (λ p. atom_rank p.atom) nat_cmp) (then_cmp (on (λ p. atom_number p.atom) nat_cmp) (then_cmp (on (λ p. p.lo) int_cmp) (on (λ p. p.hi) int_cmp)))

-- the operators in their order; kinds without an operator are all alike there
abbrev pub operator_rank : Option Over → ℕ
operator_rank None = 0
operator_rank (Some Add) = 1
operator_rank (Some Sub) = 2
operator_rank (Some Mul) = 3
operator_rank (Some Div) = 4
operator_rank (Some Rem) = 5
operator_rank (Some Shl) = 6
operator_rank (Some Neg) = 7

-- by places in the order of their fields, where a missing one comes first
abbrev pub places_cmp : View → View → Ordering
places_cmp = then_cmp (on (λ v. v.first) (option_cmp place_cmp)) (then_cmp (on (λ v. v.second) (option_cmp place_cmp)) (on (λ v. v.third) (option_cmp place_cmp)))

-- by the other numbers in the order of their fields
abbrev pub numbers_cmp : View → View → Ordering
numbers_cmp = then_cmp (on (λ v. v.factor) int_cmp) (then_cmp (on (λ v. v.low) int_cmp) (on (λ v. v.high) int_cmp))

-- by kind, then by operator, then by width, then by places, then by the other numbers
abbrev pub view_cmp : View → View → Ordering
view_cmp = then_cmp (on (λ v. v.kind) nat_cmp) (then_cmp (on (λ v. operator_rank v.operator) nat_cmp) (then_cmp (on (λ v. v.width) nat_cmp) (then_cmp places_cmp numbers_cmp)))

abbrev pub pred_cmp : Pred → Pred → Ordering
pred_cmp = on view_of view_cmp

-- Of two predicates one comes first, or they are the same, and not both: the comparison gives one answer, it turns with
-- its sides, and it is `Equal` for the same predicate alone. What comes before comes before all that follows.
pub record IsOrder (cmp : Pred → Pred → Ordering) : Type 0 where
  pub same : (p q : Pred) → (cmp p q ≡ Equal) ↔ (p ≡ q)
  pub turned : (p q : Pred) → (cmp p q ≡ Less) ↔ (cmp q p ≡ Greater)
  pub after : (p q r : Pred) → cmp p q ≡ Less → cmp q r ≡ Less → cmp p r ≡ Less
