-- Which predicates are closed: those that hold for all numbers that the ranges of their operands allow.
use Rattle.std.specs.Prelude.{ℕ, ℤ, pos, negsuc, neg_ℤ, ◌+ℤ◌, ◌-ℤ◌, int_le, int_lt, Bool, false, not, ◌&&◌, Option, Some, None}
use Rattle.po_arith.specs.declared.range.Range.{Range}
use Rattle.po_pred.specs.declared.pred.Atom.{Atom}
use Rattle.po_pred.specs.declared.pred.Place.{Place}
use Rattle.po_pred.specs.declared.pred.Over.{Over}
use Rattle.po_pred.specs.declared.pred.Over.TheVariants.{Add, Sub, Mul, Div, Rem, Shl, Neg}
use Rattle.po_pred.specs.declared.pred.Pred.{Pred}
use Rattle.po_pred.specs.declared.pred.Pred.TheVariants.{Nonzero, NoOver}
use Rattle.po_app.specs.Predicates.{half}
use Rattle.po_app.specs.Corners.{sums, differences, products}

-- the range of the type int of the target (5.2.4.2.1)
abbrev pub ints : Range
ints = record { lo = neg_ℤ (pos (half 32)); hi = pos (half 32) -ℤ pos 1 }

abbrev pub range_from : Option Atom → Place → Range
range_from None p = record { lo = p.lo; hi = p.hi }
range_from (Some atom) p = record { lo = ints.lo +ℤ p.lo; hi = ints.hi +ℤ p.hi }

-- the numbers that a place may have: those written, or every int moved by them
abbrev pub range_of : Place → Range
range_of p = range_from p.atom p

-- the same of a second operand, for which an operator of one operand has 0
abbrev pub second_range : Option Place → Range
second_range None = record { lo = pos 0; hi = pos 0 }
second_range (Some p) = range_of p

abbrev pub has : Range → ℤ → Bool
has range v = int_le range.lo v && int_le v range.hi

-- the signed type of this width has the number (6.2.6.2)
abbrev pub of_type : ℕ → ℤ → Bool
of_type bits v = int_le (neg_ℤ (pos (half bits))) v && int_lt v (pos (half bits))

-- both ends are numbers of the signed type of this width
abbrev pub ends_fit : ℕ → Range → Bool
ends_fit bits range = of_type bits range.lo && of_type bits range.hi

-- no result leaves the signed type: sums, differences and products by their ends; a quotient leaves it only where the least
-- number is divided by -1
abbrev pub stays : Over → ℕ → Range → Range → Bool
stays Add bits a b = ends_fit bits (sums a b)
stays Sub bits a b = ends_fit bits (differences a b)
stays Mul bits a b = ends_fit bits (products a b)
stays Div bits a b = not (has a (neg_ℤ (pos (half bits))) && has b (negsuc 0))
stays Rem bits a b = not (has a (neg_ℤ (pos (half bits))) && has b (negsuc 0))
stays Shl bits a b = false
stays Neg bits a b = false

-- the predicate is closed by the ranges of its places; other kinds never are
abbrev pub is_closed : Pred → Bool
is_closed (Nonzero x) = not (has (range_of x) (pos 0))
is_closed (NoOver op bits a b) = stays op bits (range_of a) (second_range b)
is_closed _ = false
