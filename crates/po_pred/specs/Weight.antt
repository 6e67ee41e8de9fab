-- The weight of a predicate.
use Rattle.std.specs.Prelude.{ℕ, ◌+◌, ℤ, pos, Option, Some, None, cond}
use Rattle.std.specs.List.{sum_by}
use Rattle.std.specs.Ordering.{int_eq}
use Rattle.po_pred.specs.declared.pred.Atom.{Atom}
use Rattle.po_pred.specs.declared.pred.Place.{Place}
use Rattle.po_pred.specs.declared.pred.Pred.{Pred}
use Rattle.po_pred.specs.View.{places_of}

-- a number weighs 1, a range of numbers 2
abbrev pub range_weight : ℤ → ℤ → ℕ
range_weight lo hi = cond (int_eq lo hi) 1 2

-- a parameter or register weighs 3, with a single offset 4, with a range of offsets 5
abbrev pub offset_weight : ℤ → ℤ → ℕ
offset_weight lo hi = cond (int_eq lo hi) (cond (int_eq lo (pos 0)) 3 4) 5

abbrev pub weight_at : Option Atom → ℤ → ℤ → ℕ
weight_at None lo hi = range_weight lo hi
weight_at (Some a) lo hi = offset_weight lo hi

abbrev pub place_weight : Place → ℕ
place_weight p = weight_at p.atom p.lo p.hi

-- a missing place weighs nothing
abbrev pub optional_weight : Option Place → ℕ
optional_weight None = 0
optional_weight (Some p) = place_weight p

-- 1, and the weights of the places
abbrev pub weight_of : Pred → ℕ
weight_of p = 1 + sum_by place_weight (places_of p)
