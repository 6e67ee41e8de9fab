-- Rounding the ends of intervals outwards to the nearest threshold.
use Rattle.std.specs.Prelude.{Bool, true, false, cond, ℤ, pos, neg_ℤ, ◌≤ℤ◌, List, [], ◌∷◌, Option, Some, None, int_le, ◌≡◌, ◌⊎◌}
use Rattle.std.specs.Int.{int_min, int_max}
use Rattle.po_arith.specs.declared.interval.Interval.{Interval}
use Rattle.po_interval.specs.Sets.{IsAmong}
use Rattle.po_interval.specs.Within.{interval_within}
use Rattle.po_interval.specs.declared.thresholds.Thresholds.{Thresholds}

-- the greater one, and the lesser one, of the numbers that are there
abbrev pub greater_of : Option ℤ → Option ℤ → Option ℤ
greater_of None b = b
greater_of (Some x) None = Some x
greater_of (Some x) (Some y) = Some (int_max x y)

abbrev pub lesser_of : Option ℤ → Option ℤ → Option ℤ
lesser_of None b = b
lesser_of (Some x) None = Some x
lesser_of (Some x) (Some y) = Some (int_min x y)

-- x where it isn't above v, and where it isn't below
abbrev pub down_to : ℤ → ℤ → Option ℤ
down_to x v = cond (int_le x v) (Some x) None

abbrev pub up_to : ℤ → ℤ → Option ℤ
up_to x v = cond (int_le v x) (Some x) None

-- the greatest of some numbers that isn't above v, and the least that isn't below
abbrev pub greatest_to : List ℤ → ℤ → Option ℤ
greatest_to [] v = None
greatest_to (x ∷ xs) v = greater_of (down_to x v) (greatest_to xs v)

abbrev pub least_from : List ℤ → ℤ → Option ℤ
least_from [] v = None
least_from (x ∷ xs) v = lesser_of (up_to x v) (least_from xs v)

-- the fine thresholds are -65,536..65,536
abbrev pub least_fine : ℤ
least_fine = neg_ℤ (pos 65536)

abbrev pub greatest_fine : ℤ
greatest_fine = pos 65536

-- the nearest fine threshold that isn't above v, and that isn't below
abbrev pub fine_to : ℤ → Option ℤ
fine_to v = cond (int_le least_fine v) (Some (int_min v greatest_fine)) None

abbrev pub fine_from : ℤ → Option ℤ
fine_from v = cond (int_le v greatest_fine) (Some (int_max v least_fine)) None

-- an end goes outwards to the nearest threshold; it is missing where there is none
abbrev pub round_down : Thresholds → Bool → ℤ → Option ℤ
round_down th head v = cond head (greatest_to th.coarse v) (greater_of (fine_to v) (greatest_to th.coarse v))

abbrev pub round_up : Thresholds → Bool → ℤ → Option ℤ
round_up th head v = cond head (least_from th.coarse v) (lesser_of (fine_from v) (least_from th.coarse v))

abbrev pub low_end : Thresholds → Bool → Option ℤ → Option ℤ
low_end th head None = None
low_end th head (Some v) = round_down th head v

abbrev pub high_end : Thresholds → Bool → Option ℤ → Option ℤ
high_end th head None = None
high_end th head (Some v) = round_up th head v

abbrev pub round : Interval → Thresholds → Bool → Interval
round a th head = record { lo = low_end th head a.lo; hi = high_end th head a.hi }

-- v is a threshold, at a head or elsewhere
abbrev pub IsThreshold : Thresholds → Bool → ℤ → Type 0
IsThreshold th head v = IsAmong v th.coarse ⊎ ((head ≡ false) × (least_fine ≤ℤ v) × (v ≤ℤ greatest_fine))

-- end is the nearest threshold that isn't above v, or that isn't below; none where there is no such threshold
abbrev pub IsNearestDown : Thresholds → Bool → ℤ → Option ℤ → Type 0
IsNearestDown th head v None = (w : ℤ) → IsThreshold th head w → w ≤ℤ v → ⊥
IsNearestDown th head v (Some end) = IsThreshold th head end × (end ≤ℤ v) × ((w : ℤ) → IsThreshold th head w → w ≤ℤ v → w ≤ℤ end)

abbrev pub IsNearestUp : Thresholds → Bool → ℤ → Option ℤ → Type 0
IsNearestUp th head v None = (w : ℤ) → IsThreshold th head w → v ≤ℤ w → ⊥
IsNearestUp th head v (Some end) = IsThreshold th head end × (v ≤ℤ end) × ((w : ℤ) → IsThreshold th head w → v ≤ℤ w → end ≤ℤ w)

-- both ends go to the nearest threshold
abbrev pub RoundsToNearest : Type 0
RoundsToNearest = (th : Thresholds) (head : Bool) (v : ℤ) → IsNearestDown th head v (round_down th head v) × IsNearestUp th head v (round_up th head v)

-- an interval lies within its rounding, and of two intervals within one another so do the roundings
pub record RoundingWidens : Type 0 where
  pub wider : (a : Interval) (th : Thresholds) (head : Bool) → interval_within a (round a th head) ≡ true
  pub monotone : (a b : Interval) (th : Thresholds) (head : Bool) → interval_within a b ≡ true → interval_within (round a th head) (round b th head) ≡ true
