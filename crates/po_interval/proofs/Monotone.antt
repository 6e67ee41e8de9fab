-- Wider operands have wider intervals of results.
use Rattle.std.proofs.Common.{◌≡◌, ◌-◌, Bool, true, false, cond, arith, refl, subst}
use Rattle.std.specs.Prelude.{◌&&◌, ℤ, pos, ◌≤ℤ◌, Option, Some, None, int_le}
use Rattle.std.specs.Int.{int_min, int_max}
use Rattle.std.proofs.lemmas.Int.{ints, clamps}
use Rattle.std.proofs.lemmas.Bool.{and_parts, and_from, both_ways}
use Rattle.po_base.specs.declared.operators.Op.{Op}
use Rattle.po_base.specs.declared.operators.Op.TheVariants as op
use Rattle.po_base.specs.declared.operators.UnOp.{UnOp}
use Rattle.po_base.specs.declared.operators.UnOp.TheVariants as un
use Rattle.po_arith.specs.declared.int_type.IntType.{IntType}
use Rattle.po_arith.specs.declared.interval.Interval.{Interval}
use Rattle.po_arith.specs.declared.range.Range.{Range}
use Rattle.po_arith.specs.Types.{IsIntType, least, greatest}
use Rattle.po_arith.proofs.Comparing.{le_tells, le_since, le_false}
use Rattle.po_arith.proofs.BitsNeeded.{filled_up, filled_of}
use Rattle.po_arith.proofs.RangesWiden.{up_of, results_widen}
use Rattle.po_arith.proofs.Sizes.{small}
use Rattle.po_arith.specs.Bits.{filled}
use Rattle.po_arith.specs.Ranges.{range, IsPart}
use Rattle.po_interval.specs.Within.{interval_within}
use Rattle.po_interval.specs.Ranges.{AreWithin, low_cut, high_cut, cut, part, counts, all, conjunctions, disjunctions, outcomes, takes_count, second, of_parts, un_outcomes, of_part}
use Rattle.po_interval.specs.Results.{BinIsMonotone, UnIsMonotone}
use Rattle.po_interval.proofs.Covered.{cut_low, cut_high}
use Rattle.po_interval.proofs.Widening.{cut_part, settled_monotone}
use Rattle.po_arith.proofs.Wrapped.{spans}

-- numbers of the type
pub record IsOf (t : IntType) (r : Range) : Type 0 where
  pub low : least t ≤ℤ r.lo
  pub up : r.lo ≤ℤ r.hi
  pub high : r.hi ≤ℤ greatest t

conjunctions_part : (t : IntType) (r s u v : Range) → IsIntType t → IsOf t r → IsOf t s → IsPart (Some r) (Some u) → IsPart (Some s) (Some v) → IsPart (Some (conjunctions t r s)) (Some (conjunctions t u v))
conjunctions_part t r s u v is r_of s_of one other = by (int_le (pos 0) r.lo) (int_le (pos 0) s.lo) (int_le (pos 0) u.lo) (int_le (pos 0) v.lo) refl refl refl refl
  where
    by : (a b c d : Bool) → int_le (pos 0) r.lo ≡ a → int_le (pos 0) s.lo ≡ b → int_le (pos 0) u.lo ≡ c → int_le (pos 0) v.lo ≡ d → IsPart (Some (cond a (range (pos 0) (cond b (int_min r.hi s.hi) r.hi)) (cond b (range (pos 0) s.hi) (all t)))) (Some (cond c (range (pos 0) (cond d (int_min u.hi v.hi) u.hi)) (cond d (range (pos 0) v.hi) (all t))))
    by true true true true p q x y = let h = one.1 in let k = other.1 in (omega (arith, ints), omega (arith, ints, clamps))
    by true true true false p q x y = let h = one.1 in (omega (arith, ints), omega (arith, ints, clamps))
    by true true false true p q x y = let k = other.1 in (omega (arith, ints), omega (arith, ints, clamps))
    by true true false false p q x y = let h = r_of.high in let low = (spans t is).low in (omega (arith, ints), omega (arith, ints, clamps))
    by true false true true p q x y = let down = le_false (pos 0) s.lo q in let up = le_tells (pos 0) v.lo y in let low = other.0 in absurd (omega (arith, ints))
    by true false true false p q x y = let h = one.1 in (omega (arith, ints), omega (arith, ints))
    by true false false true p q x y = let down = le_false (pos 0) s.lo q in let up = le_tells (pos 0) v.lo y in let low = other.0 in absurd (omega (arith, ints))
    by true false false false p q x y = let h = r_of.high in let low = (spans t is).low in (omega (arith, ints), omega (arith, ints))
    by false b true d p q x y = let down = le_false (pos 0) r.lo p in let up = le_tells (pos 0) u.lo x in let low = one.0 in absurd (omega (arith, ints))
    by false true false true p q x y = let k = other.1 in (omega (arith, ints), omega (arith, ints))
    by false true false false p q x y = let h = s_of.high in let low = (spans t is).low in (omega (arith, ints), omega (arith, ints))
    by false false false true p q x y = let down = le_false (pos 0) s.lo q in let up = le_tells (pos 0) v.lo y in let low = other.0 in absurd (omega (arith, ints))
    by false false false false p q x y = (omega (arith, ints), omega (arith, ints))

disjunctions_part : (t : IntType) (r s u v : Range) → IsIntType t → IsOf t r → IsOf t s → IsOf t u → IsOf t v → IsPart (Some r) (Some u) → IsPart (Some s) (Some v) → IsPart (Some (disjunctions t r s)) (Some (disjunctions t u v))
disjunctions_part t r s u v is r_of s_of u_of v_of one other = by (int_le (pos 0) r.lo && int_le (pos 0) s.lo) (int_le (pos 0) u.lo && int_le (pos 0) v.lo) refl refl
  where
    natural : (x y : Range) → IsOf t x → (int_le (pos 0) x.lo && int_le (pos 0) y.lo) ≡ true → pos 0 ≤ℤ int_max x.hi y.hi
    natural x y x_of test = let low = le_tells (pos 0) x.lo (and_parts (int_le (pos 0) x.lo) (int_le (pos 0) y.lo) test).0 in let up = x_of.up in omega (arith, ints, clamps)

    lower : (int_le (pos 0) u.lo && int_le (pos 0) v.lo) ≡ true → (int_le (pos 0) r.lo && int_le (pos 0) s.lo) ≡ true
    lower test =
        let tests = and_parts (int_le (pos 0) u.lo) (int_le (pos 0) v.lo) test in
        let first = le_tells (pos 0) u.lo tests.0 in
        let second = le_tells (pos 0) v.lo tests.1 in
        let low = one.0 in
        let also = other.0 in
        and_from _ _ (le_since (pos 0) r.lo (omega (arith, ints))) (le_since (pos 0) s.lo (omega (arith, ints)))

    by : (b c : Bool) → (int_le (pos 0) r.lo && int_le (pos 0) s.lo) ≡ b → (int_le (pos 0) u.lo && int_le (pos 0) v.lo) ≡ c → IsPart (Some (cond b (range (pos 0) (filled (int_max r.hi s.hi))) (all t))) (Some (cond c (range (pos 0) (filled (int_max u.hi v.hi))) (all t)))
    by true true test wider =
        let most = (small t is).high in
        let h = one.1 in
        let k = other.1 in
        let h_of = u_of.high in
        let k_of = v_of.high in
        (omega (arith, ints), filled_up (int_max r.hi s.hi) (int_max u.hi v.hi) (natural r s r_of test) (omega (arith, ints, clamps)) (omega (arith, ints, clamps)))
    by true false test wider =
        let h_of = r_of.high in
        let k_of = s_of.high in
        ((spans t is).low, filled_of t (int_max r.hi s.hi) is (natural r s r_of test) (omega (arith, ints, clamps)))
    by false true test wider = absurd (both_ways _ test (lower wider))
    by false false test wider = (omega (arith, ints), omega (arith, ints))

abbrev OutcomesAreMonotone : Op → Type 0
OutcomesAreMonotone op = (t : IntType) (r s u v : Range) → IsIntType t → IsOf t r → IsOf t u → s.lo ≤ℤ s.hi → (takes_count op ≡ false → IsOf t s × IsOf t v) → (takes_count op ≡ true → pos 0 ≤ℤ v.lo) → IsPart (Some r) (Some u) → IsPart (Some s) (Some v) → IsPart (outcomes op t r s) (outcomes op t u v)

outcomes_monotone : (op : Op) → OutcomesAreMonotone op
outcomes_monotone op.Add t r s u v is r_of u_of s_up of count one other = (omega (arith, ints), omega (arith, ints))
outcomes_monotone op.Sub t r s u v is r_of u_of s_up of count one other = (omega (arith, ints), omega (arith, ints))
outcomes_monotone op.Mul t r s u v is r_of u_of s_up of count one other = results_widen.products r s u v r_of.up s_up one other
outcomes_monotone op.Div t r s u v is r_of u_of s_up of count one other = results_widen.quotients r s u v r_of.up one other
outcomes_monotone op.Rem t r s u v is r_of u_of s_up of count one other = results_widen.remainders r s u v one other
outcomes_monotone op.And t r s u v is r_of u_of s_up of count one other = conjunctions_part t r s u v is r_of (of refl).0 one other
outcomes_monotone op.Or t r s u v is r_of u_of s_up of count one other = disjunctions_part t r s u v is r_of (of refl).0 u_of (of refl).1 one other
outcomes_monotone op.Xor t r s u v is r_of u_of s_up of count one other = disjunctions_part t r s u v is r_of (of refl).0 u_of (of refl).1 one other
outcomes_monotone op.Shl t r s u v is r_of u_of s_up of count one other = results_widen.shifts_up r s u v s_up (count refl) one other
outcomes_monotone op.Shr t r s u v is r_of u_of s_up of count one other = results_widen.shifts_down r s u v r_of.up s_up (count refl) one other
outcomes_monotone op.Eq t r s u v is r_of u_of s_up of count one other = (omega (arith, ints), omega (arith, ints))
outcomes_monotone op.Ne t r s u v is r_of u_of s_up of count one other = (omega (arith, ints), omega (arith, ints))
outcomes_monotone op.Lt t r s u v is r_of u_of s_up of count one other = (omega (arith, ints), omega (arith, ints))
outcomes_monotone op.Le t r s u v is r_of u_of s_up of count one other = (omega (arith, ints), omega (arith, ints))
outcomes_monotone op.Gt t r s u v is r_of u_of s_up of count one other = (omega (arith, ints), omega (arith, ints))
outcomes_monotone op.Ge t r s u v is r_of u_of s_up of count one other = (omega (arith, ints), omega (arith, ints))

cut_up : (low high : ℤ) (a : Interval) (s : Range) → cut low high a ≡ Some s → s.lo ≤ℤ s.hi
cut_up low high a s same = up_of (low_cut low a.lo) (high_cut high a.hi) s same

part_of : (t : IntType) (a : Interval) (r : Range) → part t a ≡ Some r → IsOf t r
part_of t a r same = record { low = cut_low (least t) (greatest t) a r same; up = cut_up (least t) (greatest t) a r same; high = cut_high (least t) (greatest t) a r same }

second_part : (op : Op) (t : IntType) (b d : Interval) → interval_within b d ≡ true → IsPart (second op t b) (second op t d)
second_part op t b d test = by (takes_count op)
  where
    by : (k : Bool) → IsPart (cond k (counts t b) (part t b)) (cond k (counts t d) (part t d))
    by true = cut_part (pos 0) (pos (t.bits - 1)) b d test
    by false = cut_part (least t) (greatest t) b d test

second_up : (op : Op) (t : IntType) (b : Interval) (s : Range) → second op t b ≡ Some s → s.lo ≤ℤ s.hi
second_up op t b s same = by (takes_count op) same
  where
    by : (k : Bool) → cond k (counts t b) (part t b) ≡ Some s → s.lo ≤ℤ s.hi
    by true is = cut_up (pos 0) (pos (t.bits - 1)) b s is
    by false is = cut_up (least t) (greatest t) b s is

second_of : (op : Op) (t : IntType) (b : Interval) (s : Range) → second op t b ≡ Some s → takes_count op ≡ false → IsOf t s
second_of op t b s same kind = part_of t b s (subst (λ (k : Bool). cond k (counts t b) (part t b) ≡ Some s) kind same)

second_low : (op : Op) (t : IntType) (b : Interval) (s : Range) → second op t b ≡ Some s → takes_count op ≡ true → pos 0 ≤ℤ s.lo
second_low op t b s same kind = cut_low (pos 0) (pos (t.bits - 1)) b s (subst (λ (k : Bool). cond k (counts t b) (part t b) ≡ Some s) kind same)

of_parts_monotone : (op : Op) (t : IntType) (o p n m : Option Range) → IsIntType t → ((r : Range) → o ≡ Some r → IsOf t r) → ((u : Range) → n ≡ Some u → IsOf t u) → ((s : Range) → p ≡ Some s → s.lo ≤ℤ s.hi) → ((s v : Range) → p ≡ Some s → m ≡ Some v → takes_count op ≡ false → IsOf t s × IsOf t v) → ((v : Range) → m ≡ Some v → takes_count op ≡ true → pos 0 ≤ℤ v.lo) → IsPart o n → IsPart p m → AreWithin (of_parts op t o p) (of_parts op t n m)
of_parts_monotone op t None p n m is first wide up of count one other = tt
of_parts_monotone op t (Some r) None n m is first wide up of count one other = tt
of_parts_monotone op t (Some r) (Some s) None m is first wide up of count one other = absurd one
of_parts_monotone op t (Some r) (Some s) (Some u) None is first wide up of count one other = absurd other
of_parts_monotone op t (Some r) (Some s) (Some u) (Some v) is first wide up of count one other =
    settled_monotone t (outcomes op t r s) (outcomes op t u v) is
    (outcomes_monotone op t r s u v is (first r refl) (wide u refl) (up s refl) (of s v refl refl) (count v refl) one other)

pub bin_monotone : (op : Op) → BinIsMonotone op
bin_monotone op t a b c d is one other =
    of_parts_monotone op t (part t a) (second op t b) (part t c) (second op t d) is
    (part_of t a) (part_of t c) (second_up op t b)
    (λ s v s_is v_is kind. (second_of op t b s s_is kind, second_of op t d v v_is kind)) (second_low op t d)
    (cut_part (least t) (greatest t) a c one) (second_part op t b d other)

un_outcomes_part : (op : UnOp) (t : IntType) (r u : Range) → IsPart (Some r) (Some u) → IsPart (Some (un_outcomes op t r)) (Some (un_outcomes op t u))
un_outcomes_part un.Neg t r u one = (omega (arith, ints), omega (arith, ints))
un_outcomes_part un.Not t r u one = (omega (arith, ints), omega (arith, ints))

of_part_monotone : (op : UnOp) (t : IntType) (o p : Option Range) → IsIntType t → IsPart o p → AreWithin (of_part op t o) (of_part op t p)
of_part_monotone op t None p is one = tt
of_part_monotone op t (Some r) None is one = absurd one
of_part_monotone op t (Some r) (Some u) is one = settled_monotone t (Some (un_outcomes op t r)) (Some (un_outcomes op t u)) is (un_outcomes_part op t r u one)

pub un_monotone : (op : UnOp) → UnIsMonotone op
un_monotone op t a c is one = of_part_monotone op t (part t a) (part t c) is (cut_part (least t) (greatest t) a c one)
