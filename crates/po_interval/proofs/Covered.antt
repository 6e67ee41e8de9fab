-- Every result lies in the interval of results.
use Rattle.std.proofs.Common.{◌≡◌, Bool, true, false, cond, arith, refl, subst}
use Rattle.std.specs.Prelude.{◌&&◌, ℤ, pos, ◌≤ℤ◌, ◌≢◌, ◌-◌, Option, Some, None, int_le}
use Rattle.std.specs.Ordering.{int_eq}
use Rattle.std.proofs.lemmas.Int.{ints, clamps}
use Rattle.std.proofs.lemmas.Bool.{and_parts, not-true, both_ways}
use Rattle.std.proofs.lemmas.Bool.Decides.{Decides-int_eq}
use Rattle.po_base.specs.declared.operators.Op.{Op}
use Rattle.po_base.specs.declared.operators.Op.TheVariants as op
use Rattle.po_base.specs.declared.operators.UnOp.{UnOp}
use Rattle.po_base.specs.declared.operators.UnOp.TheVariants as un
use Rattle.po_arith.specs.declared.int_type.IntType.{IntType}
use Rattle.po_arith.specs.declared.interval.Interval.{Interval}
use Rattle.po_arith.specs.declared.range.Range.{Range}
use Rattle.po_arith.specs.Types.{IsIntType, IsOfType, least, greatest}
use Rattle.po_arith.specs.Hull.{IsIn}
use Rattle.po_arith.proofs.Comparing.{le_tells}
use Rattle.po_arith.proofs.RangesCover.{results_are_covered}
use Rattle.po_arith.specs.Ranges.{range, Spans, sums, differences, products, quotients, remainders, shifts_up, shifts_down}
use Rattle.po_interval.specs.Ranges.{Holds, low_cut, high_cut, cut, part, counts, conjunctions, disjunctions, outcomes, takes_count, second, of_parts, un_outcomes, of_part}
use Rattle.po_interval.specs.Results.{given, conv, conv_all, exact, truth, is_count, can_divide, un_exact, BinCovers, UnCovers}
use Rattle.po_interval.proofs.Covers.{some_same, given_some, cut_spans, settled_covers}
use Rattle.po_interval.proofs.Bitwise.{conjunctions_cover}
use Rattle.po_interval.proofs.Bitwise.{or_cover, xor_cover}
use Rattle.po_arith.proofs.RangesWiden.{some_range_is}

pub conv_all_some : (t : IntType) (o : Option ℤ) (x : ℤ) → conv_all t o ≡ Some x → (y : ℤ) × (o ≡ Some y) × (conv t y ≡ Some x)
conv_all_some t (Some y) x same = (y, refl, same)
conv_all_some t None x same = absurd (cc)

along : (o : Option Range) (v y : ℤ) → Some v ≡ Some y → Spans o v → Spans o y
along o v y same v_in = subst (λ (z : ℤ). Spans o z) (some_same v y same) v_in

given_along : (o : Option Range) (b : Bool) (v y : ℤ) → given b v ≡ Some y → (b ≡ true → Spans o v) → Spans o y
given_along o b v y same v_in = let is = given_some b v y same in subst (λ (z : ℤ). Spans o z) is.1 (v_in is.0)

not_zero : (t : IntType) (v w : ℤ) → can_divide t v w ≡ true → w ≢ pos 0
not_zero t v w test none = both_ways (int_eq w (pos 0)) (not-true _ (and_parts _ _ test).0) ((Decides-int_eq w (pos 0)).1 none)

truth_in : (b : Bool) → Spans (Some (range (pos 0) (pos 1))) (truth b)
truth_in true = (omega (arith, ints), omega (arith, ints))
truth_in false = (omega (arith, ints), omega (arith, ints))

abbrev OutcomesCover : Op → Type 0
OutcomesCover op = (t : IntType) (r s : Range) (v w y : ℤ) → IsIntType t → IsOfType t v → (takes_count op ≡ false → IsOfType t w) → (takes_count op ≡ true → pos 0 ≤ℤ s.lo) → r.hi ≤ℤ greatest t → (takes_count op ≡ false → s.hi ≤ℤ greatest t) → Spans (Some r) v → Spans (Some s) w → exact op t v w ≡ Some y → Spans (outcomes op t r s) y

outcomes_cover : (op : Op) → OutcomesCover op
outcomes_cover op.Add t r s v w y is v_of w_of up r_high s_high v_in w_in same = along (Some (sums r s)) _ y same (results_are_covered.sums r s v w v_in w_in)
outcomes_cover op.Sub t r s v w y is v_of w_of up r_high s_high v_in w_in same = along (Some (differences r s)) _ y same (results_are_covered.differences r s v w v_in w_in)
outcomes_cover op.Mul t r s v w y is v_of w_of up r_high s_high v_in w_in same = along (Some (products r s)) _ y same (results_are_covered.products r s v w v_in w_in)
outcomes_cover op.Div t r s v w y is v_of w_of up r_high s_high v_in w_in same = given_along (quotients r s) (can_divide t v w) _ y same (λ test. results_are_covered.quotients r s v w v_in w_in (not_zero t v w test))
outcomes_cover op.Rem t r s v w y is v_of w_of up r_high s_high v_in w_in same = given_along (remainders r s) (can_divide t v w) _ y same (λ test. results_are_covered.remainders r s v w v_in w_in (not_zero t v w test))
outcomes_cover op.And t r s v w y is v_of w_of up r_high s_high v_in w_in same = along (Some (conjunctions t r s)) _ y same (conjunctions_cover t r s v w is v_of (w_of refl) v_in w_in)
outcomes_cover op.Or t r s v w y is v_of w_of up r_high s_high v_in w_in same = along (Some (disjunctions t r s)) _ y same (or_cover t r s v w is v_of (w_of refl) r_high (s_high refl) v_in w_in)
outcomes_cover op.Xor t r s v w y is v_of w_of up r_high s_high v_in w_in same = along (Some (disjunctions t r s)) _ y same (xor_cover t r s v w is v_of (w_of refl) r_high (s_high refl) v_in w_in)
outcomes_cover op.Shl t r s v w y is v_of w_of up r_high s_high v_in w_in same = given_along (shifts_up r s) (is_count t w && int_le (pos 0) v) _ y same (λ test. results_are_covered.shifts_up r s v w v_in w_in (up refl) (le_tells _ _ (and_parts _ _ test).1))
outcomes_cover op.Shr t r s v w y is v_of w_of up r_high s_high v_in w_in same = given_along (Some (shifts_down r s)) (is_count t w) _ y same (λ test. results_are_covered.shifts_down r s v w v_in w_in (up refl))
outcomes_cover op.Eq t r s v w y is v_of w_of up r_high s_high v_in w_in same = along (Some (range (pos 0) (pos 1))) _ y same (truth_in _)
outcomes_cover op.Ne t r s v w y is v_of w_of up r_high s_high v_in w_in same = along (Some (range (pos 0) (pos 1))) _ y same (truth_in _)
outcomes_cover op.Lt t r s v w y is v_of w_of up r_high s_high v_in w_in same = along (Some (range (pos 0) (pos 1))) _ y same (truth_in _)
outcomes_cover op.Le t r s v w y is v_of w_of up r_high s_high v_in w_in same = along (Some (range (pos 0) (pos 1))) _ y same (truth_in _)
outcomes_cover op.Gt t r s v w y is v_of w_of up r_high s_high v_in w_in same = along (Some (range (pos 0) (pos 1))) _ y same (truth_in _)
outcomes_cover op.Ge t r s v w y is v_of w_of up r_high s_high v_in w_in same = along (Some (range (pos 0) (pos 1))) _ y same (truth_in _)

-- the second operand
count_in : (t : IntType) (b : Interval) (w : ℤ) → is_count t w ≡ true → IsIn b w → Spans (counts t b) w
count_in t b w test w_in = let ends = and_parts _ _ test in cut_spans (pos 0) (pos (t.bits - 1)) b w (le_tells _ _ ends.0) (le_tells _ _ ends.1) w_in

of_type_in : (t : IntType) (b : Interval) (w : ℤ) → IsOfType t w → IsIn b w → Spans (part t b) w
of_type_in t b w of w_in = cut_spans (least t) (greatest t) b w of.0 of.1 w_in

second_in : (op : Op) (t : IntType) (b : Interval) (v w y : ℤ) → (takes_count op ≡ false → IsOfType t w) → IsIn b w → exact op t v w ≡ Some y → Spans (second op t b) w
second_in op.Shl t b v w y w_of w_in same = count_in t b w (and_parts _ _ (given_some (is_count t w && int_le (pos 0) v) _ y same).0).0 w_in
second_in op.Shr t b v w y w_of w_in same = count_in t b w (given_some (is_count t w) _ y same).0 w_in
second_in op.Add t b v w y w_of w_in same = of_type_in t b w (w_of refl) w_in
second_in op.Sub t b v w y w_of w_in same = of_type_in t b w (w_of refl) w_in
second_in op.Mul t b v w y w_of w_in same = of_type_in t b w (w_of refl) w_in
second_in op.Div t b v w y w_of w_in same = of_type_in t b w (w_of refl) w_in
second_in op.Rem t b v w y w_of w_in same = of_type_in t b w (w_of refl) w_in
second_in op.And t b v w y w_of w_in same = of_type_in t b w (w_of refl) w_in
second_in op.Or t b v w y w_of w_in same = of_type_in t b w (w_of refl) w_in
second_in op.Xor t b v w y w_of w_in same = of_type_in t b w (w_of refl) w_in
second_in op.Eq t b v w y w_of w_in same = of_type_in t b w (w_of refl) w_in
second_in op.Ne t b v w y w_of w_in same = of_type_in t b w (w_of refl) w_in
second_in op.Lt t b v w y w_of w_in same = of_type_in t b w (w_of refl) w_in
second_in op.Le t b v w y w_of w_in same = of_type_in t b w (w_of refl) w_in
second_in op.Gt t b v w y w_of w_in same = of_type_in t b w (w_of refl) w_in
second_in op.Ge t b v w y w_of w_in same = of_type_in t b w (w_of refl) w_in

low_cut_low : (low : ℤ) (end : Option ℤ) → low ≤ℤ low_cut low end
low_cut_low low None = omega (arith, ints)
low_cut_low low (Some v) = omega (arith, ints, clamps)

pub cut_low : (low high : ℤ) (a : Interval) (s : Range) → cut low high a ≡ Some s → low ≤ℤ s.lo
cut_low low high a s same = let is = (some_range_is (low_cut low a.lo) (high_cut high a.hi) s same).0 in let above = low_cut_low low a.lo in omega (arith, ints)

high_cut_high : (high : ℤ) (end : Option ℤ) → high_cut high end ≤ℤ high
high_cut_high high None = omega (arith, ints)
high_cut_high high (Some v) = omega (arith, ints, clamps)

pub cut_high : (low high : ℤ) (a : Interval) (s : Range) → cut low high a ≡ Some s → s.hi ≤ℤ high
cut_high low high a s same = let is = (some_range_is (low_cut low a.lo) (high_cut high a.hi) s same).1 in let below = high_cut_high high a.hi in omega (arith, ints)

second_high : (op : Op) (t : IntType) (b : Interval) (s : Range) → second op t b ≡ Some s → takes_count op ≡ false → s.hi ≤ℤ greatest t
second_high op t b s same kind = cut_high (least t) (greatest t) b s (subst (λ (k : Bool). cond k (counts t b) (part t b) ≡ Some s) kind same)

counts_low : (op : Op) (t : IntType) (b : Interval) (s : Range) → second op t b ≡ Some s → takes_count op ≡ true → pos 0 ≤ℤ s.lo
counts_low op t b s same kind = cut_low (pos 0) (pos (t.bits - 1)) b s (subst (λ (k : Bool). cond k (counts t b) (part t b) ≡ Some s) kind same)

of_parts_cover : (op : Op) (t : IntType) (o p : Option Range) (v w x : ℤ) → IsIntType t → Spans o v → Spans p w → ((r s : Range) → o ≡ Some r → p ≡ Some s → Spans (Some r) v → Spans (Some s) w → (y : ℤ) × Spans (outcomes op t r s) y × (conv t y ≡ Some x)) → Holds (of_parts op t o p) x
of_parts_cover op t None p v w x is v_in w_in then = absurd v_in
of_parts_cover op t (Some r) None v w x is v_in w_in then = absurd w_in
of_parts_cover op t (Some r) (Some s) v w x is v_in w_in then = let found = then r s refl refl v_in w_in in settled_covers t (outcomes op t r s) found.0 x is found.1 found.2

pub bin_covers : (op : Op) → BinCovers op
bin_covers op t a b v w x is v_of w_of v_in w_in same =
    let found = conv_all_some t (exact op t v w) x same in
    of_parts_cover op t (part t a) (second op t b) v w x is (of_type_in t a v v_of v_in) (second_in op t b v w found.0 w_of w_in found.1)
    (λ r s r_is s_is r_has s_has. (found.0, outcomes_cover op t r s v w found.0 is v_of w_of (counts_low op t b s s_is) (cut_high (least t) (greatest t) a r r_is) (second_high op t b s s_is) r_has s_has found.1, found.2))

un_outcomes_cover : (op : UnOp) (t : IntType) (r : Range) (v : ℤ) → Spans (Some r) v → Spans (Some (un_outcomes op t r)) (un_exact op t v)
un_outcomes_cover un.Neg t r v v_in = (omega (arith, ints), omega (arith, ints))
un_outcomes_cover un.Not t r v v_in = (omega (arith, ints), omega (arith, ints))

of_part_cover : (op : UnOp) (t : IntType) (o : Option Range) (v x : ℤ) → IsIntType t → Spans o v → conv t (un_exact op t v) ≡ Some x → Holds (of_part op t o) x
of_part_cover op t None v x is v_in same = absurd v_in
of_part_cover op t (Some r) v x is v_in same = settled_covers t (Some (un_outcomes op t r)) (un_exact op t v) x is (un_outcomes_cover op t r v v_in) same

pub un_covers : (op : UnOp) → UnCovers op
un_covers op t a v x is v_of v_in same = of_part_cover op t (part t a) v x is (of_type_in t a v v_of v_in) same
