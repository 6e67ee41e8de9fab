-- Where the obligations of an operator or a conversion hold it has a result.
use Rattle.std.specs.Prelude.{ℕ, zero, suc, ◌-◌, ◌*◌, ◌/◌, ◌^◌, ◌≡◌, ◌≢◌, ◌≤◌, ◌<◌, ◌⊎◌, ◌&&◌, true, false, not, cond, int_le, int_lt, Bool, ℤ, pos, negsuc, neg_ℤ, ◌+ℤ◌, ◌-ℤ◌, ◌*ℤ◌, ◌≤ℤ◌, ◌<ℤ◌, int_div, int_rem, List, [], ◌∷◌, Some, None}
use Rattle.std.specs.Int.{int_shr, int_bit_and, int_bit_or, int_bit_xor, w128}
use Rattle.std.specs.Int.RustNames.{unsigned_abs}
use Rattle.std.specs.Ordering.{int_eq}
use Rattle.std.proofs.Common.{refl, sym, ap, ◌∙◌, subst, arith, inl, inr}
use Rattle.std.proofs.Math.Nat.{div-lt_self, div-le_self, mod-le}
use Rattle.std.proofs.lemmas.Int.{ints}
use Rattle.std.proofs.lemmas.Nat.{pow_pos}
use Rattle.std.proofs.lemmas.Bool.{and_parts}
use Rattle.std.proofs.lemmas.Bool.Decides.{Decides-int_eq}
use Rattle.po_lists.proofs.Booleans.{false_unless_true}
use Rattle.po_base.specs.declared.operators.Op.{Op}
use Rattle.po_base.specs.declared.operators.Op.TheVariants as op
use Rattle.po_base.specs.declared.operators.UnOp.{UnOp}
use Rattle.po_base.specs.declared.operators.UnOp.TheVariants as un
use Rattle.po_base.specs.declared.operand.Opnd.{Opnd}
use Rattle.po_arith.specs.declared.int_type.IntType.{IntType}
use Rattle.po_arith.specs.Types.{IsWidth, IsIntType, IsOfType, least, greatest}
use Rattle.po_arith.specs.Ranges.{shifted_up, shifted_down}
use Rattle.po_arith.proofs.BitsKept.{and_of_type, or_of_type, xor_of_type}
use Rattle.po_arith.proofs.Comparing.{le_since}
use Rattle.po_arith.proofs.Powers.{pow_up}
use Rattle.po_arith.proofs.Sizes.{sign_of, least_unsigned}
use Rattle.po_interval.specs.Ranges.{complement_from}
use Rattle.po_interval.specs.Results.{is_between, given, modulo, conv, truth, is_count, can_divide, conv_all, binary, unary}
use Rattle.po_ir.specs.Types.{is_shift}
use Rattle.po_pred.specs.declared.pred.Over.{Over}
use Rattle.po_pred.specs.declared.pred.Over.TheVariants as over
use Rattle.po_pred.specs.declared.pred.Pred.TheVariants.{Nonzero, NoOver}
use Rattle.po_gen.specs.Asks.{place, overflow, count, operator, sign}
use Rattle.po_memory.specs.declared.block.Block.{Block}
use Rattle.po_memory.specs.declared.frame.Frame.{Frame}
use Rattle.po_memory.specs.Blocks.{half, IsOfWidth, IsShifted, StaysIn}
use Rattle.po_memory.specs.Holding.{Holds}
use Rattle.po_memory.specs.Values.{EachNumber}
use Rattle.po_meaning.specs.Operands.{Is}
use Rattle.po_meaning.specs.Belongs.{HasSome}
use Rattle.po_meaning.proofs.Held.{Each, on_number}
use Rattle.po_meaning.proofs.Places.{same_or_not}

-- ---- numbers of signed types

both : (a b : Bool) → a ≡ true → b ≡ true → (a && b) ≡ true
both a b one two = ap (λ (c : Bool). c && b) one ∙ two

pub conv_some : (t : IntType) (x : ℤ) → (t.signed ≡ true → IsOfType t x) → HasSome (conv t x)
conv_some t x fits = by t.signed refl
  where
    by : (b : Bool) → t.signed ≡ b → HasSome (cond b (given (is_between (least t) (greatest t) x) x) (Some (modulo t x)))
    by true signed = let ends = fits signed in (x, ap (λ (c : Bool). given c x) (both (int_le (least t) x) (int_le x (greatest t)) (le_since (least t) x ends.0) (le_since x (greatest t) ends.1)))
    by false signed = (modulo t x, refl)

below_half : (h : ℕ) (x : ℤ) → 0 < h → x <ℤ pos h → x ≤ℤ pos (h - 1)
below_half h x some less = omega (arith, ints, some, less)

abbrev FitsHalf : ℕ → ℤ → Type 0
FitsHalf h x = (neg_ℤ (pos h) ≤ℤ x) × (x ≤ℤ pos (h - 1))

to_type : (t : IntType) (x : ℤ) → t.signed ≡ true → FitsHalf (half t.bits) x → IsOfType t x
to_type t x signed fits =
    subst (λ (b : Bool). (cond b (neg_ℤ (pos (2 ^ (t.bits - 1)))) (pos 0) ≤ℤ x) × (x ≤ℤ cond b (pos (2 ^ (t.bits - 1) - 1)) (pos (2 ^ t.bits - 1)))) (sym signed) fits

of_type : (t : IntType) (x : ℤ) → t.signed ≡ true → IsOfType t x → FitsHalf (half t.bits) x
of_type t x signed is = subst (λ (b : Bool). (cond b (neg_ℤ (pos (2 ^ (t.bits - 1)))) (pos 0) ≤ℤ x) × (x ≤ℤ cond b (pos (2 ^ (t.bits - 1) - 1)) (pos (2 ^ t.bits - 1)))) signed is

width_fits : (t : IntType) (x : ℤ) → t.signed ≡ true → IsOfWidth t.bits x → IsOfType t x
width_fits t x signed fits = to_type t x signed (fits.0, below_half (half t.bits) x (pow_pos (t.bits - 1)) fits.1)

least_is : (t : IntType) → t.signed ≡ true → least t ≡ neg_ℤ (pos (half t.bits))
least_is t signed = ap (λ (b : Bool). cond b (neg_ℤ (pos (2 ^ (t.bits - 1)))) (pos 0)) signed

wide : (t : IntType) → IsIntType t → t.signed ≡ true → 2 ≤ t.bits
wide t is signed = by is.width
  where
    by : IsWidth t.bits → 2 ≤ t.bits
    by (inl one) = absurd (let clash : true ≡ false = sym signed ∙ is.bool_unsigned one in cc)
    by (inr (inl same)) = omega (arith, same)
    by (inr (inr (inl same))) = omega (arith, same)
    by (inr (inr (inr (inl same)))) = omega (arith, same)
    by (inr (inr (inr (inr same)))) = omega (arith, same)

truth_fits : (h : ℕ) (b : Bool) → 2 ≤ h → FitsHalf h (truth b)
truth_fits h true some = (omega (arith, ints, some), omega (arith, ints, some))
truth_fits h false some = (omega (arith, ints, some), omega (arith, ints, some))

truth_of_type : (t : IntType) (b : Bool) → IsIntType t → t.signed ≡ true → IsOfType t (truth b)
truth_of_type t b is signed = let bits = wide t is signed in to_type t (truth b) signed (truth_fits (half t.bits) b (pow_up 1 (t.bits - 1) (omega (arith, bits))))

-- ---- quotients, remainders and shifts

quotient_fits : (h : ℕ) (v w : ℤ) → FitsHalf h v → ((v ≡ neg_ℤ (pos h)) × (w ≡ negsuc 0) → ⊥) → 0 < h → FitsHalf h (int_div v w)
quotient_fits h (pos a) (pos b) fits other some = let less = div-le_self a b in let high = fits.1 in (omega (arith, ints), omega (arith, ints))
quotient_fits h (pos a) (negsuc b) fits other some = let less = div-le_self a (suc b) in let high = fits.1 in (omega (arith, ints), omega (arith, ints))
quotient_fits h (negsuc a) (pos b) fits other some = let less = div-le_self (suc a) b in let low = fits.0 in (omega (arith, ints), omega (arith, ints))
quotient_fits h (negsuc a) (negsuc zero) fits other some = by (same_or_not (suc a) h)
  where
    by : (suc a ≡ h) ⊎ (suc a ≢ h) → FitsHalf h (int_div (negsuc a) (negsuc zero))
    by (inl same) = absurd (other (ap (λ (n : ℕ). neg_ℤ (pos n)) same, refl))
    by (inr differ) = let less = div-le_self (suc a) 1 in let low = fits.0 in (omega (arith, ints), omega (arith, ints))
quotient_fits h (negsuc a) (negsuc (suc b)) fits other some =
    let positive : 0 < suc a = omega arith in
    let more : 1 < suc (suc b) = omega arith in
    let less : suc a / suc (suc b) < suc a = div-lt_self positive more in
    let low = fits.0 in
    (omega (arith, ints), omega (arith, ints))

remainder_fits : (h : ℕ) (v w : ℤ) → FitsHalf h v → 0 < h → FitsHalf h (int_rem v w)
remainder_fits h (pos a) w fits some = let less = mod-le a (unsigned_abs w) in let high = fits.1 in (omega (arith, ints), omega (arith, ints))
remainder_fits h (negsuc a) w fits some = let less = mod-le (suc a) (unsigned_abs w) in let low = fits.0 in (omega (arith, ints), omega (arith, ints))

down_fits : (h : ℕ) (v : ℤ) (n : ℕ) → FitsHalf h v → FitsHalf h (int_shr v n)
down_fits h (pos a) n fits = let less = div-le_self a (2 ^ n) in let high = fits.1 in (omega (arith, ints), omega (arith, ints))
down_fits h (negsuc a) n fits = let less = div-le_self a (2 ^ n) in let low = fits.0 in (omega (arith, ints), omega (arith, ints))

up_is : (a b : ℕ) → shifted_up (pos a) (pos b) ≡ pos (a * 2 ^ b)
up_is a b = refl

up_fits : (t : IntType) (v w : ℤ) → t.signed ≡ true → IsShifted t.bits v w → IsOfType t (shifted_up v w)
up_fits t v w signed (a, b, one, two, fits) =
    let same : shifted_up v w ≡ pos (a * 2 ^ b) = ap (λ (x : ℤ). shifted_up x w) one ∙ (ap (shifted_up (pos a)) two ∙ up_is a b) in
    subst (IsOfType t) (sym same) (width_fits t (pos (a * 2 ^ b)) signed fits)

count_is : (t : IntType) (n : ℤ) → 0 < t.bits → pos 0 ≤ℤ n → n ≤ℤ (pos t.bits -ℤ pos 1) → is_count t n ≡ true
count_is t n some low high =
    let last : n ≤ℤ pos (t.bits - 1) = omega (arith, ints, some, high) in
    both (int_le (pos 0) n) (int_le n (pos (t.bits - 1))) (le_since (pos 0) n low) (le_since n (pos (t.bits - 1)) last)

-- ---- operators

not_false : (b : Bool) → b ≡ false → not b ≡ true
not_false b is = ap not is

module _ (fr : Frame) (m : List Block) (t : IntType) (is : IsIntType t) (a : Opnd) (v : ℤ) (has : Is fr a v) (lies : IsOfType t v) where
  module _ (b : Opnd) (w : ℤ) (had : Is fr b w) where
    no_over : (o : Over) → t.signed ≡ true → Each (Holds fr m) (overflow o t (place a) (place b)) → StaysIn o t.bits v w
    no_over o signed h =
        let asked : Each (Holds fr m) (NoOver o t.bits (place a) (Some (place b)) ∷ []) = subst (λ (c : Bool). Each (Holds fr m) (cond c (NoOver o t.bits (place a) (Some (place b)) ∷ []) [])) signed h in
        on_number fr b w (λ y. StaysIn o t.bits v y) had (on_number fr a v (λ x. EachNumber fr (place b) (λ y. StaysIn o t.bits x y)) has asked.0)

    counted : Holds fr m (count t (place b)) → is_count t w ≡ true
    counted h =
        let range = on_number fr b w (λ z. (pos 0 ≤ℤ z) × (z ≤ℤ (pos t.bits -ℤ pos 1))) had h in
        count_is t w (some_bits is.width) range.0 range.1
      where
        some_bits : IsWidth t.bits → 0 < t.bits
        some_bits (inl same) = omega (arith, same)
        some_bits (inr (inl same)) = omega (arith, same)
        some_bits (inr (inr (inl same))) = omega (arith, same)
        some_bits (inr (inr (inr (inl same)))) = omega (arith, same)
        some_bits (inr (inr (inr (inr same)))) = omega (arith, same)

    divides : (o : Over) → (StaysIn o t.bits v w → (v ≡ neg_ℤ (pos (half t.bits))) × (w ≡ negsuc 0) → ⊥) → Holds fr m (Nonzero (place b)) → Each (Holds fr m) (overflow o t (place a) (place b)) →
        (can_divide t v w ≡ true) × (t.signed ≡ true → (v ≡ neg_ℤ (pos (half t.bits))) × (w ≡ negsuc 0) → ⊥)
    divides o means nonzero h = (
      both (not (int_eq w (pos 0))) (not (t.signed && int_eq v (least t) && int_eq w (neg_ℤ (pos 1))))
          (not_false (int_eq w (pos 0)) (false_unless_true (int_eq w (pos 0)) (λ same. on_number fr b w (λ z. z ≢ pos 0) had nonzero ((Decides-int_eq w (pos 0)).0 same))))
          (not_false (t.signed && int_eq v (least t) && int_eq w (neg_ℤ (pos 1))) (false_unless_true (t.signed && int_eq v (least t) && int_eq w (neg_ℤ (pos 1))) clash)),
      never,
    )
      where
        never : t.signed ≡ true → (v ≡ neg_ℤ (pos (half t.bits))) × (w ≡ negsuc 0) → ⊥
        never signed = means (no_over o signed h)

        clash : (t.signed && int_eq v (least t) && int_eq w (neg_ℤ (pos 1))) ≡ true → ⊥
        clash all =
            let parts = and_parts (t.signed && int_eq v (least t)) (int_eq w (neg_ℤ (pos 1))) all in
            let first = and_parts t.signed (int_eq v (least t)) parts.0 in
            never first.0 ((Decides-int_eq v (least t)).0 first.1 ∙ least_is t first.0, (Decides-int_eq w (neg_ℤ (pos 1))).0 parts.1)

    some_half : 0 < half t.bits
    some_half = pow_pos (t.bits - 1)

    given_some : (allowed : Bool) (x : ℤ) → allowed ≡ true → (t.signed ≡ true → IsOfType t x) → HasSome (conv_all t (given allowed x))
    given_some allowed x yes_it_is fits = let found = conv_some t x fits in (found.0, ap (λ (c : Bool). conv_all t (given c x)) yes_it_is ∙ found.1)

    not_negative : t.signed ≡ false → pos 0 ≤ℤ v
    not_negative unsigned = subst (λ (z : ℤ). z ≤ℤ v) (least_unsigned t unsigned) lies.0

    shift_from : Each (Holds fr m) (overflow over.Shl t (place a) (place b)) → pos 0 ≤ℤ v
    shift_from h = by (sign_of t)
      where
        by : (t.signed ≡ true) ⊎ (t.signed ≡ false) → pos 0 ≤ℤ v
        by (inl signed) = let shifted = no_over over.Shl signed h in subst (λ (z : ℤ). pos 0 ≤ℤ z) (sym shifted.2) (omega (arith, ints))
        by (inr unsigned) = not_negative unsigned

    pub binary_some : (o : Op) → (is_shift o ≡ false → IsOfType t w) → Each (Holds fr m) (operator o t (place a) (place b)) → HasSome (binary o t v w)
    binary_some op.Add second h = conv_some t (v +ℤ w) (λ signed. width_fits t (v +ℤ w) signed (no_over over.Add signed h))
    binary_some op.Sub second h = conv_some t (v -ℤ w) (λ signed. width_fits t (v -ℤ w) signed (no_over over.Sub signed h))
    binary_some op.Mul second h = conv_some t (v *ℤ w) (λ signed. width_fits t (v *ℤ w) signed (no_over over.Mul signed h))
    binary_some op.Div second h = let can = divides over.Div (λ stays. stays) h.0 h.1 in given_some (can_divide t v w) (int_div v w) can.0 (λ signed. to_type t (int_div v w) signed (quotient_fits (half t.bits) v w (of_type t v signed lies) (can.1 signed) some_half))
    binary_some op.Rem second h = let can = divides over.Rem (λ stays. stays) h.0 h.1 in given_some (can_divide t v w) (int_rem v w) can.0 (λ signed. to_type t (int_rem v w) signed (remainder_fits (half t.bits) v w (of_type t v signed lies) some_half))
    binary_some op.And second h = conv_some t (int_bit_and w128 v w) (λ signed. and_of_type t v w is lies (second refl))
    binary_some op.Or second h = conv_some t (int_bit_or w128 v w) (λ signed. or_of_type t v w is lies (second refl))
    binary_some op.Xor second h = conv_some t (int_bit_xor w128 v w) (λ signed. xor_of_type t v w is lies (second refl))
    binary_some op.Shl second h =
        given_some (is_count t w && int_le (pos 0) v) (shifted_up v w) (both (is_count t w) (int_le (pos 0) v) (counted h.0) (le_since (pos 0) v (shift_from h.1))) (λ signed. up_fits t v w signed (no_over over.Shl signed h.1))
    binary_some op.Shr second h = given_some (is_count t w) (shifted_down v w) (counted h.0) (λ signed. to_type t (shifted_down v w) signed (down_fits (half t.bits) v (unsigned_abs w) (of_type t v signed lies)))
    binary_some op.Eq second h = conv_some t (truth (int_eq v w)) (truth_of_type t (int_eq v w) is)
    binary_some op.Ne second h = conv_some t (truth (not (int_eq v w))) (truth_of_type t (not (int_eq v w)) is)
    binary_some op.Lt second h = conv_some t (truth (int_lt v w)) (truth_of_type t (int_lt v w) is)
    binary_some op.Le second h = conv_some t (truth (int_le v w)) (truth_of_type t (int_le v w) is)
    binary_some op.Gt second h = conv_some t (truth (int_lt w v)) (truth_of_type t (int_lt w v) is)
    binary_some op.Ge second h = conv_some t (truth (int_le w v)) (truth_of_type t (int_le w v) is)

  complement_fits : (h : ℕ) (x : ℤ) → FitsHalf h x → 0 < h → FitsHalf h (neg_ℤ (pos 1) -ℤ x)
  complement_fits h x fits some = let low = fits.0 in let high = fits.1 in (omega (arith, ints), omega (arith, ints))

  complement_is : t.signed ≡ true → complement_from t ≡ neg_ℤ (pos 1)
  complement_is signed = ap (λ (b : Bool). cond b (neg_ℤ (pos 1)) (greatest t)) signed

  pub unary_some : (o : UnOp) → Each (Holds fr m) (sign o t (place a)) → HasSome (unary o t v)
  unary_some un.Neg h = conv_some t (neg_ℤ v) (λ signed.
      let asked : Each (Holds fr m) (NoOver over.Neg t.bits (place a) None ∷ []) = subst (λ (c : Bool). Each (Holds fr m) (cond c (NoOver over.Neg t.bits (place a) None ∷ []) [])) signed h in
      width_fits t (neg_ℤ v) signed (on_number fr a v (λ x. IsOfWidth t.bits (neg_ℤ x)) has asked.0))
  unary_some un.Not h = conv_some t (complement_from t -ℤ v) (λ signed.
      subst (λ (z : ℤ). IsOfType t (z -ℤ v)) (sym (complement_is signed)) (to_type t (neg_ℤ (pos 1) -ℤ v) signed (complement_fits (half t.bits) v (of_type t v signed lies) (pow_pos (t.bits - 1)))))
