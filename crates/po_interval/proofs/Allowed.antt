-- Members of results allow every result, and members of wider operands allow more.
use Rattle.std.proofs.Common.{◌≡◌, ◌≤◌, ◌<◌, ◌-◌, ◌^◌, ℕ, Bool, true, false, cond, List, [], ◌∷◌, refl, sym, ◌∙◌, subst, inl, inr, ◌⊎◌, arith}
use Rattle.std.specs.Prelude.{ℤ, pos, neg_ℤ, ◌≤ℤ◌, ◌<ℤ◌, filter_map, Some, IfSome}
use Rattle.std.proofs.lemmas.Int.{ints}
use Rattle.po_arith.specs.declared.int_type.IntType.{IntType}
use Rattle.po_arith.specs.Types.{IsIntType, IsOfType, IsWidth, least, greatest}
use Rattle.po_base.specs.declared.operators.Op.{Op}
use Rattle.po_base.specs.declared.operators.Op.TheVariants as op
use Rattle.po_base.specs.declared.operators.UnOp.{UnOp}
use Rattle.po_arith.proofs.Comparing.{le_tells}
use Rattle.po_arith.proofs.Powers.{pow_up}
use Rattle.po_arith.proofs.Sizes.{small, least_unsigned, greatest_unsigned}
use Rattle.po_interval.specs.Sets.{IsAmong}
use Rattle.po_interval.specs.Members.{Allows, IsProper, AreOfType, AreWithin}
use Rattle.po_interval.specs.Results.{given, modulo, conv, truth, exact, binary, un_exact, unary, is_between}
use Rattle.po_interval.specs.Gathering.{pairs, is_comparison, of_any, bin_members, un_members, conv_members, IsResult, BinMembersCover, UnMembersCover, ConvMembersCover, BinMembersAreMonotone, UnMembersAreMonotone, ConvMembersAreMonotone, ResultsAreOfType}
use Rattle.po_interval.specs.declared.members.Members.{Members}
use Rattle.po_interval.specs.declared.members.Members.TheVariants.{Few, Any}
use Rattle.po_interval.proofs.Covers.{some_same, given_some, modulo_of_type, modulo_same}
use Rattle.po_interval.proofs.Covered.{conv_all_some}
use Rattle.std.proofs.lemmas.Bool.{and_parts}
use Rattle.po_interval.proofs.Joins.{since}
use Rattle.po_interval.proofs.Gathered.{to_filter, from_filter, to_pairs, from_pairs, gathered_allows, gathered_proper, gathered_within, gathered_of_type}

-- 0 and 1 are numbers of every type
wide : (bits : ℕ) → 0 < bits → 2 ≤ 2 ^ bits
wide bits some = let up = pow_up 1 bits some in omega arith

past_one : (bits : ℕ) → IsWidth bits → (bits ≡ 1 → ⊥) → 2 ≤ bits
past_one bits (inl h) none = absurd (none h)
past_one bits (inr (inl h)) none = omega arith
past_one bits (inr (inr (inl h))) none = omega arith
past_one bits (inr (inr (inr (inl h)))) none = omega arith
past_one bits (inr (inr (inr (inr h)))) none = omega arith

both_of_type : (t : IntType) → IsIntType t → (least t ≤ℤ pos 0) × (pos 1 ≤ℤ greatest t)
both_of_type t is = by t.signed refl
  where
    unsigned : t.signed ≡ false → (least t ≤ℤ pos 0) × (pos 1 ≤ℤ greatest t)
    unsigned kind =
        let some = wide t.bits (small t is).some_bits in
        let first = least_unsigned t kind in
        let last = greatest_unsigned t kind in
        (omega (arith, ints), omega (arith, ints))

    signed : t.signed ≡ true → (least t ≤ℤ pos 0) × (pos 1 ≤ℤ greatest t)
    signed kind =
        let most = past_one t.bits is.width (λ one. absurd (let none = is.bool_unsigned one in cc)) in
        let some = wide (t.bits - 1) (omega arith) in
        let first : least t ≡ neg_ℤ (pos (2 ^ (t.bits - 1))) = rw kind refl in
        let last : greatest t ≡ pos (2 ^ (t.bits - 1) - 1) = rw kind refl in
        (omega (arith, ints), omega (arith, ints))

    by : (s : Bool) → t.signed ≡ s → (least t ≤ℤ pos 0) × (pos 1 ≤ℤ greatest t)
    by true kind = signed kind
    by false kind = unsigned kind

truth_of_type : (t : IntType) (b : Bool) → IsIntType t → IsOfType t (truth b)
truth_of_type t true is = let low = (both_of_type t is).0 in let high = (both_of_type t is).1 in (omega (arith, ints), high)
truth_of_type t false is = let low = (both_of_type t is).0 in let high = (both_of_type t is).1 in (low, omega (arith, ints))

-- a comparison gives what it is
conv_truth : (t : IntType) (b : Bool) (x : ℤ) → IsIntType t → conv t (truth b) ≡ Some x → truth b ≡ x
conv_truth t b x is same = by t.signed refl same
  where
    by : (s : Bool) → t.signed ≡ s → cond s (given (is_between (least t) (greatest t) (truth b)) (truth b)) (Some (modulo t (truth b))) ≡ Some x → truth b ≡ x
    by true kind found = (given_some (is_between (least t) (greatest t) (truth b)) (truth b) x found).1
    by false kind found = sym (modulo_same t (truth b) kind (truth_of_type t b is)) ∙ some_same (modulo t (truth b)) x found

truth_among : (b : Bool) (x : ℤ) → truth b ≡ x → IsAmong x (pos 0 ∷ pos 1 ∷ [])
truth_among true x same = inr (inl same)
truth_among false x same = inl same

compared : (t : IntType) (b : Bool) (x : ℤ) → IsIntType t → conv t (truth b) ≡ Some x → IsAmong x (pos 0 ∷ pos 1 ∷ [])
compared t b x is same = truth_among b x (conv_truth t b x is same)

of_any_allows : (op : Op) (t : IntType) (v w x : ℤ) → IsIntType t → binary op t v w ≡ Some x → Allows (of_any op) x
of_any_allows op.Eq t v w x is same = compared t _ x is same
of_any_allows op.Ne t v w x is same = compared t _ x is same
of_any_allows op.Lt t v w x is same = compared t _ x is same
of_any_allows op.Le t v w x is same = compared t _ x is same
of_any_allows op.Gt t v w x is same = compared t _ x is same
of_any_allows op.Ge t v w x is same = compared t _ x is same
of_any_allows op.Add t v w x is same = tt
of_any_allows op.Sub t v w x is same = tt
of_any_allows op.Mul t v w x is same = tt
of_any_allows op.Div t v w x is same = tt
of_any_allows op.Rem t v w x is same = tt
of_any_allows op.And t v w x is same = tt
of_any_allows op.Or t v w x is same = tt
of_any_allows op.Xor t v w x is same = tt
of_any_allows op.Shl t v w x is same = tt
of_any_allows op.Shr t v w x is same = tt

truths_proper : IsProper (Few (pos 0 ∷ pos 1 ∷ []))
truths_proper = (omega arith, omega arith, (low, (none, tt)))
  where
    low : (w : ℤ) → (pos 1 ≡ w) ⊎ ⊥ → pos 0 <ℤ w
    low w (inl same) = subst (λ (z : ℤ). pos 0 <ℤ z) same (omega (arith, ints))
    low w (inr none) = absurd none

    none : (w : ℤ) → ⊥ → pos 1 <ℤ w
    none w here = absurd here

of_any_proper : (op : Op) → IsProper (of_any op)
of_any_proper op = by (is_comparison op)
  where
    by : (b : Bool) → IsProper (cond b (Few (pos 0 ∷ pos 1 ∷ [])) Any)
    by true = truths_proper
    by false = tt

bin_proper : (op : Op) (t : IntType) (a b : Members) → IfSome (bin_members op t a b) IsProper
bin_proper op t (Few xs) (Few ys) = gathered_proper (pairs (binary op t) xs ys)
bin_proper op t (Few xs) Any = of_any_proper op
bin_proper op t Any b = of_any_proper op

pub bin_allows : (op : Op) → BinMembersCover op
bin_allows op t (Few xs) (Few ys) v w x is v_in w_in same = gathered_allows (pairs (binary op t) xs ys) x (to_pairs (binary op t) xs ys v w x v_in w_in same)
bin_allows op t (Few xs) Any v w x is v_in w_in same = of_any_allows op t v w x is same
bin_allows op t Any b v w x is v_in w_in same = of_any_allows op t v w x is same

pub un_allows : (op : UnOp) → UnMembersCover op
un_allows op t (Few xs) v x v_in same = gathered_allows (filter_map (unary op t) xs) x (to_filter (unary op t) xs v x v_in same)
un_allows op t Any v x v_in same = tt

pub conv_allows : ConvMembersCover
conv_allows t (Few xs) v x v_in same = gathered_allows (filter_map (conv t) xs) x (to_filter (conv t) xs v x v_in same)
conv_allows t Any v x v_in same = tt

-- any number isn't one of few
not_few : (zs : List ℤ) → AreWithin Any (Few zs) → ⊥
not_few zs part = absurd (let test = since Any (Few zs) part in cc)

pub bin_widens : (op : Op) → BinMembersAreMonotone op
bin_widens op t (Few xs) (Few ys) c d is one other = gathered_within (pairs (binary op t) xs ys) (bin_members op t c d) (bin_proper op t c d) (λ v here. by v (from_pairs (binary op t) xs ys v here))
  where
    by : (v : ℤ) → (x y : ℤ) × IsAmong x xs × IsAmong y ys × (binary op t x y ≡ Some v) → IsResult (bin_members op t c d) v
    by v (x, y, here, there, same) = bin_allows op t c d x y v is (one x here) (other y there) same
bin_widens op t Any b Any d is one other = λ v here. here
bin_widens op t Any b (Few zs) d is one other = absurd (not_few zs one)
bin_widens op t (Few xs) Any Any d is one other = λ v here. here
bin_widens op t (Few xs) Any (Few zs) Any is one other = λ v here. here
bin_widens op t (Few xs) Any (Few zs) (Few us) is one other = absurd (not_few us other)

un_proper : (op : UnOp) (t : IntType) (a : Members) → IfSome (un_members op t a) IsProper
un_proper op t (Few xs) = gathered_proper (filter_map (unary op t) xs)
un_proper op t Any = tt

pub un_widens : (op : UnOp) → UnMembersAreMonotone op
un_widens op t (Few xs) c one = gathered_within (filter_map (unary op t) xs) (un_members op t c) (un_proper op t c) (λ v here. by v (from_filter (unary op t) xs v here))
  where
    by : (v : ℤ) → (x : ℤ) × IsAmong x xs × (unary op t x ≡ Some v) → IsResult (un_members op t c) v
    by v (x, here, same) = un_allows op t c x v (one x here) same
un_widens op t Any Any one = λ v here. here
un_widens op t Any (Few zs) one = absurd (not_few zs one)

conv_proper : (t : IntType) (a : Members) → IfSome (conv_members t a) IsProper
conv_proper t (Few xs) = gathered_proper (filter_map (conv t) xs)
conv_proper t Any = tt

pub conv_widens : ConvMembersAreMonotone
conv_widens t (Few xs) c one = gathered_within (filter_map (conv t) xs) (conv_members t c) (conv_proper t c) (λ v here. by v (from_filter (conv t) xs v here))
  where
    by : (v : ℤ) → (x : ℤ) × IsAmong x xs × (conv t x ≡ Some v) → IsResult (conv_members t c) v
    by v (x, here, same) = conv_allows t c x v (one x here) same
conv_widens t Any Any one = λ v here. here
conv_widens t Any (Few zs) one = absurd (not_few zs one)

-- the results are numbers of the type
conv_of_type : (t : IntType) (v x : ℤ) → conv t v ≡ Some x → IsOfType t x
conv_of_type t v x same = by t.signed refl same
  where
    fits : (is_between (least t) (greatest t) v ≡ true) × (v ≡ x) → IsOfType t x
    fits (test, is) = let ends = and_parts _ _ test in subst (IsOfType t) is (le_tells _ _ ends.0, le_tells _ _ ends.1)

    by : (s : Bool) → t.signed ≡ s → cond s (given (is_between (least t) (greatest t) v) v) (Some (modulo t v)) ≡ Some x → IsOfType t x
    by true kind found = fits (given_some (is_between (least t) (greatest t) v) v x found)
    by false kind found = subst (IsOfType t) (some_same (modulo t v) x found) (modulo_of_type t v kind)

binary_of_type : (op : Op) (t : IntType) (v w x : ℤ) → binary op t v w ≡ Some x → IsOfType t x
binary_of_type op t v w x same = by (conv_all_some t (exact op t v w) x same)
  where
    by : (y : ℤ) × (exact op t v w ≡ Some y) × (conv t y ≡ Some x) → IsOfType t x
    by (y, found, is) = conv_of_type t y x is

of_any_of_type : (op : Op) (t : IntType) → IsIntType t → AreOfType t (of_any op)
of_any_of_type op t is = by (is_comparison op)
  where
    each : (v : ℤ) → (pos 0 ≡ v) ⊎ ((pos 1 ≡ v) ⊎ ⊥) → IsOfType t v
    each v (inl same) = subst (IsOfType t) same (truth_of_type t false is)
    each v (inr (inl same)) = subst (IsOfType t) same (truth_of_type t true is)
    each v (inr (inr none)) = absurd none

    by : (b : Bool) → AreOfType t (cond b (Few (pos 0 ∷ pos 1 ∷ [])) Any)
    by true = each
    by false = tt

bin_of_type : (op : Op) (t : IntType) (a b : Members) → IsIntType t → IfSome (bin_members op t a b) (AreOfType t)
bin_of_type op t (Few xs) (Few ys) is = gathered_of_type t (pairs (binary op t) xs ys) (λ v here. by v (from_pairs (binary op t) xs ys v here))
  where
    by : (v : ℤ) → (x y : ℤ) × IsAmong x xs × IsAmong y ys × (binary op t x y ≡ Some v) → IsOfType t v
    by v (x, y, here, there, same) = binary_of_type op t x y v same
bin_of_type op t (Few xs) Any is = of_any_of_type op t is
bin_of_type op t Any b is = of_any_of_type op t is

un_of_type : (op : UnOp) (t : IntType) (a : Members) → IfSome (un_members op t a) (AreOfType t)
un_of_type op t (Few xs) = gathered_of_type t (filter_map (unary op t) xs) (λ v here. by v (from_filter (unary op t) xs v here))
  where
    by : (v : ℤ) → (x : ℤ) × IsAmong x xs × (unary op t x ≡ Some v) → IsOfType t v
    by v (x, here, same) = conv_of_type t (un_exact op t x) v same
un_of_type op t Any = tt

conv_members_of_type : (t : IntType) (a : Members) → IfSome (conv_members t a) (AreOfType t)
conv_members_of_type t (Few xs) = gathered_of_type t (filter_map (conv t) xs) (λ v here. by v (from_filter (conv t) xs v here))
  where
    by : (v : ℤ) → (x : ℤ) × IsAmong x xs × (conv t x ≡ Some v) → IsOfType t v
    by v (x, here, same) = conv_of_type t x v same
conv_members_of_type t Any = tt

pub results_are_of_type : ResultsAreOfType
results_are_of_type = record {
  binary = λ op t a b is. record { of_type = bin_of_type op t a b is; proper = bin_proper op t a b };
  unary = λ op t a. record { of_type = un_of_type op t a; proper = un_proper op t a };
  converted = λ t a. record { of_type = conv_members_of_type t a; proper = conv_proper t a };
}
