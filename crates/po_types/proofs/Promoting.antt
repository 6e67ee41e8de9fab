-- Promotion keeps numbers, and the usual conversions are symmetric.
use Rattle.std.proofs.Common.{arith, rules, refl, sym, subst, ◌∙◌, ◌≡◌, ℕ, Bool, true, false, ◌⊎◌, inl, inr}
use Rattle.std.specs.Prelude.{cond, ℤ, pos, neg_ℤ, ◌≤ℤ◌}
use Rattle.std.proofs.lemmas.Int.{ints}
use Rattle.po_arith.specs.declared.int_type.IntType.{IntType}
use Rattle.po_arith.specs.Types.{IsIntType, IsOfType}
use Rattle.po_types.specs.Integers.{promoted, common, greater_rank, of_two_signs}

module _ (v : ℤ) where
  abbrev Keeps : Bool → ℕ → Type 0
  Keeps signed bits = IsOfType (record { bits = bits; signed = signed }) v → IsOfType (promoted (record { bits = bits; signed = signed })) v

  in_int : neg_ℤ (pos 32768) ≤ℤ v → v ≤ℤ pos 65535 → (neg_ℤ (pos 2147483648) ≤ℤ v) × (v ≤ℤ pos 2147483647)
  in_int a b = (omega (arith, ints, a), omega (arith, ints, b))

  one_bit : (signed : Bool) → Keeps signed 1
  one_bit true h = let a : neg_ℤ (pos 1) ≤ℤ v = h.0 in let b : v ≤ℤ pos 0 = h.1 in in_int (omega (arith, ints, a)) (omega (arith, ints, b))
  one_bit false h = let a : pos 0 ≤ℤ v = h.0 in let b : v ≤ℤ pos 1 = h.1 in in_int (omega (arith, ints, a)) (omega (arith, ints, b))

  eight_bits : (signed : Bool) → Keeps signed 8
  eight_bits true h = let a : neg_ℤ (pos 128) ≤ℤ v = h.0 in let b : v ≤ℤ pos 127 = h.1 in in_int (omega (arith, ints, a)) (omega (arith, ints, b))
  eight_bits false h = let a : pos 0 ≤ℤ v = h.0 in let b : v ≤ℤ pos 255 = h.1 in in_int (omega (arith, ints, a)) (omega (arith, ints, b))

  sixteen_bits : (signed : Bool) → Keeps signed 16
  sixteen_bits true h = let a : neg_ℤ (pos 32768) ≤ℤ v = h.0 in let b : v ≤ℤ pos 32767 = h.1 in in_int (omega (arith, ints, a)) (omega (arith, ints, b))
  sixteen_bits false h = let a : pos 0 ≤ℤ v = h.0 in let b : v ≤ℤ pos 65535 = h.1 in in_int (omega (arith, ints, a)) (omega (arith, ints, b))

  keeps : (bits : ℕ) (signed : Bool) → ((bits ≡ 1) ⊎ ((bits ≡ 8) ⊎ ((bits ≡ 16) ⊎ ((bits ≡ 32) ⊎ (bits ≡ 64))))) → Keeps signed bits
  keeps bits signed (inl q) = subst (Keeps signed) (sym q) (one_bit signed)
  keeps bits signed (inr (inl q)) = subst (Keeps signed) (sym q) (eight_bits signed)
  keeps bits signed (inr (inr (inl q))) = subst (Keeps signed) (sym q) (sixteen_bits signed)
  keeps bits signed (inr (inr (inr (inl q)))) = subst (Keeps signed) (sym q) (λ h. h)
  keeps bits signed (inr (inr (inr (inr q)))) = subst (Keeps signed) (sym q) (λ h. h)

pub promotion_keeps : (t : IntType) (v : ℤ) → IsIntType t → IsOfType t v → IsOfType (promoted t) v
promotion_keeps t v i h = keeps v t.bits t.signed i.width h

ranks : (s t : IntType) → s.signed ≡ t.signed → greater_rank s t ≡ greater_rank t s
ranks s t q = search (arith, rules)

signs : (s t : IntType) (a b : Bool) → s.signed ≡ a → t.signed ≡ b →
    cond a (cond b (greater_rank s t) (of_two_signs t s)) (cond b (of_two_signs s t) (greater_rank s t))
    ≡ cond b (cond a (greater_rank t s) (of_two_signs s t)) (cond a (of_two_signs t s) (greater_rank t s))
signs s t true true p q = ranks s t (p ∙ sym q)
signs s t true false p q = refl
signs s t false true p q = refl
signs s t false false p q = ranks s t (p ∙ sym q)

pub symmetric : (s t : IntType) → common s t ≡ common t s
symmetric s t = signs (promoted s) (promoted t) (promoted s).signed (promoted t).signed refl refl
