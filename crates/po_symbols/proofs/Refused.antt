-- Files that can't be joined are refused for one name and one pair of files.
use Rattle.std.proofs.Common.{◌≡◌, ◌≢◌, ℕ, List, refl, ap, ◌∙◌, subst, inl, inr, arith}
use Rattle.std.specs.Ordering.{nat_cmp, ordering_reverse}
use Rattle.std.specs.Cmp.Lexicographic.{slice_cmp}
use Rattle.std.specs.declared.cmp.Ordering.{Ordering}
use Rattle.std.specs.declared.cmp.Ordering.TheVariants.{Less, Equal, Greater}
use Rattle.std.proofs.lemmas.Cmp.{nat_list_cmp_total}
use Rattle.std.proofs.lemmas.Map.Lookups.{exact_bytes}
use Rattle.po_ir.specs.declared.unit.Unit.{Unit as FileUnit}
use Rattle.po_symbols.specs.Linking.{AreTwoBodies, AreClashing, IsLeastPair, HasCause, IsLeastName, OneRefusal}

one_order : (x y : List ℕ) (r : Ordering) → slice_cmp nat_cmp x y ≡ r → r ≢ Greater → slice_cmp nat_cmp y x ≢ Greater → x ≡ y
one_order x y Less is h k = absurd (k (nat_list_cmp_total.antisymm y x ∙ ap ordering_reverse is))
one_order x y Equal is h k = exact_bytes x y is
one_order x y Greater is h k = absurd (h refl)

one_name : (units : List FileUnit) (x y : List ℕ) → HasCause units x → HasCause units y → IsLeastName units x → IsLeastName units y → x ≡ y
one_name units x y p q h k = one_order x y (slice_cmp nat_cmp x y) refl (h y q) (k x p)

one_pair : (P : ℕ → ℕ → Type 0) (a b c d : ℕ) → IsLeastPair P a b → IsLeastPair P c d → (a ≡ c) × (b ≡ d)
one_pair P a b c d h k =
    elim (h.1 c d k.0) [
      | inl l ↦ elim (k.1 a b h.0) [ inl m ↦ absurd (omega arith) | inr m ↦ absurd (let e = m.0 in omega arith) ]
      | inr l ↦ elim (k.1 a b h.0) [ inl m ↦ absurd (let e = l.0 in omega arith) | inr m ↦ (l.0, (let x = l.1 in let y = m.1 in omega arith)) ]
    ]

pub one_refusal : OneRefusal
one_refusal = record {
  bodies = λ units x y a b c d p q.
      let same : x ≡ y = one_name units x y (a, b, inl p.least.0) (c, d, inl q.least.0) p.least_name q.least_name in
      let pair = one_pair (AreTwoBodies units y) a b c d (subst (λ z. IsLeastPair (AreTwoBodies units z) a b) same p.least) q.least in
      (same, pair.0, pair.1);
  clashes = λ units x y a b c d p q.
      let same : x ≡ y = one_name units x y (a, b, inr p.least.0) (c, d, inr q.least.0) p.least_name q.least_name in
      let pair = one_pair (AreClashing units y) a b c d (subst (λ z. IsLeastPair (AreClashing units z) a b) same p.least) q.least in
      (same, pair.0, pair.1);
  bodies_first = λ units x y a b c d p q.
      let same : x ≡ y = one_name units x y (a, b, inl p.least.0) (c, d, inr q.least.0) p.least_name q.least_name in
      q.one_body a b (subst (λ z. AreTwoBodies units z a b) same p.least.0);
}
