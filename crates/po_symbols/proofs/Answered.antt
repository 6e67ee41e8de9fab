-- The lesser of both causes is the answer.
use Rattle.std.proofs.Common.{◌≡◌, ◌≢◌, ℕ, List, refl, ap, ◌∙◌, inl, inr, subst}
use Rattle.std.specs.Prelude.{Option, Some, None}
use Rattle.std.specs.Ordering.{nat_cmp, ordering_reverse, match_ordering}
use Rattle.std.specs.Cmp.Lexicographic.{slice_cmp}
use Rattle.std.specs.declared.cmp.Ordering.{Ordering}
use Rattle.std.specs.declared.cmp.Ordering.TheVariants.{Less, Equal, Greater}
use Rattle.std.proofs.lemmas.Cmp.{nat_list_cmp_total}
use Rattle.std.proofs.lemmas.Map.Lookups.{exact_bytes}
use Rattle.po_ir.specs.declared.unit.Unit.{Unit as FileUnit}
use Rattle.po_symbols.specs.declared.causes.Cause.{Cause}
use Rattle.po_symbols.specs.Linking.{AreTwoBodies, AreClashing, IsRefused}
use Rattle.po_symbols.specs.Causes.{IsFirst, IsFound, IsAnswer, two_bodies, clash, answer}

abbrev Name : Type 0
Name = List ℕ

turned : (x y : Name) (r : Ordering) → slice_cmp nat_cmp x y ≡ r → slice_cmp nat_cmp y x ≡ ordering_reverse r
turned x y r h = nat_list_cmp_total.antisymm y x ∙ ap ordering_reverse h

-- what is at most the greater of two names is at most the lesser
at_most : (x y z : Name) → slice_cmp nat_cmp x y ≡ Less → slice_cmp nat_cmp y z ≢ Greater → slice_cmp nat_cmp x z ≢ Greater
at_most x y z less h above =
    let below : slice_cmp nat_cmp z x ≡ Less = turned x z Greater above in
    h (turned z y Less (nat_list_cmp_total.trans z x y below less))

module _ (units : List FileUnit) (bodies types : Cause) (h : IsFirst (AreTwoBodies units) bodies) (k : IsFirst (AreClashing units) types) where
  lesser_is : (r : Ordering) → slice_cmp nat_cmp types.name bodies.name ≡ r → IsRefused units (match_ordering r (clash types) (two_bodies bodies) (two_bodies bodies))
  lesser_is Less e = record {
    least = k.least;
    one_body = λ c d two. h.least_name types.name c d two (turned types.name bodies.name Less e);
    least_name = λ other cause. elim cause.2 [
      | inl two ↦ at_most types.name bodies.name other e (h.least_name other cause.0 cause.1 two)
      | inr differing ↦ k.least_name other cause.0 cause.1 differing
    ];
  }
  lesser_is Equal e = record {
    least = h.least;
    least_name = λ other cause. elim cause.2 [
      | inl two ↦ h.least_name other cause.0 cause.1 two
      | inr differing ↦ subst (λ z. slice_cmp nat_cmp z other ≢ Greater) (exact_bytes types.name bodies.name e) (k.least_name other cause.0 cause.1 differing)
    ];
  }
  lesser_is Greater e = record {
    least = h.least;
    least_name = λ other cause. elim cause.2 [
      | inl two ↦ h.least_name other cause.0 cause.1 two
      | inr differing ↦ at_most bodies.name types.name other (turned types.name bodies.name Greater e) (k.least_name other cause.0 cause.1 differing)
    ];
  }

pub answered : (units : List FileUnit) (bodies types : Option Cause) → IsFound (AreTwoBodies units) bodies → IsFound (AreClashing units) types → IsAnswer units (answer bodies types)
answered units None None h k = λ name cause. elim cause.2 [ inl two ↦ h name cause.0 cause.1 two | inr differing ↦ k name cause.0 cause.1 differing ]
answered units None (Some types) h k = record {
  least = k.least;
  one_body = λ c d two. h types.name c d two;
  least_name = λ other cause. elim cause.2 [ inl two ↦ absurd (h other cause.0 cause.1 two) | inr differing ↦ k.least_name other cause.0 cause.1 differing ];
}
answered units (Some bodies) None h k = record {
  least = h.least;
  least_name = λ other cause. elim cause.2 [ inl two ↦ h.least_name other cause.0 cause.1 two | inr differing ↦ absurd (k other cause.0 cause.1 differing) ];
}
answered units (Some bodies) (Some types) h k = lesser_is units bodies types h k (slice_cmp nat_cmp types.name bodies.name) refl
