-- A name put into an ascending list and taken out of it.
use Rattle.std.proofs.Common.{◌≡◌, ℕ, List, [], ◌∷◌, ap, sym, ◌∙◌, refl, subst, false, cond, inl, inr}
use Rattle.std.specs.Prelude.{Contains}
use Rattle.std.specs.declared.cmp.Ordering.{Ordering}
use Rattle.std.specs.declared.cmp.Ordering.TheVariants.{Less, Equal, Greater}
use Rattle.std.specs.Ordering.{nat_cmp, match_ordering, is_eq}
use Rattle.std.specs.Cmp.Lexicographic.{slice_cmp, nat_list_cmp_total}
use Rattle.std.specs.List.Sorted.{IsStrictlySortedBy}
use Rattle.std.proofs.lemmas.Cmp.{tied_itself}
use Rattle.std.proofs.lemmas.Map.Lookups.{exact_bytes}
use Rattle.std.proofs.lemmas.List.Elements.{All-contains, All-from_recursion}
use Rattle.po_tree.specs.NameSets.{Hides}
use Rattle.po_tree.specs.InForce.{with_name, less_name, IsAscending}
use Rattle.po_tree.proofs.Sets.{first_or_later, is_first, is_later, none_contained}

itself : (k : List ℕ) → slice_cmp nat_cmp k k ≡ Equal
itself k = tied_itself nat_list_cmp_total k

pub ascending_none : IsAscending []
unfolding IsStrictlySortedBy
ascending_none = tt

-- the first is below the others
below : (y x : List ℕ) (ys : List (List ℕ)) → IsAscending (y ∷ ys) → Contains ys x → slice_cmp nat_cmp y x ≡ Less
unfolding IsStrictlySortedBy
below y x ys s c = All-contains (λ v. slice_cmp nat_cmp y v ≡ Less) ys x (All-from_recursion (λ v. slice_cmp nat_cmp y v ≡ Less) ys s.0) c

rest : (y : List ℕ) (ys : List (List ℕ)) → IsAscending (y ∷ ys) → IsAscending ys
unfolding IsStrictlySortedBy
rest y ys s = s.1

not_less : (k : List ℕ) → slice_cmp nat_cmp k k ≡ Less → ⊥
not_less k e = let q : Less ≡ Equal = sym e ∙ itself k in absurd cc

unlike : (k y : List ℕ) (o : Ordering) → slice_cmp nat_cmp k y ≡ o → is_eq o ≡ false → k ≡ y → ⊥
unlike k y o e not_equal same =
    let q : is_eq Equal ≡ false = ap is_eq (sym (itself k) ∙ ap (slice_cmp nat_cmp k) same ∙ e) ∙ not_equal in absurd cc

-- taken out

out_to : (o : Ordering) (k y x : List ℕ) (ys left : List (List ℕ)) → slice_cmp nat_cmp k y ≡ o → IsAscending (y ∷ ys) → (Contains left x → Contains ys x × (k ≡ x → ⊥)) →
    Contains (cond (is_eq o) ys (y ∷ left)) x → Contains (y ∷ ys) x × (k ≡ x → ⊥)
out_to Less k y x ys left e s f c = elim (first_or_later y left x c) [
  | inl q ↦ (subst (Contains (y ∷ ys)) q (is_first y ys), λ w. unlike k y Less e refl (w ∙ sym q))
  | inr r ↦ (let h = f r in (is_later y ys x h.0, h.1))
]
out_to Equal k y x ys left e s f c = (is_later y ys x c, λ w. not_less x (subst (λ v. slice_cmp nat_cmp v x ≡ Less) (sym (exact_bytes k y e) ∙ w) (below y x ys s c)))
out_to Greater k y x ys left e s f c = elim (first_or_later y left x c) [
  | inl q ↦ (subst (Contains (y ∷ ys)) q (is_first y ys), λ w. unlike k y Greater e refl (w ∙ sym q))
  | inr r ↦ (let h = f r in (is_later y ys x h.0, h.1))
]

less_to : (k x : List ℕ) (ys : List (List ℕ)) → IsAscending ys → Contains (less_name k ys) x → Contains ys x × (k ≡ x → ⊥)
less_to k x [] s c = absurd (none_contained x c)
less_to k x (y ∷ ys) s c = out_to (slice_cmp nat_cmp k y) k y x ys (less_name k ys) refl s (less_to k x ys (rest y ys s)) c

out_from : (o : Ordering) (k y x : List ℕ) (ys left : List (List ℕ)) → slice_cmp nat_cmp k y ≡ o → (Contains ys x → Contains left x) →
    Contains (y ∷ ys) x → (k ≡ x → ⊥) → Contains (cond (is_eq o) ys (y ∷ left)) x
out_from Less k y x ys left e f c n = elim (first_or_later y ys x c) [ inl q ↦ subst (Contains (y ∷ left)) q (is_first y left) | inr r ↦ is_later y left x (f r) ]
out_from Equal k y x ys left e f c n = elim (first_or_later y ys x c) [ inl q ↦ absurd (n (exact_bytes k y e ∙ q)) | inr r ↦ r ]
out_from Greater k y x ys left e f c n = elim (first_or_later y ys x c) [ inl q ↦ subst (Contains (y ∷ left)) q (is_first y left) | inr r ↦ is_later y left x (f r) ]

less_from : (k x : List ℕ) (ys : List (List ℕ)) → Contains ys x → (k ≡ x → ⊥) → Contains (less_name k ys) x
less_from k x [] c n = c
less_from k x (y ∷ ys) c n = out_from (slice_cmp nat_cmp k y) k y x ys (less_name k ys) refl (λ r. less_from k x ys r n) c n

pub hides_one : (k : List ℕ) (ys : List (List ℕ)) → IsAscending ys → Hides (λ x. k ≡ x) ys (less_name k ys)
hides_one k ys s = record { each = λ x. (λ c. less_to k x ys s c, λ h. less_from k x ys h.0 h.1) }

-- put in and taken out again

in_and_out : (o : Ordering) (k y : List ℕ) (ys more : List (List ℕ)) → slice_cmp nat_cmp k y ≡ o → (Contains (y ∷ ys) k → ⊥) → less_name k more ≡ ys →
    less_name k (match_ordering o (k ∷ y ∷ ys) (y ∷ ys) (y ∷ more)) ≡ y ∷ ys
in_and_out Less k y ys more e none same = rw (itself k) refl
in_and_out Equal k y ys more e none same = absurd (none (subst (λ v. Contains (v ∷ ys) k) (exact_bytes k y e) (is_first k ys)))
in_and_out Greater k y ys more e none same = rw e (ap (λ v. y ∷ v) same)

pub less_with : (k : List ℕ) (ys : List (List ℕ)) → (Contains ys k → ⊥) → less_name k (with_name k ys) ≡ ys
less_with k [] none = rw (itself k) refl
less_with k (y ∷ ys) none = in_and_out (slice_cmp nat_cmp k y) k y ys (with_name k ys) refl none (less_with k ys (λ c. none (is_later y ys k c)))

-- taken out and put in again

least : (k : List ℕ) (ys : List (List ℕ)) → IsAscending (k ∷ ys) → with_name k ys ≡ k ∷ ys
least k [] s = refl
least k (z ∷ zs) s = rw (below k z (z ∷ zs) s (is_first z zs)) refl

out_and_in : (o : Ordering) (k y : List ℕ) (ys left : List (List ℕ)) → slice_cmp nat_cmp k y ≡ o → IsAscending (y ∷ ys) → Contains (y ∷ ys) k → (Contains ys k → with_name k left ≡ ys) →
    with_name k (cond (is_eq o) ys (y ∷ left)) ≡ y ∷ ys
out_and_in Less k y ys left e s c f = elim (first_or_later y ys k c) [
  | inl q ↦ absurd (not_less k (subst (λ v. slice_cmp nat_cmp k v ≡ Less) q e))
  | inr r ↦ absurd (not_less k (nat_list_cmp_total.trans k y k e (below y k ys s r)))
]
out_and_in Equal k y ys left e s c f =
    let same = exact_bytes k y e in least k ys (subst (λ v. IsAscending (v ∷ ys)) (sym same) s) ∙ ap (λ v. v ∷ ys) same
out_and_in Greater k y ys left e s c f = elim (first_or_later y ys k c) [
  | inl q ↦ absurd (unlike k y Greater e refl (sym q))
  | inr r ↦ rw e (ap (λ v. y ∷ v) (f r))
]

pub with_less : (k : List ℕ) (ys : List (List ℕ)) → IsAscending ys → Contains ys k → with_name k (less_name k ys) ≡ ys
with_less k [] s c = absurd (none_contained k c)
with_less k (y ∷ ys) s c = out_and_in (slice_cmp nat_cmp k y) k y ys (less_name k ys) refl s c (λ r. with_less k ys (rest y ys s) r)
