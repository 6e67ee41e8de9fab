-- A book has one least report.
use Rattle.std.proofs.Common.{◌≡◌, zero, suc, ◌<◌, List, [], ◌∷◌, length, refl, sym, ap, subst, ◌∙◌, inl, inr, arith}
use Rattle.std.specs.List.{Contains, AllPairs}
use Rattle.std.specs.Prelude.{◌↔◌}
use Rattle.std.specs.Cmp.{IsTotalOrder}
use Rattle.std.specs.Ordering.{ordering_then, ordering_reverse}
use Rattle.std.specs.declared.cmp.Ordering.{Ordering}
use Rattle.std.specs.declared.cmp.Ordering.TheVariants.{Less, Equal, Greater}
use Rattle.std.proofs.lemmas.Cmp.{nat_cmp_total}
use Rattle.po_base.specs.declared.numbers.FunNo.{FunNo}
use Rattle.po_core.specs.Book.{Book}
use Rattle.po_core.specs.Least.{IsLeastReport}
use Rattle.po_lists.proofs.Members.{Has, contains, has}
use Rattle.po_core.specs.Order.{cause_cmp, obl_cmp, assumption_cmp}
use Rattle.po_core.specs.declared.obl.Cause.{Cause}
use Rattle.po_core.specs.declared.obl.Cause.TheVariants.{Primary, Support}
use Rattle.po_core.specs.declared.obl.Obl.{Obl}
use Rattle.po_core.specs.declared.obl.Verdict.{Verdict}
use Rattle.po_core.specs.declared.report.Report.{Report}

-- two lists that ascend and have the same members are the same
module _ {X : Type 0} (less : X → X → Type 0) (one_way : (x y : X) → less x y → less y x → ⊥) where
  before_all : (x : X) (xs : List X) → AllPairs less (x ∷ xs) → (y : X) → Has xs y → less x y
  before_all x xs up y h =
      let at = contains xs y h in
      let within : suc at.0 < length (x ∷ xs) = let l = at.1 in omega arith in
      subst (λ z. less x z) at.2 (up zero (suc at.0) y (omega arith) within)

  later : (x : X) (xs : List X) → AllPairs less (x ∷ xs) → AllPairs less xs
  later x xs up i j d l within = up (suc i) (suc j) d (omega arith) (omega arith)

  first_is : (x : X) (xs : List X) (y : X) (ys : List X) → AllPairs less (x ∷ xs) → AllPairs less (y ∷ ys) → Has (y ∷ ys) x → Has (x ∷ xs) y → x ≡ y
  first_is x xs y ys up also (inl q) k = sym q
  first_is x xs y ys up also (inr h) (inl q) = q
  first_is x xs y ys up also (inr h) (inr k) = absurd (one_way x y (before_all x xs up y k) (before_all y ys also x h))

  rest_has : (x : X) (xs : List X) (y : X) (ys : List X) → AllPairs less (x ∷ xs) → x ≡ y → (z : X) → Has xs z → Has (y ∷ ys) z → Has ys z
  rest_has x xs y ys up q z h (inl r) =
      let here : less x x = subst (λ v. less x v) (sym r ∙ sym q) (before_all x xs up z h) in
      absurd (one_way x x here here)
  rest_has x xs y ys up q z h (inr k) = k

  one_list : (xs ys : List X) → AllPairs less xs → AllPairs less ys → ((x : X) → Has xs x → Has ys x) → ((x : X) → Has ys x → Has xs x) → xs ≡ ys
  one_list [] [] up also there back = refl
  one_list [] (y ∷ ys) up also there back = absurd (back y (inl refl))
  one_list (x ∷ xs) [] up also there back = absurd (there x (inl refl))
  one_list (x ∷ xs) (y ∷ ys) up also there back =
      let q = first_is x xs y ys up also (there x (inl refl)) (back y (inl refl)) in
      let rest = one_list xs ys (later x xs up) (later y ys also) (λ z h. rest_has x xs y ys up q z h (there z (inr h))) (λ z h. rest_has y ys x xs also (sym q) z h (back z (inr h))) in
      ap (λ z. z ∷ xs) q ∙ ap (λ l. y ∷ l) rest

  pub same_members : (xs ys : List X) → AllPairs less xs → AllPairs less ys → ((x : X) → Contains xs x ↔ Contains ys x) → xs ≡ ys
  same_members xs ys up also same = one_list xs ys up also (λ x h. has ys x ((same x).0 (contains xs x h))) (λ x h. has xs x ((same x).1 (contains ys x h)))

not_both : (a b : Ordering) → a ≡ ordering_reverse b → a ≡ Less → b ≡ Less → ⊥
not_both a b q h k = let other : Less ≡ Greater = sym h ∙ q ∙ ap ordering_reverse k in absurd (cc)

-- what is decided first one way and then the other
both_ways : (a b c d : Ordering) → a ≡ ordering_reverse b → (c ≡ Less → d ≡ Less → ⊥) → ordering_then a c ≡ Less → ordering_then b d ≡ Less → ⊥
both_ways Less Less c d q one h k = absurd (cc)
both_ways Less Equal c d q one h k = absurd (cc)
both_ways Less Greater c d q one h k = absurd (cc)
both_ways Equal Less c d q one h k = absurd (cc)
both_ways Equal Equal c d q one h k = one h k
both_ways Equal Greater c d q one h k = absurd (cc)
both_ways Greater b c d q one h k = absurd (cc)

module _ {P : Type 0} (by : P → P → Ordering) (total : IsTotalOrder by) where
  cause_one_way : (a b : Cause P) → cause_cmp by a b ≡ Less → cause_cmp by b a ≡ Less → ⊥
  cause_one_way (Primary i) (Primary j) h k = not_both _ _ (nat_cmp_total.antisymm i j) h k
  cause_one_way (Primary i) (Support q) h k = absurd (cc)
  cause_one_way (Support p) (Primary j) h k = absurd (cc)
  cause_one_way (Support p) (Support q) h k = not_both _ _ (total.antisymm p q) h k

  obl_one_way : (o p : Obl P) → obl_cmp by o p ≡ Less → obl_cmp by p o ≡ Less → ⊥
  obl_one_way o p h k =
      both_ways _ _ _ _ (nat_cmp_total.antisymm o.fun.0 p.fun.0) (λ l m. both_ways _ _ _ _ (nat_cmp_total.antisymm o.node.0 p.node.0) (cause_one_way o.cause p.cause) l m) h k

  assumption_one_way : (x y : FunNo × P) → assumption_cmp by x y ≡ Less → assumption_cmp by y x ≡ Less → ⊥
  assumption_one_way x y h k = both_ways _ _ _ _ (nat_cmp_total.antisymm x.0.0 y.0.0) (λ l m. not_both _ _ (total.antisymm x.1 y.1) l m) h k

  pub one_least_report : {N T : Type 0} (b : Book P N T) (r s : Report P N) → IsLeastReport by b r → IsLeastReport by b s → r ≡ s
  one_least_report {N} b r s is also =
      let lines = same_members (λ (x y : Obl P × Verdict P N). obl_cmp by x.0 y.0 ≡ Less) (λ x y. obl_one_way x.0 y.0) r.lines s.lines is.lines_ascend also.lines_ascend
      (λ x. ((λ h. (also.lines x.0 x.1).1 ((is.lines x.0 x.1).0 h)), (λ h. (is.lines x.0 x.1).1 ((also.lines x.0 x.1).0 h)))) in
      let assumptions = same_members (λ (x y : FunNo × P). assumption_cmp by x y ≡ Less) assumption_one_way r.assumptions s.assumptions is.assumptions_ascend also.assumptions_ascend
      (λ x. ((λ h. (also.assumptions x.0 x.1).1 ((is.assumptions x.0 x.1).0 h)), (λ h. (is.assumptions x.0 x.1).1 ((also.assumptions x.0 x.1).0 h)))) in
      λ i. record { lines = lines i; assumptions = assumptions i }
