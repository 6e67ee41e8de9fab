-- Sorted lists without doubles ascend; the order of obligations and of assumptions is an order.
use Rattle.std.proofs.Common.{◌≡◌, ◌≢◌, ℕ, zero, suc, ◌+◌, ◌<◌, List, [], ◌∷◌, length, map, get_or, refl, sym, ◌∙◌, ap, subst, arith}
use Rattle.std.specs.Prelude.{Bool, true, false, ◌↔◌, IsTrue}
use Rattle.std.specs.List.{Contains, AllPairs, IsDistinct}
use Rattle.std.specs.List.Sorted.{IsPermutation, IsSortedBy}
use Rattle.std.specs.Bool.{Decides}
use Rattle.std.specs.Cmp.{IsTotalOrder, on_total, then_total, ranked, Equal-is}
use Rattle.std.specs.Ordering.{eq_by_cmp, is_eq, is_lt, nat_cmp, ordering_reverse, ordering_then}
use Rattle.std.specs.declared.cmp.Ordering.{Ordering}
use Rattle.std.specs.declared.cmp.Ordering.TheVariants.{Less, Equal, Greater}
use Rattle.std.proofs.lemmas.Bool.{false≢true}
use Rattle.std.proofs.lemmas.Cmp.{nat_cmp_total, tied_itself}
use Rattle.std.proofs.lemmas.List.{get_or-map, get_or_default, length-map, map-id}
use Rattle.std.proofs.lemmas.List.Sorted.{Contains-permutation, IsPermutation-map, IsPermutation-sym, ranks_by, sorted_far}
use Rattle.std.proofs.lemmas.Map.Keys.{IsDistinct-IsPermutation}
use Rattle.std.proofs.lemmas.Map.Made.{AllPairs-from_IsDistinct, IsDistinct-from_AllPairs}
use Rattle.po_base.specs.declared.numbers.FunNo.{FunNo}
use Rattle.po_base.specs.declared.numbers.NodeNo.{NodeNo}
use Rattle.po_core.specs.Core.{AreApart}
use Rattle.po_core.specs.Order.{assumption_cmp, cause_cmp, obl_cmp}
use Rattle.po_core.specs.declared.obl.Cause.{Cause}
use Rattle.po_core.specs.declared.obl.Cause.TheVariants.{Primary, Support}
use Rattle.po_core.specs.declared.event.Mark.{Mark}
use Rattle.po_core.specs.declared.obl.Obl.{Obl}
use Rattle.po_core.specs.declared.obl.Verdict.{Verdict}
use Rattle.po_ledger.specs.Parts.{AreLines, AreSame, AreSorted, ListsVerdicts}
use Rattle.po_lists.proofs.Orders.{both_equal}

-- items that stand apart differ at any two places
differ : {X : Type 0} (xs : List X) → AreApart xs → AllPairs (λ x y. x ≢ y) xs
differ [] a i j d l w = absurd (omega arith)
differ (x ∷ xs) a zero zero d l w = absurd (omega arith)
differ (x ∷ xs) a zero (suc j) d l w = λ q. let here : j < length xs = omega arith in a.0 (j, here, get_or_default xs j x d here ∙ sym q)
differ (x ∷ xs) a (suc i) zero d l w = absurd (omega arith)
differ (x ∷ xs) a (suc i) (suc j) d l w = differ xs a.1 i j d (omega arith) (omega arith)

not_less : (a b : Ordering) → a ≡ ordering_reverse b → is_lt b ≡ false → ¬ (a ≡ Equal) → a ≡ Less
not_less Less b q h other = refl
not_less Equal b q h other = absurd (other refl)
not_less Greater Less q h other = absurd (false≢true (sym h))
not_less Greater Equal q h other = absurd (cc)
not_less Greater Greater q h other = absurd (cc)

module _ {X : Type 0} (cmp : X → X → Ordering) (total : IsTotalOrder cmp) (equal_are_same : (x y : X) → cmp x y ≡ Equal → x ≡ y) where
  tells : (x y : X) → Decides (eq_by_cmp cmp x y) (x ≡ y)
  tells x y = (λ q. equal_are_same x y ((Equal-is (cmp x y)).0 q), λ q. subst (λ (z : X). is_eq (cmp x z) ≡ true) q ((Equal-is (cmp x x)).1 (tied_itself total x)))

  flips : (x y : X) → eq_by_cmp cmp x y ≡ eq_by_cmp cmp y x
  flips x y = ap is_eq (total.antisymm x y) ∙ reversed (cmp y x)
    where
      reversed : (a : Ordering) → is_eq (ordering_reverse a) ≡ is_eq a
      reversed Less = refl
      reversed Equal = refl
      reversed Greater = refl

  -- what is sorted by a key, from items whose keys stand apart, ascends
  pub ascends : {Y : Type 0} (key : Y → X) (old new : List Y) → AreApart (map key old) → IsPermutation old new → IsSortedBy (λ a b. is_lt (cmp (key a) (key b))) new → AllPairs (λ a b. cmp (key a) (key b) ≡ Less) new
  ascends {Y} key old new apart moved sorted i j d l w =
      let keys : IsDistinct (eq_by_cmp cmp) (map key new) = IsDistinct-IsPermutation (eq_by_cmp cmp) flips (map key old) (map key new) (IsPermutation-map key old new moved) (IsDistinct-from_AllPairs tells (map key old) (differ (map key old) apart)) in
      let long : length (map key new) ≡ length new = length-map new key in
      let there : j < length (map key new) = omega arith in
      let other = AllPairs-from_IsDistinct tells (map key new) keys i j (key d) l there in
      let at_i : get_or (map key new) i (key d) ≡ key (get_or new i d) = get_or-map key new i d (key d) (omega arith) in
      let at_j : get_or (map key new) j (key d) ≡ key (get_or new j d) = get_or-map key new j d (key d) w in
      let x : X = key (get_or new i d) in
      let y : X = key (get_or new j d) in
      not_less (cmp x y) (cmp y x) (total.antisymm x y) (sorted_far (λ a b. is_lt (cmp (key a) (key b))) (ranks_by total key) new sorted i j d (omega arith) w) (λ q. other (at_i ∙ (equal_are_same x y q ∙ sym at_j)))

  pub ascends_itself : (old new to : List X) → AreApart old → IsPermutation old new → IsSortedBy (λ a b. is_lt (cmp a b)) new → to ≡ new → AllPairs (λ a b. cmp a b ≡ Less) to
  ascends_itself old new to apart moved sorted is = subst (λ (z : List X). AllPairs (λ a b. cmp a b ≡ Less) z) (sym is) (ascends (λ x. x) old new (subst (λ (z : List X). AreApart z) (sym (map-id old)) apart) moved sorted)

-- two orders that answer alike
pub sorted_alike : {X Y : Type 0} (one other : X → X → Ordering) → ((x y : X) → one x y ≡ other x y) → (key : Y → X) (ys : List Y) → IsSortedBy (λ a b. is_lt (one (key a) (key b))) ys → IsSortedBy (λ a b. is_lt (other (key a) (key b))) ys
sorted_alike one other alike key ys sorted k d low high = ap is_lt (sym (alike (key (get_or ys (k + 1) d)) (key (get_or ys k d)))) ∙ sorted k d low high

nat_equal : (x y : ℕ) → nat_cmp x y ≡ Equal → x ≡ y
nat_equal x y q = ranked x y Equal (sym q)

module _ {P : Type 0} (by : P → P → Ordering) (total : IsTotalOrder by) (equal_are_same : (p q : P) → by p q ≡ Equal → p ≡ q) where
  cause_antisymm : (a b : Cause P) → cause_cmp by a b ≡ ordering_reverse (cause_cmp by b a)
  cause_antisymm (Primary i) (Primary j) = nat_cmp_total.antisymm i j
  cause_antisymm (Primary i) (Support q) = refl
  cause_antisymm (Support p) (Primary j) = refl
  cause_antisymm (Support p) (Support q) = total.antisymm p q

  cause_trans : (a b c : Cause P) → cause_cmp by a b ≡ Less → cause_cmp by b c ≡ Less → cause_cmp by a c ≡ Less
  cause_trans (Primary i) (Primary j) (Primary k) h g = nat_cmp_total.trans i j k h g
  cause_trans (Primary i) (Primary j) (Support r) h g = refl
  cause_trans (Primary i) (Support q) (Primary k) h g = absurd (cc)
  cause_trans (Primary i) (Support q) (Support r) h g = refl
  cause_trans (Support p) (Primary j) c h g = absurd (cc)
  cause_trans (Support p) (Support q) (Primary k) h g = absurd (cc)
  cause_trans (Support p) (Support q) (Support r) h g = total.trans p q r h g

  cause_congr : (a b c : Cause P) → cause_cmp by a b ≡ Equal → cause_cmp by a c ≡ cause_cmp by b c
  cause_congr (Primary i) (Primary j) (Primary k) h = nat_cmp_total.congr i j k h
  cause_congr (Primary i) (Primary j) (Support r) h = refl
  cause_congr (Primary i) (Support q) c h = absurd (cc)
  cause_congr (Support p) (Primary j) c h = absurd (cc)
  cause_congr (Support p) (Support q) (Primary k) h = refl
  cause_congr (Support p) (Support q) (Support r) h = total.congr p q r h

  cause_total : IsTotalOrder (cause_cmp by)
  cause_total = record { antisymm = cause_antisymm; trans = cause_trans; congr = cause_congr }

  cause_equal : (a b : Cause P) → cause_cmp by a b ≡ Equal → a ≡ b
  cause_equal (Primary i) (Primary j) q = ap (λ (n : ℕ). Primary n) (nat_equal i j q)
  cause_equal (Primary i) (Support p) q = absurd (cc)
  cause_equal (Support p) (Primary j) q = absurd (cc)
  cause_equal (Support p) (Support r) q = ap (λ (n : P). Support n) (equal_are_same p r q)

  pub obl_total : IsTotalOrder (obl_cmp by)
  obl_total = then_total (on_total (λ (o : Obl P). o.fun.0) nat_cmp_total) (then_total (on_total (λ (o : Obl P). o.node.0) nat_cmp_total) (on_total (λ (o : Obl P). o.cause) cause_total))

  pub obl_equal : (o p : Obl P) → obl_cmp by o p ≡ Equal → o ≡ p
  obl_equal o p q =
      let f = both_equal (nat_cmp o.fun.0 p.fun.0) (ordering_then (nat_cmp o.node.0 p.node.0) (cause_cmp by o.cause p.cause)) q in
      let n = both_equal (nat_cmp o.node.0 p.node.0) (cause_cmp by o.cause p.cause) f.1 in
      let fun : ℕ → Obl P = λ k. record { fun = record { 0 = k }; node = o.node; cause = o.cause } in
      let node : ℕ → Obl P = λ k. record { fun = p.fun; node = record { 0 = k }; cause = o.cause } in
      let cause : Cause P → Obl P = λ k. record { fun = p.fun; node = p.node; cause = k } in
      ap fun (nat_equal o.fun.0 p.fun.0 f.0) ∙ (ap node (nat_equal o.node.0 p.node.0 n.0) ∙ ap cause (cause_equal o.cause p.cause n.1))

  pub assumption_total : IsTotalOrder (assumption_cmp by)
  assumption_total = then_total (on_total (λ (x : FunNo × P). x.0.0) nat_cmp_total) (on_total (λ (x : FunNo × P). x.1) total)

  pub assumption_equal : (x y : FunNo × P) → assumption_cmp by x y ≡ Equal → x ≡ y
  assumption_equal x y q =
      let f = both_equal (nat_cmp x.0.0 y.0.0) (by x.1 y.1) q in
      let fun : ℕ → FunNo × P = λ k. (record { 0 = k }, x.1) in
      let pred : P → FunNo × P = λ r. (y.0, r) in
      ap fun (nat_equal x.0.0 y.0.0 f.0) ∙ ap pred (equal_are_same x.1 y.1 f.1)

-- predicates that a rulebook's order ties are the same
pub tied_are_same : {P : Type 0} (eq : P → P → Bool) (by : P → P → Ordering) → ((p q : P) → eq p q ≡ is_eq (by p q)) → ((p q : P) → IsTrue (eq p q) ↔ (p ≡ q)) → (p q : P) → by p q ≡ Equal → p ≡ q
tied_are_same eq by matches same p q h = (same p q).0 (matches p q ∙ (Equal-is (by p q)).1 h)

-- the order of assumptions tells whether two are the same
pub assumption_tells : {P : Type 0} (eq : P → P → Bool) (by : P → P → Ordering) → IsTotalOrder by → ((p q : P) → eq p q ≡ is_eq (by p q)) → ((p q : P) → IsTrue (eq p q) ↔ (p ≡ q)) → (x y : FunNo × P) → Decides (is_eq (assumption_cmp by x y)) (x ≡ y)
assumption_tells eq by total matches same =
    let tied = tied_are_same eq by matches same in
    tells (assumption_cmp by) (assumption_total by total tied) (assumption_equal by total tied)

-- a list and what it is in another order
pub moved_same : {X : Type 0} (from old new to : List X) → old ≡ from → IsPermutation old new → to ≡ new → AreSame from to
moved_same {X} from old new to was moved is x = (
  λ h. subst (λ (z : List X). Contains z x) was (Contains-permutation new old x (IsPermutation-sym old new moved) (subst (λ (z : List X). Contains z x) is h)),
  λ h. subst (λ (z : List X). Contains z x) (sym is) (Contains-permutation old new x moved (subst (λ (z : List X). Contains z x) (sym was) h)),
)

pub moved_lines : {P N : Type 0} (marks : List (Obl P × Mark P N)) (old new to : List (Obl P × Verdict P N)) → AreLines marks old → IsPermutation old new → to ≡ new → ListsVerdicts marks to
moved_lines {P} {N} marks old new to are moved is o v =
    let same = moved_same old old new to refl moved is (o, v) in
    (λ h. (are.each o v).0 (same.0 h), λ h. same.1 ((are.each o v).1 h))

-- an order of obligations that answers as theirs does, cause by cause, is theirs
module _ {P : Type 0} (by : P → P → Ordering) (cmp : Obl P → Obl P → Ordering) where
  abbrev pub AnswersAt : FunNo → NodeNo → Cause P → FunNo → NodeNo → Cause P → Type 0
  AnswersAt f n a g m b = cmp (record { fun = f; node = n; cause = a }) (record { fun = g; node = m; cause = b }) ≡ obl_cmp by (record { fun = f; node = n; cause = a }) (record { fun = g; node = m; cause = b })

  pub record Alike : Type 0 where
    pub both_own : (f g : FunNo) (n m : NodeNo) (i j : ℕ) → AnswersAt f n (Primary i) g m (Primary j)
    pub own_first : (f g : FunNo) (n m : NodeNo) (i : ℕ) (q : P) → AnswersAt f n (Primary i) g m (Support q)
    pub own_last : (f g : FunNo) (n m : NodeNo) (p : P) (j : ℕ) → AnswersAt f n (Support p) g m (Primary j)
    pub no_own : (f g : FunNo) (n m : NodeNo) (p q : P) → AnswersAt f n (Support p) g m (Support q)

  alike_at : Alike → (f g : FunNo) (n m : NodeNo) (a b : Cause P) → AnswersAt f n a g m b
  alike_at h f g n m (Primary i) (Primary j) = h.both_own f g n m i j
  alike_at h f g n m (Primary i) (Support q) = h.own_first f g n m i q
  alike_at h f g n m (Support p) (Primary j) = h.own_last f g n m p j
  alike_at h f g n m (Support p) (Support q) = h.no_own f g n m p q

  pub alike : Alike → (o p : Obl P) → cmp o p ≡ obl_cmp by o p
  alike h o p = alike_at h o.fun p.fun o.node p.node o.cause p.cause

-- the lines of a report, sorted by obligation
pub lines_ascend : {P N : Type 0} (by : P → P → Ordering) → IsTotalOrder by → ((p q : P) → by p q ≡ Equal → p ≡ q) → (marks : List (Obl P × Mark P N)) (old new to : List (Obl P × Verdict P N)) → AreLines marks old → (cmp : Obl P → Obl P → Ordering) → AreSorted cmp old new → Alike by cmp → to ≡ new → AllPairs (λ a b. obl_cmp by a.0 b.0 ≡ Less) to
lines_ascend {P} {N} by total same marks old new to are cmp sorts answers is =
    let key : (Obl P × Verdict P N) → Obl P = λ line. line.0 in
    let up : AllPairs (λ (a b : Obl P × Verdict P N). obl_cmp by a.0 b.0 ≡ Less) new = ascends (obl_cmp by) (obl_total by total same) (obl_equal by total same) key old new are.apart sorts.same (sorted_alike cmp (obl_cmp by) (alike by cmp answers) key new sorts.sorted) in
    subst (λ (z : List (Obl P × Verdict P N)). AllPairs (λ a b. obl_cmp by a.0 b.0 ≡ Less) z) (sym is) up
