-- Ranks of ordered values: a number of each that is at most a height, and greater for a value strictly above. Ranks of pairs,
-- lists, maps and options are made from those of their parts.
use Rattle.std.specs.Prelude.{◌≡◌, ℕ, suc, ◌+◌, ◌*◌, ◌<◌, ◌≤◌, List, [], ◌∷◌, length, Option, Some, None, ◌⊎◌}
use Rattle.std.proofs.Common.{refl, sym, ap, ◌∙◌, subst, arith, inl, inr}
use Rattle.std.proofs.Math.Nat.{mul-le-mul_right}
use Rattle.std.specs.List.{AllByRecursion, AllZip, sum_by}
use Rattle.std.proofs.lemmas.List.Sums.{sum_by-cons}
use Rattle.std.specs.declared.cmp.Ordering.{Ordering}
use Rattle.std.specs.declared.cmp.Ordering.TheVariants.{Equal}
use Rattle.std.specs.Cmp.{IsTotalOrder}
use Rattle.po_bases.specs.General.{IfThere, BelowFromNone, BelowNone, EachProper}
use Rattle.po_bases.specs.Maps.{IsMap, AreAfter, MapBelow, by_ordering, below_same, below_skipped, not_below, first_not_below}

pub record IsRanked {S : Type 0} (Proper : S → Type 0) (Below : S → S → Type 0) (rank : S → ℕ) (height : ℕ) : Type 0 where
  pub bound : (x : S) → Proper x → rank x ≤ height
  pub rises : (x y : S) → Proper x → Proper y → Below x y → (x ≡ y) ⊎ (rank x < rank y)

module _ {S : Type 0} {P : S → Type 0} {B : S → S → Type 0} {r : S → ℕ} {h : ℕ} (law : IsRanked P B r h) where
  by_rise : (x y : S) → (x ≡ y) ⊎ (r x < r y) → r x ≤ r y
  by_rise x y (inl same) = let e : r x ≡ r y = ap r same in omega arith
  by_rise x y (inr less) = omega arith

  pub not_lower : (x y : S) → P x → P y → B x y → r x ≤ r y
  not_lower x y px py below = by_rise x y (law.rises x y px py below)

  -- of some of the values
  pub ranked_among : (Q : S → Type 0) → ((x : S) → Q x → P x) → IsRanked Q B r h
  ranked_among Q proper = record { bound = λ x qx. law.bound x (proper x qx); rises = λ x y qx qy. law.rises x y (proper x qx) (proper y qy) }

  -- by an order that is no weaker
  pub ranked_below : (C : S → S → Type 0) → ((x y : S) → C x y → B x y) → IsRanked P C r h
  ranked_below C weaker = record { bound = law.bound; rises = λ x y px py below. law.rises x y px py (weaker x y below) }

  -- below a greater height
  pub ranked_to : (k : ℕ) → h ≤ k → IsRanked P B r k
  ranked_to k more = record { bound = λ x px. (let b = law.bound x px in lower (r x) b); rises = law.rises } where
    lower : (n : ℕ) → n ≤ h → n ≤ k
    lower n le = omega arith

-- one value has one rank
pub ranked_alone : {S : Type 0} (it : S) → IsRanked (λ x. x ≡ it) (λ x y. Unit {0}) (λ x. 0) 0
ranked_alone it = record { bound = λ x px. omega arith; rises = λ x y px py below. inl (px ∙ sym py) }

-- ---- pairs

module _ {S T : Type 0} {P : S → Type 0} {B : S → S → Type 0} {r : S → ℕ} {h : ℕ} {Q : T → Type 0} {C : T → T → Type 0} {s : T → ℕ} {k : ℕ}
    (f : IsRanked P B r h) (g : IsRanked Q C s k) where
  pair_rises : (x y : S × T) → (x.0 ≡ y.0) ⊎ (r x.0 < r y.0) → (x.1 ≡ y.1) ⊎ (s x.1 < s y.1) → (x ≡ y) ⊎ (r x.0 + s x.1 < r y.0 + s y.1)
  pair_rises x y (inl same) (inl other) = inl (λ i. (same i, other i))
  pair_rises x y (inl same) (inr less) = let e : r x.0 ≡ r y.0 = ap r same in inr (omega arith)
  pair_rises x y (inr less) (inl other) = let e : s x.1 ≡ s y.1 = ap s other in inr (omega arith)
  pair_rises x y (inr less) (inr more) = inr (omega arith)

  pair_bound : (a b : ℕ) → a ≤ h → b ≤ k → a + b ≤ h + k
  pair_bound a b la lb = omega arith

  pub ranked_pairs : IsRanked (λ (p : S × T). P p.0 × Q p.1) (λ p q. B p.0 q.0 × C p.1 q.1) (λ p. r p.0 + s p.1) (h + k)
  ranked_pairs = record {
    bound = λ x px. pair_bound (r x.0) (s x.1) (f.bound x.0 px.0) (g.bound x.1 px.1);
    rises = λ x y px py below. pair_rises x y (f.rises x.0 y.0 px.0 py.0 below.0) (g.rises x.1 y.1 px.1 py.1 below.1);
  }

-- ---- values told by their parts

module _ {S T : Type 0} (parts : S → T) (whole : T → S) (back : (s : S) → whole (parts s) ≡ s) {P : T → Type 0} {B : T → T → Type 0} {r : T → ℕ} {h : ℕ} (f : IsRanked P B r h) where
  same_or_less : (x y : S) → (parts x ≡ parts y) ⊎ (r (parts x) < r (parts y)) → (x ≡ y) ⊎ (r (parts x) < r (parts y))
  same_or_less x y (inl same) = inl (sym (back x) ∙ ap whole same ∙ back y)
  same_or_less x y (inr less) = inr less

  pub ranked_along : IsRanked (λ s. P (parts s)) (λ s t. B (parts s) (parts t)) (λ s. r (parts s)) h
  ranked_along = record {
    bound = λ x px. f.bound (parts x) px;
    rises = λ x y px py below. same_or_less x y (f.rises (parts x) (parts y) px py below);
  }

-- ---- options

abbrev pub rank_from_none : {S : Type 0} → (S → ℕ) → Option S → ℕ
rank_from_none r None = 0
rank_from_none r (Some x) = suc (r x)

abbrev pub rank_to_none : {S : Type 0} → (S → ℕ) → ℕ → Option S → ℕ
rank_to_none r h None = suc h
rank_to_none r h (Some x) = r x

module _ {S : Type 0} {P : S → Type 0} {B : S → S → Type 0} {r : S → ℕ} {h : ℕ} (f : IsRanked P B r h) where
  some_rises : (x y : S) → (x ≡ y) ⊎ (r x < r y) → (Some x ≡ Some y) ⊎ (suc (r x) < suc (r y))
  some_rises x y (inl same) = inl (ap Some same)
  some_rises x y (inr less) = inr (omega arith)

  top_rises : (x y : S) → (x ≡ y) ⊎ (r x < r y) → (Some x ≡ Some y) ⊎ (r x < r y)
  top_rises x y (inl same) = inl (ap Some same)
  top_rises x y (inr less) = inr less

  from_bound : (x : Option S) → IfThere P x → rank_from_none r x ≤ suc h
  from_bound None px = omega arith
  from_bound (Some x) px = let b = f.bound x px in raised (r x) b where
    raised : (n : ℕ) → n ≤ h → suc n ≤ suc h
    raised n le = omega arith

  from_rises : (x y : Option S) → IfThere P x → IfThere P y → BelowFromNone B x y → (x ≡ y) ⊎ (rank_from_none r x < rank_from_none r y)
  from_rises None None px py below = inl refl
  from_rises None (Some y) px py below = inr (omega arith)
  from_rises (Some x) None px py below = absurd below
  from_rises (Some x) (Some y) px py below = some_rises x y (f.rises x y px py below)

  pub ranked_from_none : IsRanked (IfThere P) (BelowFromNone B) (rank_from_none r) (suc h)
  ranked_from_none = record { bound = from_bound; rises = from_rises }

  to_bound : (x : Option S) → IfThere P x → rank_to_none r h x ≤ suc h
  to_bound None px = omega arith
  to_bound (Some x) px = raised (r x) (f.bound x px) where
    raised : (n : ℕ) → n ≤ h → n ≤ suc h
    raised n le = omega arith

  to_rises : (x y : Option S) → IfThere P x → IfThere P y → BelowNone B x y → (x ≡ y) ⊎ (rank_to_none r h x < rank_to_none r h y)
  to_rises None None px py below = inl refl
  to_rises (Some x) None px py below = inr (raised (r x) (f.bound x px)) where
    raised : (n : ℕ) → n ≤ h → n < suc h
    raised n le = omega arith
  to_rises None (Some y) px py below = absurd below
  to_rises (Some x) (Some y) px py below = top_rises x y (f.rises x y px py below)

  pub ranked_to_none : IsRanked (IfThere P) (BelowNone B) (rank_to_none r h) (suc h)
  ranked_to_none = record { bound = to_bound; rises = to_rises }

-- ---- lists of one length

module _ {S : Type 0} {P : S → Type 0} {B : S → S → Type 0} {r : S → ℕ} {h : ℕ} (f : IsRanked P B r h) where
  cons_rises : (x y : S) (xs ys : List S) → (x ≡ y) ⊎ (r x < r y) → (xs ≡ ys) ⊎ (sum_by r xs < sum_by r ys) → (x ∷ xs ≡ y ∷ ys) ⊎ (sum_by r (x ∷ xs) < sum_by r (y ∷ ys))
  cons_rises x y xs ys (inl same) (inl others) = inl (λ i. same i ∷ others i)
  cons_rises x y xs ys (inl same) (inr less) =
      let e : r x ≡ r y = ap r same in inr (subst (λ n. n < sum_by r (y ∷ ys)) (sym (sum_by-cons r x xs)) (subst (λ n. r x + sum_by r xs < n) (sym (sum_by-cons r y ys)) (omega arith)))
  cons_rises x y xs ys (inr less) (inl others) =
      let e : sum_by r xs ≡ sum_by r ys = ap (sum_by r) others in inr (subst (λ n. n < sum_by r (y ∷ ys)) (sym (sum_by-cons r x xs)) (subst (λ n. r x + sum_by r xs < n) (sym (sum_by-cons r y ys)) (omega arith)))
  cons_rises x y xs ys (inr less) (inr more) =
      inr (subst (λ n. n < sum_by r (y ∷ ys)) (sym (sum_by-cons r x xs)) (subst (λ n. r x + sum_by r xs < n) (sym (sum_by-cons r y ys)) (omega arith)))

  each_rises : (xs ys : List S) → AllByRecursion P xs → AllByRecursion P ys → AllZip B xs ys → (xs ≡ ys) ⊎ (sum_by r xs < sum_by r ys)
  each_rises [] [] px py below = inl refl
  each_rises [] (y ∷ ys) px py below = absurd below
  each_rises (x ∷ xs) [] px py below = absurd below
  each_rises (x ∷ xs) (y ∷ ys) px py below = cons_rises x y xs ys (f.rises x y px.0 py.0 below.0) (each_rises xs ys px.1 py.1 below.1)

  more_bound : (a b n m : ℕ) → a ≤ m → b ≤ n * m → a + b ≤ suc n * m
  more_bound a b n m la lb = omega arith

  each_bound : (xs : List S) → AllByRecursion P xs → sum_by r xs ≤ length xs * h
  each_bound [] px = omega arith
  each_bound (x ∷ xs) px = subst (λ n. n ≤ suc (length xs) * h) (sym (sum_by-cons r x xs)) (more_bound (r x) (sum_by r xs) (length xs) h (f.bound x px.0) (each_bound xs px.1))

  pub ranked_each : (n : ℕ) → IsRanked (EachProper P n) (AllZip B) (sum_by r) (n * h)
  ranked_each n = record {
    bound = λ x px. subst (λ m. sum_by r x ≤ m * h) px.1 (each_bound x px.0);
    rises = λ x y px py. each_rises x y px.0 py.0;
  }

-- ---- maps of at most n keys

module _ {E K : Type 0} (key : E → K) (cmp : K → K → Ordering) (total : IsTotalOrder cmp) (one : (k l : K) → cmp k l ≡ Equal → k ≡ l)
    (B : E → E → Type 0) (Form : E → Type 0) (r : E → ℕ) (h : ℕ) (at_key : (k : K) → IsRanked (λ e. (key e ≡ k) × Form e) B r h) where
  abbrev entry_rank : E → ℕ
  entry_rank e = suc (r e)

  abbrev pub map_rank : List E → ℕ
  map_rank xs = sum_by entry_rank xs

  one_more : (x : E) (xs : List E) → map_rank (x ∷ xs) ≡ suc (r x) + map_rank xs
  one_more x xs = sum_by-cons entry_rank x xs

  first_rises : (x y : E) (xs ys : List E) → (x ≡ y) ⊎ (r x < r y) → (xs ≡ ys) ⊎ (map_rank xs < map_rank ys) → (x ∷ xs ≡ y ∷ ys) ⊎ (map_rank (x ∷ xs) < map_rank (y ∷ ys))
  first_rises x y xs ys (inl same) (inl others) = inl (λ i. same i ∷ others i)
  first_rises x y xs ys (inl same) (inr less) =
      let e : r x ≡ r y = ap r same in inr (subst (λ n. n < map_rank (y ∷ ys)) (sym (one_more x xs)) (subst (λ n. suc (r x) + map_rank xs < n) (sym (one_more y ys)) (omega arith)))
  first_rises x y xs ys (inr less) (inl others) =
      let e : map_rank xs ≡ map_rank ys = ap map_rank others in inr (subst (λ n. n < map_rank (y ∷ ys)) (sym (one_more x xs)) (subst (λ n. suc (r x) + map_rank xs < n) (sym (one_more y ys)) (omega arith)))
  first_rises x y xs ys (inr less) (inr more) =
      inr (subst (λ n. n < map_rank (y ∷ ys)) (sym (one_more x xs)) (subst (λ n. suc (r x) + map_rank xs < n) (sym (one_more y ys)) (omega arith)))

  later_rises : (xs : List E) (y : E) (ys : List E) → (xs ≡ ys) ⊎ (map_rank xs < map_rank ys) → (xs ≡ y ∷ ys) ⊎ (map_rank xs < map_rank (y ∷ ys))
  later_rises xs y ys (inl same) =
      let e : map_rank xs ≡ map_rank ys = ap map_rank same in inr (subst (λ n. map_rank xs < n) (sym (one_more y ys)) (omega arith))
  later_rises xs y ys (inr less) = inr (subst (λ n. map_rank xs < n) (sym (one_more y ys)) (omega arith))

  rises_with : (x : E) (xs : List E) → AreAfter key cmp (key x) xs → Form x →
      ((ys : List E) → IsMap key cmp Form ys → MapBelow key cmp B xs ys → (xs ≡ ys) ⊎ (map_rank xs < map_rank ys)) →
      (ys : List E) → IsMap key cmp Form ys → MapBelow key cmp B (x ∷ xs) ys → (x ∷ xs ≡ ys) ⊎ (map_rank (x ∷ xs) < map_rank ys)
  rises_with x xs ax fx rest [] my below = absurd (not_below key cmp total one B x xs [] tt below)
  rises_with x xs ax fx rest (y ∷ ys) my below =
      by_ordering (cmp (key x) (key y)) ((x ∷ xs ≡ y ∷ ys) ⊎ (map_rank (x ∷ xs) < map_rank (y ∷ ys)))
      (λ o. absurd (first_not_below key cmp total one B x y xs ys o my.0.0 below))
      (λ o.
      let both = below_same key cmp total one B x y xs ys o ax below in
      first_rises x y xs ys ((at_key (key y)).rises x y (one (key x) (key y) o, fx) (refl, my.1.0) both.0) (rest ys (my.0.1, my.1.1) both.1))
      (λ o. later_rises (x ∷ xs) y ys (rises_with x xs ax fx rest ys (my.0.1, my.1.1) (below_skipped key cmp total one B x y xs ys o ax below)))

  none_rises : (ys : List E) → ([] ≡ ys) ⊎ (map_rank [] < map_rank ys)
  none_rises [] = inl refl
  none_rises (y ∷ ys) = inr (subst (λ n. map_rank [] < n) (sym (one_more y ys)) (omega arith))

  map_rises : (xs ys : List E) → IsMap key cmp Form xs → IsMap key cmp Form ys → MapBelow key cmp B xs ys → (xs ≡ ys) ⊎ (map_rank xs < map_rank ys)
  map_rises [] ys mx my below = none_rises ys
  map_rises (x ∷ xs) ys mx my below = rises_with x xs mx.0.0 mx.1.0 (λ zs mz. map_rises xs zs (mx.0.1, mx.1.1) mz) ys my below

  entry_bound : (a b n : ℕ) → a ≤ h → b ≤ n * suc h → suc a + b ≤ suc n * suc h
  entry_bound a b n la lb = omega arith

  map_bound : (xs : List E) → AllByRecursion Form xs → map_rank xs ≤ length xs * suc h
  map_bound [] fx = omega arith
  map_bound (x ∷ xs) fx = subst (λ n. n ≤ suc (length xs) * suc h) (sym (one_more x xs)) (entry_bound (r x) (map_rank xs) (length xs) ((at_key (key x)).bound x (refl, fx.0)) (map_bound xs fx.1))

  pub ranked_maps : (n : ℕ) → IsRanked (λ xs. IsMap key cmp Form xs × (length xs ≤ n)) (MapBelow key cmp B) map_rank (n * suc h)
  ranked_maps n = record {
    bound = λ x px. within x (map_bound x px.0.1) (mul-le-mul_right (suc h) px.1);
    rises = λ x y px py. map_rises x y px.0 py.0;
  } where
    within : (x : List E) → map_rank x ≤ length x * suc h → length x * suc h ≤ n * suc h → map_rank x ≤ n * suc h
    within x a b = omega arith
