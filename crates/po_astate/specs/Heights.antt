-- Ranks of what is known: ends at thresholds, members, filled bytes, bases, values and states.
use Rattle.std.specs.Prelude.{◌≡◌, ℕ, suc, ◌+◌, ◌-◌, ◌<◌, ◌≤◌, Bool, true, false, cond, ℤ, pos, negsuc, ◌<ℤ◌, ◌≤ℤ◌, int_lt, List, [], ◌∷◌, length, ◌⊎◌}
use Rattle.std.proofs.Common.{refl, sym, ap, ◌∙◌, subst, arith, inl, inr}
use Rattle.std.specs.List.{count_by}
use Rattle.std.proofs.lemmas.List.Sums.{sum_by-cons, sum_by-le-sum_by}
use Rattle.std.proofs.lemmas.Int.{ints, by_lt_z}
use Rattle.po_arith.specs.declared.interval.Interval.{Interval}
use Rattle.po_interval.specs.declared.members.Members.{Members}
use Rattle.po_interval.specs.declared.members.Members.TheVariants.{Few, Any}
use Rattle.po_interval.specs.Sets.{IsAmong, IsAscending}
use Rattle.po_interval.specs.Members.{IsProper, AreWithin, WithinIsExact}
use Rattle.po_bases.specs.General.{IfThere, Surely, Maybe, AtLeast}
use Rattle.po_bases.specs.Intervals.{IsBetween}
use Rattle.po_bases.specs.Filled as bytes
use Rattle.po_bases.specs.Filled.{IsFilled, FilledBelow, FactBelow}
use Rattle.po_bases.specs.declared.filled.Filled.{Filled}
use Rattle.po_bases.specs.declared.filled.Filled.TheVariants.{All, Bytes}
use Rattle.po_astate.specs.Ranks.{IsRanked, ranked_below, ranked_pairs, ranked_along, rank_to_none, ranked_to_none}

-- ---- tests

abbrev pub sure_rank : Bool → ℕ
sure_rank b = cond b 0 1

pub ranked_surely : IsRanked (λ _. Unit {0}) Surely sure_rank 1
ranked_surely = record { bound = bound; rises = rises } where
  bound : (b : Bool) → Unit {0} → sure_rank b ≤ 1
  bound true p = omega arith
  bound false p = omega arith

  rises : (a b : Bool) → Unit {0} → Unit {0} → Surely a b → (a ≡ b) ⊎ (sure_rank a < sure_rank b)
  rises true true p q h = inl refl
  rises true false p q h = inr (omega arith)
  rises false true p q h = inl (h refl)
  rises false false p q h = inl refl

abbrev pub maybe_rank : Bool → ℕ
maybe_rank b = cond b 1 0

pub ranked_maybe : IsRanked (λ _. Unit {0}) Maybe maybe_rank 1
ranked_maybe = record { bound = bound; rises = rises } where
  bound : (b : Bool) → Unit {0} → maybe_rank b ≤ 1
  bound true p = omega arith
  bound false p = omega arith

  rises : (a b : Bool) → Unit {0} → Unit {0} → Maybe a b → (a ≡ b) ⊎ (maybe_rank a < maybe_rank b)
  rises true true p q h = inl refl
  rises true false p q h = inl (sym (h refl))
  rises false true p q h = inr (omega arith)
  rises false false p q h = inl refl

-- ---- ends that stand in a finite list

less_told : (x y : ℤ) → int_lt x y ≡ true → x <ℤ y
less_told x y h = grind (arith, ints)

less_tested : (x y : ℤ) → x <ℤ y → int_lt x y ≡ true
less_tested x y h = grind (arith, ints)

never_less : (x : ℤ) → int_lt x x ≡ false
never_less x = grind (arith, ints)

less_through : (a b c : ℤ) → a <ℤ b → b <ℤ c → a <ℤ c
less_through a b c h k = omega (arith, ints)

less_apart : (a b : ℤ) → a <ℤ b → a ≡ b → ⊥
less_apart a b h e = omega (arith, ints)

no_more : (b c : Bool) → (b ≡ true → c ≡ true) → cond b 1 0 ≤ cond c 1 0
no_more true c h = rw (h refl) (omega arith)
no_more false c h = omega arith

fewer : (p q : ℤ → Bool) → ((t : ℤ) → p t ≡ true → q t ≡ true) → (ts : List ℤ) → count_by p ts ≤ count_by q ts
fewer p q more ts = sum_by-le-sum_by (λ t. cond (p t) 1 0) (λ t. cond (q t) 1 0) ts (λ t. no_more (p t) (q t) (more t))

count-cons : (p : ℤ → Bool) (t : ℤ) (ts : List ℤ) → count_by p (t ∷ ts) ≡ cond (p t) 1 0 + count_by p ts
count-cons p t ts = sum_by-cons (λ t. cond (p t) 1 0) t ts

strictly_more : (a b m n : ℕ) (s t : Bool) → s ≡ false → t ≡ true → m ≤ n → a ≡ cond s 1 0 + m → b ≡ cond t 1 0 + n → a < b
strictly_more a b m n true t e f le ea eb = absurd (let g : true ≡ false = e in cc)
strictly_more a b m n false false e f le ea eb = absurd (let g : false ≡ true = f in cc)
strictly_more a b m n false true e f le ea eb = omega arith

still_more : (a b m n k l : ℕ) → k ≤ l → m < n → a ≡ k + m → b ≡ l + n → a < b
still_more a b m n k l le less ea eb = omega arith

strictly_fewer : (p q : ℤ → Bool) (v : ℤ) → ((t : ℤ) → p t ≡ true → q t ≡ true) → p v ≡ false → q v ≡ true → (ts : List ℤ) → IsAmong v ts → count_by p ts < count_by q ts
strictly_fewer p q v more without with [] there = absurd there
strictly_fewer p q v more without with (t ∷ ts) (inl here) =
    strictly_more (count_by p (t ∷ ts)) (count_by q (t ∷ ts)) (count_by p ts) (count_by q ts) (p t) (q t) (ap p here ∙ without) (ap q here ∙ with) (fewer p q more ts) (count-cons p t ts) (count-cons q t ts)
strictly_fewer p q v more without with (t ∷ ts) (inr later) =
    still_more (count_by p (t ∷ ts)) (count_by q (t ∷ ts)) (count_by p ts) (count_by q ts) (cond (p t) 1 0) (cond (q t) 1 0) (no_more (p t) (q t) (more t))
    (strictly_fewer p q v more without with ts later) (count-cons p t ts) (count-cons q t ts)

at_most_all : (p : ℤ → Bool) (ts : List ℤ) → count_by p ts ≤ length ts
at_most_all p [] = omega arith
at_most_all p (t ∷ ts) = one (count_by p (t ∷ ts)) (count_by p ts) (length ts) (p t) (count-cons p t ts) (at_most_all p ts) where
  one : (a m n : ℕ) (b : Bool) → a ≡ cond b 1 0 + m → m ≤ n → a ≤ suc n
  one a m n true e le = omega arith
  one a m n false e le = omega arith

module _ (grid : List ℤ) where
  abbrev pub above_rank : ℤ → ℕ
  above_rank x = count_by (λ t. int_lt x t) grid

  abbrev pub under_rank : ℤ → ℕ
  under_rank x = count_by (λ t. int_lt t x) grid

  low_rises : (x y : ℤ) → IsAmong x grid → y ≤ℤ x → (x ≡ y) ⊎ (above_rank x < above_rank y)
  low_rises x y there le = by_lt_z y x
      (λ less. inr (strictly_fewer (λ t. int_lt x t) (λ t. int_lt y t) x
      (λ t h. less_tested y t (less_through y x t less (less_told x t h))) (never_less x) (less_tested y x less) grid there))
      (λ up. inl (omega (arith, ints)))

  high_rises : (x y : ℤ) → IsAmong x grid → x ≤ℤ y → (x ≡ y) ⊎ (under_rank x < under_rank y)
  high_rises x y there le = by_lt_z x y
      (λ less. inr (strictly_fewer (λ t. int_lt t x) (λ t. int_lt t y) x
      (λ t h. less_tested t y (less_through t x y (less_told t x h) less)) (never_less x) (less_tested x y less) grid there))
      (λ up. inl (omega (arith, ints)))

  pub ranked_lows : IsRanked (λ x. IsAmong x grid) (λ x y. y ≤ℤ x) above_rank (length grid)
  ranked_lows = record { bound = λ x px. at_most_all (λ t. int_lt x t) grid; rises = λ x y px py below. low_rises x y px below }

  pub ranked_highs : IsRanked (λ x. IsAmong x grid) (λ x y. x ≤ℤ y) under_rank (length grid)
  ranked_highs = record { bound = λ x px. at_most_all (λ t. int_lt t x) grid; rises = λ x y px py below. high_rises x y px below }

  -- both ends are missing or in the grid
  abbrev pub AreEnds : Interval → Type 0
  AreEnds a = IfThere (λ x. IsAmong x grid) a.lo × IfThere (λ x. IsAmong x grid) a.hi

  abbrev pub interval_rank : Interval → ℕ
  interval_rank a = rank_to_none above_rank (length grid) a.lo + rank_to_none under_rank (length grid) a.hi

  pub ranked_intervals : IsRanked AreEnds IsBetween interval_rank (suc (length grid) + suc (length grid))
  ranked_intervals =
      ranked_along (λ (a : Interval). (a.lo, a.hi)) (λ p. record { lo = p.0; hi = p.1 }) (λ a. refl) (ranked_pairs (ranked_to_none ranked_lows) (ranked_to_none ranked_highs))

  natural : ℤ → ℕ
  natural (pos n) = n
  natural (negsuc n) = 0

  pub ranked_sizes : IsRanked (λ n. IsAmong (pos n) grid) AtLeast (λ n. above_rank (pos n)) (length grid)
  unfolding natural
  ranked_sizes = ranked_below (ranked_along pos natural (λ n. refl) ranked_lows) AtLeast (λ x y h. omega (arith, ints))

-- ---- members

strict_sub : (xs ys : List ℤ) → IsAscending xs → IsAscending ys → ((v : ℤ) → IsAmong v xs → IsAmong v ys) → (xs ≡ ys) ⊎ (length xs < length ys)
strict_sub [] [] ax ay sub = inl refl
strict_sub [] (y ∷ ys) ax ay sub = inr (omega arith)
strict_sub (x ∷ xs) [] ax ay sub = absurd (sub x (inl refl))
strict_sub (x ∷ xs) (y ∷ ys) ax ay sub = first (sub x (inl refl)) (λ h. strict_sub xs ys ax.1 ay.1 h) (λ h. strict_sub (x ∷ xs) ys ax ay.1 h) where
  not_y : (v : ℤ) → y <ℤ v → IsAmong v (y ∷ ys) → IsAmong v ys
  not_y v less (inl same) = absurd (less_apart y v less same)
  not_y v less (inr later) = later

  same_first : y ≡ x → (v : ℤ) → IsAmong v xs → IsAmong v ys
  same_first e v there = not_y v (subst (λ w. w <ℤ v) (sym e) (ax.0 v there)) (sub v (inr there))

  all_later : y <ℤ x → (v : ℤ) → IsAmong v (x ∷ xs) → IsAmong v ys
  all_later less v (inl same) = not_y v (subst (λ w. y <ℤ w) same less) (sub v (inl same))
  all_later less v (inr there) = not_y v (less_through y x v less (ax.0 v there)) (sub v (inr there))

  joined : y ≡ x → (xs ≡ ys) ⊎ (length xs < length ys) → (x ∷ xs ≡ y ∷ ys) ⊎ (length (x ∷ xs) < length (y ∷ ys))
  joined e (inl same) = inl (λ i. sym e i ∷ same i)
  joined e (inr less) = inr (omega arith)

  longer : (x ∷ xs ≡ ys) ⊎ (length (x ∷ xs) < length ys) → (x ∷ xs ≡ y ∷ ys) ⊎ (length (x ∷ xs) < length (y ∷ ys))
  longer (inl same) = let e : length (x ∷ xs) ≡ length ys = ap length same in inr (omega arith)
  longer (inr less) = inr (omega arith)

  first : IsAmong x (y ∷ ys) → (((v : ℤ) → IsAmong v xs → IsAmong v ys) → (xs ≡ ys) ⊎ (length xs < length ys)) →
      (((v : ℤ) → IsAmong v (x ∷ xs) → IsAmong v ys) → (x ∷ xs ≡ ys) ⊎ (length (x ∷ xs) < length ys)) → (x ∷ xs ≡ y ∷ ys) ⊎ (length (x ∷ xs) < length (y ∷ ys))
  first (inl same) shorter longer_list = joined same (shorter (same_first same))
  first (inr later) shorter longer_list = longer (longer_list (all_later (ay.0 x later)))

abbrev pub members_rank : Members → ℕ
members_rank (Few xs) = length xs
members_rank Any = 9

few_rises : (xs ys : List ℤ) → (xs ≡ ys) ⊎ (length xs < length ys) → (Few xs ≡ Few ys) ⊎ (length xs < length ys)
few_rises xs ys (inl same) = inl (ap Few same)
few_rises xs ys (inr less) = inr less

pub ranked_members : WithinIsExact → IsRanked IsProper AreWithin members_rank 9
ranked_members exact = record { bound = bound; rises = rises } where
  bound : (m : Members) → IsProper m → members_rank m ≤ 9
  bound (Few xs) p = let few = p.1 in omega arith
  bound Any p = omega arith

  rises : (a b : Members) → IsProper a → IsProper b → AreWithin a b → (a ≡ b) ⊎ (members_rank a < members_rank b)
  rises (Few xs) (Few ys) pa pb sub = few_rises xs ys (strict_sub xs ys pa.2 pb.2 sub)
  rises (Few xs) Any pa pb sub = let few = pa.1 in inr (omega arith)
  rises Any (Few ys) pa pb sub = let e : false ≡ true = (exact Any (Few ys)).1 sub in absurd (cc)
  rises Any Any pa pb sub = inl refl

-- ---- filled bytes

strict_bytes : (xs ys : List ℕ) → bytes.IsAscending xs → bytes.IsAscending ys → ((b : ℕ) → bytes.IsAmong b xs → bytes.IsAmong b ys) → (xs ≡ ys) ⊎ (length xs < length ys)
strict_bytes [] [] ax ay sub = inl refl
strict_bytes [] (y ∷ ys) ax ay sub = inr (omega arith)
strict_bytes (x ∷ xs) [] ax ay sub = absurd (sub x (inl refl))
strict_bytes (x ∷ xs) (y ∷ ys) ax ay sub = first (sub x (inl refl)) (λ h. strict_bytes xs ys ax.1 ay.1 h) (λ h. strict_bytes (x ∷ xs) ys ax ay.1 h) where
  not_y : (v : ℕ) → y < v → bytes.IsAmong v (y ∷ ys) → bytes.IsAmong v ys
  not_y v less (inl same) = absurd (omega arith)
  not_y v less (inr later) = later

  same_first : y ≡ x → (v : ℕ) → bytes.IsAmong v xs → bytes.IsAmong v ys
  same_first e v there = let less : x < v = ax.0 v there in not_y v (omega arith) (sub v (inr there))

  all_later : y < x → (v : ℕ) → bytes.IsAmong v (x ∷ xs) → bytes.IsAmong v ys
  all_later less v (inl same) = not_y v (omega arith) (sub v (inl same))
  all_later less v (inr there) = let more : x < v = ax.0 v there in not_y v (omega arith) (sub v (inr there))

  joined : y ≡ x → (xs ≡ ys) ⊎ (length xs < length ys) → (x ∷ xs ≡ y ∷ ys) ⊎ (length (x ∷ xs) < length (y ∷ ys))
  joined e (inl same) = inl (λ i. sym e i ∷ same i)
  joined e (inr less) = inr (omega arith)

  longer : (x ∷ xs ≡ ys) ⊎ (length (x ∷ xs) < length ys) → (x ∷ xs ≡ y ∷ ys) ⊎ (length (x ∷ xs) < length (y ∷ ys))
  longer (inl same) = let e : length (x ∷ xs) ≡ length ys = ap length same in inr (omega arith)
  longer (inr less) = inr (omega arith)

  first : bytes.IsAmong x (y ∷ ys) → (((v : ℕ) → bytes.IsAmong v xs → bytes.IsAmong v ys) → (xs ≡ ys) ⊎ (length xs < length ys)) →
      (((v : ℕ) → bytes.IsAmong v (x ∷ xs) → bytes.IsAmong v ys) → (x ∷ xs ≡ ys) ⊎ (length (x ∷ xs) < length ys)) → (x ∷ xs ≡ y ∷ ys) ⊎ (length (x ∷ xs) < length (y ∷ ys))
  first (inl same) shorter longer_list = joined same (shorter (same_first same))
  first (inr later) shorter longer_list = longer (longer_list (all_later (ay.0 x later)))

-- as many as there are numbers from a to n at most
bytes_bound : (a n : ℕ) (xs : List ℕ) → bytes.IsAscending xs → ((b : ℕ) → bytes.IsAmong b xs → a ≤ b) → ((b : ℕ) → bytes.IsAmong b xs → b < n) → length xs ≤ n - a
bytes_bound a n [] ascends above under = omega arith
bytes_bound a n (x ∷ xs) ascends above under =
    let low : a ≤ x = above x (inl refl) in
    let high : x < n = under x (inl refl) in
    let rest : length xs ≤ n - suc x = bytes_bound (suc x) n xs ascends.1 (λ b there. ascends.0 b there) (λ b there. under b (inr there)) in
    omega arith

abbrev pub filled_rank : Filled → ℕ
filled_rank All = 0
filled_rank (Bytes xs) = suc (4096 - length xs)

pub ranked_filled : IsRanked IsFilled FilledBelow filled_rank 4097
ranked_filled = record { bound = bound; rises = rises } where
  bound : (f : Filled) → IsFilled f → filled_rank f ≤ 4097
  bound All p = omega arith
  bound (Bytes xs) p = omega arith

  some_bytes : (xs ys : List ℕ) → length xs ≤ 4096 → (ys ≡ xs) ⊎ (length ys < length xs) → (Bytes xs ≡ Bytes ys) ⊎ (suc (4096 - length xs) < suc (4096 - length ys))
  some_bytes xs ys le (inl same) = inl (ap Bytes (sym same))
  some_bytes xs ys le (inr less) = inr (omega arith)

  rises : (f g : Filled) → IsFilled f → IsFilled g → FilledBelow f g → (f ≡ g) ⊎ (filled_rank f < filled_rank g)
  rises All All p q below = inl refl
  rises All (Bytes ys) p q below = inr (omega arith)
  rises (Bytes xs) All p q below = let m : 4096 < 4096 = p.1 4096 (below 4096 tt) in absurd (omega arith)
  rises (Bytes xs) (Bytes ys) p q below = some_bytes xs ys (bytes_bound 0 4096 xs p.0 (λ b there. omega arith) p.1) (strict_bytes ys xs q.0 p.0 below)
