-- Maps as lists of entries that ascend by key: look-ups, joins of what stands at a key, and their order.
use Rattle.std.specs.Prelude.{◌≡◌, ◌≤◌, Bool, true, false, cond, ◌&&◌, List, [], ◌∷◌, ◌++◌, ◌⊎◌, length, Option, Some, None}
use Rattle.std.proofs.Common.{refl, sym, ap, ◌∙◌, subst, arith, inl, inr, append-nil}
use Rattle.std.specs.List.{AllByRecursion}
use Rattle.std.specs.declared.cmp.Ordering.{Ordering}
use Rattle.std.specs.declared.cmp.Ordering.TheVariants.{Less, Equal, Greater}
use Rattle.std.specs.Ordering.{is_eq, match_ordering, ordering_reverse}
use Rattle.std.specs.Cmp.{IsTotalOrder, tied_itself}
use Rattle.std.specs.Bool.{Decides}
use Rattle.std.proofs.lemmas.Bool.Decides.{Decides-and}
use Rattle.po_lists.proofs.Orders.{equal_where_tested}
use Rattle.po_bases.specs.General.{IsJoin, IfThere, BelowFromNone, either_join, from_none}

-- what both maps have, and the join where both have an entry of one key; `order` compares the keys of two entries
module _ {E : Type 0} (order : E → E → Ordering) (join : E → E → E) where
  abbrev merged_with : E → (List E → List E) → List E → List E
  merged_with x rest [] = x ∷ rest []
  merged_with x rest (y ∷ ys) = match_ordering (order x y) (x ∷ rest (y ∷ ys)) (join x y ∷ rest ys) (y ∷ merged_with x rest ys)

  abbrev pub merged : List E → List E → List E
  merged [] = λ ys. ys
  merged (x ∷ xs) = merged_with x (merged xs)

  merged-nothing : (xs : List E) → merged xs [] ≡ xs
  merged-nothing [] = refl
  merged-nothing (x ∷ xs) = ap (λ ys. x ∷ ys) (merged-nothing xs)

  -- where one of the maps is at its end, the rest of the other follows
  pub merged_at_end : (xs ys : List E) → (xs ≡ []) ⊎ (ys ≡ []) → merged xs ys ≡ xs ++ ys
  merged_at_end xs ys (inl none) = rw none refl
  merged_at_end xs ys (inr none) = rw none (merged-nothing xs ∙ sym (append-nil xs))

-- whether each entry of the first map has one in the second that it is below
module _ {E : Type 0} (order : E → E → Ordering) (below : E → E → Bool) where
  abbrev pub covered : List E → List E → Bool
  covered [] ys = true
  covered (x ∷ xs) [] = false
  covered (x ∷ xs) (y ∷ ys) = match_ordering (order x y) false (below x y && covered xs ys) (covered (x ∷ xs) ys)

module _ {E K : Type 0} (key : E → K) (cmp : K → K → Ordering) where
  -- the entry of a key
  abbrev pub find : List E → K → Option E
  find [] k = None
  find (x ∷ xs) k = cond (is_eq (cmp (key x) k)) (Some x) (find xs k)

  abbrev pub by_key : E → E → Ordering
  by_key x y = cmp (key x) (key y)

  -- the keys ascend
  abbrev pub AreAfter : K → List E → Type 0
  AreAfter k xs = AllByRecursion (λ y. cmp k (key y) ≡ Less) xs

  abbrev pub IsAscending : List E → Type 0
  IsAscending [] = Unit {0}
  IsAscending (x ∷ xs) = AreAfter (key x) xs × IsAscending xs

  abbrev pub IsMap : (E → Type 0) → List E → Type 0
  IsMap Form xs = IsAscending xs × AllByRecursion Form xs

  -- at each key
  abbrev pub MapBelow : (E → E → Type 0) → List E → List E → Type 0
  MapBelow B xs ys = (k : K) → BelowFromNone B (find xs k) (find ys k)

-- what holds of each choice by an answer of a comparison
pub by_order : {X : Type 0} (P : X → Type 0) (o : Ordering) (a b c : X) → (o ≡ Less → P a) → (o ≡ Equal → P b) → (o ≡ Greater → P c) → P (match_ordering o a b c)
by_order P Less a b c f g h = f refl
by_order P Equal a b c f g h = g refl
by_order P Greater a b c f g h = h refl

pub by_ordering : (o : Ordering) (P : Type 0) → (o ≡ Less → P) → (o ≡ Equal → P) → (o ≡ Greater → P) → P
by_ordering Less P f g h = f refl
by_ordering Equal P f g h = g refl
by_ordering Greater P f g h = h refl

module _ {E K : Type 0} (key : E → K) (cmp : K → K → Ordering) (total : IsTotalOrder cmp) (one : (k l : K) → cmp k l ≡ Equal → k ≡ l) where
  less_turned : (k l : K) → cmp k l ≡ Less → cmp l k ≡ Greater
  less_turned k l h = total.antisymm l k ∙ ap ordering_reverse h

  greater_turned : (k l : K) → cmp k l ≡ Greater → cmp l k ≡ Less
  greater_turned k l h = total.antisymm l k ∙ ap ordering_reverse h

  after_lower : (k l : K) → cmp k l ≡ Less → (xs : List E) → AreAfter key cmp l xs → AreAfter key cmp k xs
  after_lower k l h [] after = tt
  after_lower k l h (x ∷ xs) after = (total.trans k l (key x) h after.0, after_lower k l h xs after.1)

  pub itself_found : (x : E) (xs : List E) → find key cmp (x ∷ xs) (key x) ≡ Some x
  itself_found x xs = rw (tied_itself total (key x)) refl

  absent : (k : K) (xs : List E) → AreAfter key cmp k xs → find key cmp xs k ≡ None
  absent k [] after = refl
  absent k (y ∷ ys) after =
      let turned : cmp (key y) k ≡ Greater = less_turned k (key y) after.0 in
      rw turned (absent k ys after.1)

  absent_at : (k l : K) (xs : List E) → AreAfter key cmp l xs → is_eq (cmp l k) ≡ true → find key cmp xs k ≡ None
  absent_at k l xs after same = absent k xs (subst (λ v. AreAfter key cmp v xs) (one l k (equal_where_tested (cmp l k) same)) after)

  -- ---- maps with the same look-ups are the same

  rest_same : (x y : E) (b c : Bool) (m n : Option E) → b ≡ c → cond b (Some x) m ≡ cond c (Some y) n → (b ≡ true → m ≡ None) → (c ≡ true → n ≡ None) → m ≡ n
  rest_same x y true true m n same h mx ny = mx refl ∙ sym (ny refl)
  rest_same x y true false m n same h mx ny = cc
  rest_same x y false true m n same h mx ny = cc
  rest_same x y false false m n same h mx ny = h

  same_by : (o : Ordering) (x y : E) (xs ys : List E) → cmp (key x) (key y) ≡ o →
      AreAfter key cmp (key x) xs → AreAfter key cmp (key y) ys → ((k : K) → find key cmp (x ∷ xs) k ≡ find key cmp (y ∷ ys) k) →
      (((k : K) → find key cmp xs k ≡ find key cmp ys k) → xs ≡ ys) → x ∷ xs ≡ y ∷ ys
  same_by Less x y xs ys h ax ay same rest =
      let e : Some x ≡ None = sym (itself_found x xs) ∙ same (key x) ∙ absent (key x) (y ∷ ys) (h, after_lower (key x) (key y) h ys ay) in
      cc
  same_by Equal x y xs ys h ax ay same rest =
      let keys : key x ≡ key y = one (key x) (key y) h in
      let there : find key cmp (y ∷ ys) (key x) ≡ Some y = subst (λ k. find key cmp (y ∷ ys) k ≡ Some y) (sym keys) (itself_found y ys) in
      let first : Some x ≡ Some y = sym (itself_found x xs) ∙ same (key x) ∙ there in
      let equal : x ≡ y = cc in
      let others : xs ≡ ys = rest (λ k. rest_same x y (is_eq (cmp (key x) k)) (is_eq (cmp (key y) k)) (find key cmp xs k) (find key cmp ys k)
      (ap (λ v. is_eq (cmp v k)) keys) (same k) (absent_at k (key x) xs ax) (absent_at k (key y) ys ay)) in
      λ i. equal i ∷ others i
  same_by Greater x y xs ys h ax ay same rest =
      let turned : cmp (key y) (key x) ≡ Less = greater_turned (key x) (key y) h in
      let e : Some y ≡ None = sym (itself_found y ys) ∙ sym (same (key y)) ∙ absent (key y) (x ∷ xs) (turned, after_lower (key y) (key x) turned xs ax) in
      cc

  pub same_found : (xs ys : List E) → IsAscending key cmp xs → IsAscending key cmp ys → ((k : K) → find key cmp xs k ≡ find key cmp ys k) → xs ≡ ys
  same_found [] [] ax ay same = refl
  same_found [] (y ∷ ys) ax ay same = let e : None ≡ Some y = same (key y) ∙ itself_found y ys in cc
  same_found (x ∷ xs) [] ax ay same = let e : None ≡ Some x = sym (same (key x)) ∙ itself_found x xs in cc
  same_found (x ∷ xs) (y ∷ ys) ax ay same = same_by (cmp (key x) (key y)) x y xs ys refl ax.0 ay.0 same (same_found xs ys ax.1 ay.1)

  -- ---- the join

  module _ (join : E → E → E) (keeps : (x y : E) → key (join x y) ≡ key x) where
    found_less : (b : Bool) (x : E) (m n l : Option E) → m ≡ either_join join n l → (b ≡ true → l ≡ None) → cond b (Some x) m ≡ either_join join (cond b (Some x) n) l
    found_less true x m n l h none = rw (none refl) refl
    found_less false x m n l h none = h

    found_equal : (a b c : Bool) (x y : E) (m n l : Option E) → a ≡ b → b ≡ c → m ≡ either_join join n l →
        cond a (Some (join x y)) m ≡ either_join join (cond b (Some x) n) (cond c (Some y) l)
    found_equal true true true x y m n l ab bc h = refl
    found_equal true true false x y m n l ab bc h = cc
    found_equal true false c x y m n l ab bc h = cc
    found_equal false true c x y m n l ab bc h = cc
    found_equal false false true x y m n l ab bc h = cc
    found_equal false false false x y m n l ab bc h = h

    found_greater : (c : Bool) (y : E) (m n l : Option E) → m ≡ either_join join n l → (c ≡ true → n ≡ None) → cond c (Some y) m ≡ either_join join n (cond c (Some y) l)
    found_greater true y m n l h none = rw (none refl) refl
    found_greater false y m n l h none = h

    found_with : (x : E) (xs : List E) (rest : List E → List E) → AreAfter key cmp (key x) xs →
        ((ys : List E) → IsAscending key cmp ys → (k : K) → find key cmp (rest ys) k ≡ either_join join (find key cmp xs k) (find key cmp ys k)) →
        (ys : List E) → IsAscending key cmp ys → (k : K) →
        find key cmp (merged_with (by_key key cmp) join x rest ys) k ≡ either_join join (find key cmp (x ∷ xs) k) (find key cmp ys k)
    found_with x xs rest ax in_rest [] ay k = found_less (is_eq (cmp (key x) k)) x (find key cmp (rest []) k) (find key cmp xs k) None (in_rest [] tt k) (λ h. refl)
    found_with x xs rest ax in_rest (y ∷ ys) ay k =
        by_order (λ zs. find key cmp zs k ≡ either_join join (find key cmp (x ∷ xs) k) (find key cmp (y ∷ ys) k)) (cmp (key x) (key y)) _ _ _
        (λ h. found_less (is_eq (cmp (key x) k)) x (find key cmp (rest (y ∷ ys)) k) (find key cmp xs k) (find key cmp (y ∷ ys) k) (in_rest (y ∷ ys) ay k)
        (absent_at k (key x) (y ∷ ys) (h, after_lower (key x) (key y) h ys ay.0)))
        (λ h. found_equal (is_eq (cmp (key (join x y)) k)) (is_eq (cmp (key x) k)) (is_eq (cmp (key y) k)) x y (find key cmp (rest ys) k) (find key cmp xs k) (find key cmp ys k)
        (ap (λ v. is_eq (cmp v k)) (keeps x y)) (ap (λ v. is_eq (cmp v k)) (one (key x) (key y) h)) (in_rest ys ay.1 k))
        (λ h. let turned = greater_turned (key x) (key y) h in
        found_greater (is_eq (cmp (key y) k)) y (find key cmp (merged_with (by_key key cmp) join x rest ys) k) (find key cmp (x ∷ xs) k) (find key cmp ys k)
        (found_with x xs rest ax in_rest ys ay.1 k) (absent_at k (key y) (x ∷ xs) (turned, after_lower (key y) (key x) turned xs ax)))

    pub find-merged : (xs ys : List E) → IsAscending key cmp xs → IsAscending key cmp ys → (k : K) →
        find key cmp (merged (by_key key cmp) join xs ys) k ≡ either_join join (find key cmp xs k) (find key cmp ys k)
    find-merged [] ys ax ay k = refl
    find-merged (x ∷ xs) ys ax ay k = found_with x xs (merged (by_key key cmp) join xs) ax.0 (λ zs az l. find-merged xs zs ax.1 az l) ys ay k

    after_with : (x : E) (rest : List E → List E) (k : K) → cmp k (key x) ≡ Less → ((ys : List E) → AreAfter key cmp k ys → AreAfter key cmp k (rest ys)) →
        (ys : List E) → AreAfter key cmp k ys → AreAfter key cmp k (merged_with (by_key key cmp) join x rest ys)
    after_with x rest k h in_rest [] ay = (h, in_rest [] tt)
    after_with x rest k h in_rest (y ∷ ys) ay =
        by_order (AreAfter key cmp k) (cmp (key x) (key y)) _ _ _
        (λ o. (h, in_rest (y ∷ ys) ay))
        (λ o. (ap (cmp k) (keeps x y) ∙ h, in_rest ys ay.1))
        (λ o. (ay.0, after_with x rest k h in_rest ys ay.1))

    merged_after : (k : K) (xs : List E) → AreAfter key cmp k xs → (ys : List E) → AreAfter key cmp k ys → AreAfter key cmp k (merged (by_key key cmp) join xs ys)
    merged_after k [] ax ys ay = ay
    merged_after k (x ∷ xs) ax ys ay = after_with x (merged (by_key key cmp) join xs) k ax.0 (merged_after k xs ax.1) ys ay

    ascending_with : (x : E) (xs : List E) → AreAfter key cmp (key x) xs → ((ys : List E) → IsAscending key cmp ys → IsAscending key cmp (merged (by_key key cmp) join xs ys)) →
        (ys : List E) → IsAscending key cmp ys → IsAscending key cmp (merged_with (by_key key cmp) join x (merged (by_key key cmp) join xs) ys)
    ascending_with x xs ax in_rest [] ay = (merged_after (key x) xs ax [] tt, in_rest [] tt)
    ascending_with x xs ax in_rest (y ∷ ys) ay =
        by_order (IsAscending key cmp) (cmp (key x) (key y)) _ _ _
        (λ h. (merged_after (key x) xs ax (y ∷ ys) (h, after_lower (key x) (key y) h ys ay.0), in_rest (y ∷ ys) ay))
        (λ h. (
          subst (λ k. AreAfter key cmp k (merged (by_key key cmp) join xs ys)) (sym (keeps x y))
              (merged_after (key x) xs ax ys (subst (λ k. AreAfter key cmp k ys) (sym (one (key x) (key y) h)) ay.0)),
          in_rest ys ay.1,
        ))
        (λ h. let turned = greater_turned (key x) (key y) h in
        (merged_after (key y) (x ∷ xs) (turned, after_lower (key y) (key x) turned xs ax) ys ay.0, ascending_with x xs ax in_rest ys ay.1))

    pub merged_ascending : (xs ys : List E) → IsAscending key cmp xs → IsAscending key cmp ys → IsAscending key cmp (merged (by_key key cmp) join xs ys)
    merged_ascending [] ys ax ay = ay
    merged_ascending (x ∷ xs) ys ax ay = ascending_with x xs ax.0 (λ zs az. merged_ascending xs zs ax.1 az) ys ay

    forms_with : (Form : E → Type 0) → ((x y : E) → key x ≡ key y → Form x → Form y → Form (join x y)) → (x : E) (rest : List E → List E) → Form x →
        ((ys : List E) → AllByRecursion Form ys → AllByRecursion Form (rest ys)) →
        (ys : List E) → AllByRecursion Form ys → AllByRecursion Form (merged_with (by_key key cmp) join x rest ys)
    forms_with Form stays x rest fx in_rest [] fy = (fx, in_rest [] tt)
    forms_with Form stays x rest fx in_rest (y ∷ ys) fy =
        by_order (AllByRecursion Form) (cmp (key x) (key y)) _ _ _
        (λ h. (fx, in_rest (y ∷ ys) fy))
        (λ h. (stays x y (one (key x) (key y) h) fx fy.0, in_rest ys fy.1))
        (λ h. (fy.0, forms_with Form stays x rest fx in_rest ys fy.1))

    pub merged_forms : (Form : E → Type 0) → ((x y : E) → key x ≡ key y → Form x → Form y → Form (join x y)) →
        (xs ys : List E) → AllByRecursion Form xs → AllByRecursion Form ys → AllByRecursion Form (merged (by_key key cmp) join xs ys)
    merged_forms Form stays [] ys fx fy = fy
    merged_forms Form stays (x ∷ xs) ys fx fy = forms_with Form stays x (merged (by_key key cmp) join xs) fx.0 (λ zs fz. merged_forms Form stays xs zs fx.1 fz) ys fy

  -- ---- the order

  module _ (B : E → E → Type 0) where
    rest_below : (x y : E) (b c : Bool) (m n : Option E) → b ≡ c → BelowFromNone B (cond b (Some x) m) (cond c (Some y) n) → (b ≡ true → m ≡ None) → BelowFromNone B m n
    rest_below x y true c m n same h none = rw (none refl) tt
    rest_below x y false true m n same h none = cc
    rest_below x y false false m n same h none = h

    more_below : (x y : E) (b c : Bool) (m n : Option E) → b ≡ c → B x y → BelowFromNone B m n → BelowFromNone B (cond b (Some x) m) (cond c (Some y) n)
    more_below x y true true m n same first h = first
    more_below x y true false m n same first h = cc
    more_below x y false true m n same first h = cc
    more_below x y false false m n same first h = h

    skipped_below : (y : E) (c : Bool) (m n : Option E) → BelowFromNone B m n → (c ≡ true → m ≡ None) → BelowFromNone B m (cond c (Some y) n)
    skipped_below y true m n h none = rw (none refl) tt
    skipped_below y false m n h none = h

    unskipped_below : (y : E) (c : Bool) (m n : Option E) → BelowFromNone B m (cond c (Some y) n) → (c ≡ true → m ≡ None) → BelowFromNone B m n
    unskipped_below y true m n h none = rw (none refl) tt
    unskipped_below y false m n h none = h

    nothing_below : (x : E) (m n : Option E) → m ≡ Some x → n ≡ None → BelowFromNone B m n → ⊥
    nothing_below x m n there none h = let at : BelowFromNone B (Some x) None = rw (there, none) at h in at

    -- the first keys of both are the same, the second's is lesser, or the first's is
    pub below_same : (x y : E) (xs ys : List E) → cmp (key x) (key y) ≡ Equal → AreAfter key cmp (key x) xs →
        MapBelow key cmp B (x ∷ xs) (y ∷ ys) → B x y × MapBelow key cmp B xs ys
    below_same x y xs ys h ax below =
        let keys : key x ≡ key y = one (key x) (key y) h in
        let there : find key cmp (y ∷ ys) (key x) ≡ Some y = subst (λ k. find key cmp (y ∷ ys) k ≡ Some y) (sym keys) (itself_found y ys) in (
          subst (λ m. BelowFromNone B m (Some y)) (itself_found x xs) (subst (λ n. BelowFromNone B (find key cmp (x ∷ xs) (key x)) n) there (below (key x))),
          λ k. rest_below x y (is_eq (cmp (key x) k)) (is_eq (cmp (key y) k)) (find key cmp xs k) (find key cmp ys k)
              (ap (λ v. is_eq (cmp v k)) keys) (below k) (absent_at k (key x) xs ax),
        )

    pub same_below : (x y : E) (xs ys : List E) → cmp (key x) (key y) ≡ Equal → B x y → MapBelow key cmp B xs ys → MapBelow key cmp B (x ∷ xs) (y ∷ ys)
    same_below x y xs ys h first below k =
        more_below x y (is_eq (cmp (key x) k)) (is_eq (cmp (key y) k)) (find key cmp xs k) (find key cmp ys k)
        (ap (λ v. is_eq (cmp v k)) (one (key x) (key y) h)) first (below k)

    none_before : (x y : E) (xs : List E) → cmp (key x) (key y) ≡ Greater → AreAfter key cmp (key x) xs → (k : K) → is_eq (cmp (key y) k) ≡ true → find key cmp (x ∷ xs) k ≡ None
    none_before x y xs h ax k =
        let turned = greater_turned (key x) (key y) h in
        absent_at k (key y) (x ∷ xs) (turned, after_lower (key y) (key x) turned xs ax)

    pub below_skipped : (x y : E) (xs ys : List E) → cmp (key x) (key y) ≡ Greater → AreAfter key cmp (key x) xs →
        MapBelow key cmp B (x ∷ xs) (y ∷ ys) → MapBelow key cmp B (x ∷ xs) ys
    below_skipped x y xs ys h ax below k = unskipped_below y (is_eq (cmp (key y) k)) (find key cmp (x ∷ xs) k) (find key cmp ys k) (below k) (none_before x y xs h ax k)

    pub skipped : (x y : E) (xs ys : List E) → cmp (key x) (key y) ≡ Greater → AreAfter key cmp (key x) xs →
        MapBelow key cmp B (x ∷ xs) ys → MapBelow key cmp B (x ∷ xs) (y ∷ ys)
    skipped x y xs ys h ax below k = skipped_below y (is_eq (cmp (key y) k)) (find key cmp (x ∷ xs) k) (find key cmp ys k) (below k) (none_before x y xs h ax k)

    pub not_below : (x : E) (xs ys : List E) → AreAfter key cmp (key x) ys → MapBelow key cmp B (x ∷ xs) ys → ⊥
    not_below x xs ys ay below = nothing_below x (find key cmp (x ∷ xs) (key x)) (find key cmp ys (key x)) (itself_found x xs) (absent (key x) ys ay) (below (key x))

    pub first_not_below : (x y : E) (xs ys : List E) → cmp (key x) (key y) ≡ Less → AreAfter key cmp (key y) ys → MapBelow key cmp B (x ∷ xs) (y ∷ ys) → ⊥
    first_not_below x y xs ys h ay = not_below x xs (y ∷ ys) (h, after_lower (key x) (key y) h ys ay)

    -- a lesser map has no more keys
    shorter_with : (x : E) (xs : List E) → AreAfter key cmp (key x) xs → ((ys : List E) → IsAscending key cmp ys → MapBelow key cmp B xs ys → length xs ≤ length ys) →
        (ys : List E) → IsAscending key cmp ys → MapBelow key cmp B (x ∷ xs) ys → length (x ∷ xs) ≤ length ys
    shorter_with x xs ax rest [] ay below = absurd (not_below x xs [] tt below)
    shorter_with x xs ax rest (y ∷ ys) ay below =
        by_ordering (cmp (key x) (key y)) (length (x ∷ xs) ≤ length (y ∷ ys))
        (λ h. absurd (first_not_below x y xs ys h ay.0 below))
        (λ h. let k = rest ys ay.1 (below_same x y xs ys h ax below).1 in omega arith)
        (λ h. let k = shorter_with x xs ax rest ys ay.1 (below_skipped x y xs ys h ax below) in omega arith)

    pub shorter : (xs ys : List E) → IsAscending key cmp xs → IsAscending key cmp ys → MapBelow key cmp B xs ys → length xs ≤ length ys
    shorter [] ys ax ay below = omega arith
    shorter (x ∷ xs) ys ax ay below = shorter_with x xs ax.0 (λ zs az. shorter xs zs ax.1 az) ys ay below

  -- ---- the walk over both tells the order

  module _ (B : E → E → Type 0) (below : E → E → Bool) (Form : E → Type 0) (tells : (x y : E) → Form x → Form y → Decides (below x y) (B x y)) where
    decided : (o : Ordering) (P : Type 0) (f g h : Bool) → (o ≡ Less → Decides f P) → (o ≡ Equal → Decides g P) → (o ≡ Greater → Decides h P) → Decides (match_ordering o f g h) P
    decided Less P f g h less equal greater = less refl
    decided Equal P f g h less equal greater = equal refl
    decided Greater P f g h less equal greater = greater refl

    covered_with : (x : E) (xs : List E) → AreAfter key cmp (key x) xs → Form x →
        ((ys : List E) → IsMap key cmp Form ys → Decides (covered (by_key key cmp) below xs ys) (MapBelow key cmp B xs ys)) →
        (ys : List E) → IsMap key cmp Form ys → Decides (covered (by_key key cmp) below (x ∷ xs) ys) (MapBelow key cmp B (x ∷ xs) ys)
    covered_with x xs ax fx rest [] map = (λ h. cc, λ h. absurd (not_below B x xs [] tt h))
    covered_with x xs ax fx rest (y ∷ ys) map =
        let ay = map.0 in
        let fy = map.1 in
        decided (cmp (key x) (key y)) (MapBelow key cmp B (x ∷ xs) (y ∷ ys)) _ _ _
        (λ h. (λ no_test. cc, λ b. absurd (first_not_below B x y xs ys h ay.0 b)))
        (λ h.
        let both = Decides-and (below x y) (covered (by_key key cmp) below xs ys) (tells x y fx fy.0) (rest ys (ay.1, fy.1)) in
        (λ t. let p = both.0 t in same_below B x y xs ys h p.0 p.1, λ b. both.1 (below_same B x y xs ys h ax b)))
        (λ h.
        let later = covered_with x xs ax fx rest ys (ay.1, fy.1) in
        (λ t. skipped B x y xs ys h ax (later.0 t), λ b. later.1 (below_skipped B x y xs ys h ax b)))

    pub covered_tells : (xs ys : List E) → IsMap key cmp Form xs → IsMap key cmp Form ys → Decides (covered (by_key key cmp) below xs ys) (MapBelow key cmp B xs ys)
    covered_tells [] ys mx my = (λ h k. tt, λ h. refl)
    covered_tells (x ∷ xs) ys mx my = covered_with x xs mx.0.0 mx.1.0 (λ zs mz. covered_tells xs zs (mx.0.1, mx.1.1) mz) ys my

  -- ---- maps are ordered as their entries are, key by key

  module _ (B : E → E → Type 0) (join : E → E → E) (keeps : (x y : E) → key (join x y) ≡ key x) (Form : E → Type 0)
      (at_key : (k : K) → IsJoin (λ e. (key e ≡ k) × Form e) B join) where
    found_in : (x : E) (n : Option E) (k : K) (b : Bool) → is_eq (cmp (key x) k) ≡ b → Form x → IfThere (λ e. (key e ≡ k) × Form e) n → IfThere (λ e. (key e ≡ k) × Form e) (cond b (Some x) n)
    found_in x n k true h fx rest = (one (key x) k (equal_where_tested (cmp (key x) k) h), fx)
    found_in x n k false h fx rest = rest

    pub found_form : (xs : List E) → AllByRecursion Form xs → (k : K) → IfThere (λ e. (key e ≡ k) × Form e) (find key cmp xs k)
    found_form [] fx k = tt
    found_form (x ∷ xs) fx k = found_in x (find key cmp xs k) k (is_eq (cmp (key x) k)) refl fx.0 (found_form xs fx.1 k)

    option_at : (k : K) → IsJoin (IfThere (λ e. (key e ≡ k) × Form e)) (BelowFromNone B) (either_join join)
    option_at k = from_none (at_key k)

    form_stays : (x y : E) → key x ≡ key y → Form x → Form y → Form (join x y)
    form_stays x y same fx fy = ((at_key (key y)).stays x y (same, fx) (refl, fy)).1

    pub maps : IsJoin (IsMap key cmp Form) (MapBelow key cmp B) (merged (by_key key cmp) join)
    maps = record {
      stays = λ x y px py. (merged_ascending join keeps x y px.0 py.0, merged_forms join keeps Form form_stays x y px.1 py.1);
      itself = λ x px k. (option_at k).itself (find key cmp x k) (found_form x px.1 k);
      through = λ x y z px py pz h l k.
          (option_at k).through (find key cmp x k) (find key cmp y k) (find key cmp z k) (found_form x px.1 k) (found_form y py.1 k) (found_form z pz.1 k) (h k) (l k);
      apart = λ x y px py h l. same_found x y px.0 py.0
          (λ k. (option_at k).apart (find key cmp x k) (find key cmp y k) (found_form x px.1 k) (found_form y py.1 k) (h k) (l k));
      left = λ x y px py k. subst (BelowFromNone B (find key cmp x k)) (sym (find-merged join keeps x y px.0 py.0 k))
          ((option_at k).left (find key cmp x k) (find key cmp y k) (found_form x px.1 k) (found_form y py.1 k));
      right = λ x y px py k. subst (BelowFromNone B (find key cmp y k)) (sym (find-merged join keeps x y px.0 py.0 k))
          ((option_at k).right (find key cmp x k) (find key cmp y k) (found_form x px.1 k) (found_form y py.1 k));
      least = λ x y z px py pz h l k. subst (λ m. BelowFromNone B m (find key cmp z k)) (sym (find-merged join keeps x y px.0 py.0 k))
          ((option_at k).least (find key cmp x k) (find key cmp y k) (find key cmp z k) (found_form x px.1 k) (found_form y py.1 k) (found_form z pz.1 k) (h k) (l k));
    }
