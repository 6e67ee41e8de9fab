-- What is kept by its name stays so, entry by entry.
use Rattle.std.proofs.Common.{◌≡◌, ◌≢◌, ◌⊎◌, Bool, true, false, cond, ℕ, zero, suc, ◌+◌, ◌-◌, ◌<◌, ◌≤◌, List, [], ◌∷◌, ◌++◌, length, length-append, length-set, append-nil, get_or, refl, sym, ap, ◌∙◌, subst, arith, inl, inr, take, drop}
use Rattle.std.specs.Prelude.{Option, Some, None, MatchOption, slice_get, slice_set}
use Rattle.std.specs.Option.{unwrap_or}
use Rattle.std.proofs.Math.Seq.{take-append_seam, get_or-append_seam}
use Rattle.std.proofs.lemmas.Bool.{cases_eq}
use Rattle.std.proofs.lemmas.List.{get_or_append_left, take-append-le, take-append-drop, length-take-le}
use Rattle.std.proofs.lemmas.Option.{get_or_from_slice_get, unwrap_or-slice_get}
use Rattle.std.proofs.lemmas.Slice.Eq.{bytes_eq-Decides}
use Rattle.po_lists.proofs.Places.{item_at, set_here, set_elsewhere}
use Rattle.po_lists.proofs.Options.{one_some, none_or_some}
use Rattle.po_lowering.specs.declared.var.Var.{Var}
use Rattle.po_lowering.specs.Naming.{Scope, is_same, either, found}
use Rattle.po_types.specs.Tables.{found as number_of}
use Rattle.po_lower_names.specs.Indexed.{variables_of, last_of, IsIndexed}

-- ---- names

text_cases : (a b : List ℕ) → (a ≡ b) ⊎ (is_same a b ≡ false)
text_cases a b = by_test (is_same a b) refl
  where
    by_test : (t : Bool) → is_same a b ≡ t → (a ≡ b) ⊎ (is_same a b ≡ false)
    by_test true q = inl ((bytes_eq-Decides a b).0 q)
    by_test false q = inr q

same_self : (a : List ℕ) → is_same a a ≡ true
same_self a = (bytes_eq-Decides a a).1 refl

other : (a b : List ℕ) → (a ≡ b → ⊥) → is_same a b ≡ false
other a b n = elim (text_cases a b) [ inl s ↦ absurd (n s) | inr f ↦ f ]

-- ---- the variables of a name

variables_push : (name : List ℕ) (entries : Scope) (o : List ℕ) (v : Var) → variables_of name (entries ++ (o, v) ∷ []) ≡ variables_of name entries ++ cond (is_same name o) (v ∷ []) []
variables_push name [] o v = refl
variables_push name ((p, w) ∷ rest) o v = by_test (is_same name p) (variables_push name rest o v)
  where
    by_test : (b : Bool) → variables_of name (rest ++ (o, v) ∷ []) ≡ variables_of name rest ++ cond (is_same name o) (v ∷ []) [] →
        cond b (w ∷ variables_of name (rest ++ (o, v) ∷ [])) (variables_of name (rest ++ (o, v) ∷ [])) ≡ cond b (w ∷ variables_of name rest) (variables_of name rest) ++ cond (is_same name o) (v ∷ []) []
    by_test true q = ap (λ z. w ∷ z) q
    by_test false q = q

pub pushed_same : (a name : List ℕ) (entries : Scope) (v : Var) → a ≡ name → variables_of a (entries ++ (name, v) ∷ []) ≡ variables_of name entries ++ v ∷ []
pushed_same a name entries v q =
    ap (λ z. variables_of z (entries ++ (name, v) ∷ [])) q ∙ variables_push name entries name v ∙ ap (λ b. variables_of name entries ++ cond b (v ∷ []) []) (same_self name)

pub pushed_other : (a name : List ℕ) (entries : Scope) (v : Var) → (a ≡ name → ⊥) → variables_of a (entries ++ (name, v) ∷ []) ≡ variables_of a entries
pushed_other a name entries v n = variables_push a entries name v ∙ ap (λ b. variables_of a entries ++ cond b (v ∷ []) []) (other a name n) ∙ append-nil (variables_of a entries)

either_none : (o : Option Var) → either o None ≡ o
either_none None = refl
either_none (Some v) = refl

-- the variable that a name names is the last one of the name
pub found_last : (name : List ℕ) (entries : Scope) → found name entries ≡ last_of (variables_of name entries)
found_last name [] = refl
found_last name ((p, w) ∷ rest) = by_test (is_same name p) (found_last name rest)
  where
    by_test : (b : Bool) → found name rest ≡ last_of (variables_of name rest) → either (found name rest) (cond b (Some w) None) ≡ last_of (cond b (w ∷ variables_of name rest) (variables_of name rest))
    by_test true q = ap (λ o. either o (Some w)) q
    by_test false q = either_none (found name rest) ∙ q

last_get : (vs : List Var) (n : ℕ) → length vs ≡ suc n → slice_get vs n ≡ last_of vs
last_get [] n q = absurd (omega (arith, q))
last_get (v ∷ []) zero q = refl
last_get (v ∷ []) (suc n) q = absurd (omega (arith, q))
last_get (v ∷ w ∷ ws) zero q = absurd (omega (arith, q))
last_get (v ∷ w ∷ ws) (suc n) q = last_get (w ∷ ws) n (omega (arith, q)) ∙ there (last_of ws)
  where
    there : (o : Option Var) → either o (Some w) ≡ either (either o (Some w)) (Some v)
    there None = refl
    there (Some x) = refl

pub last_read : (vs : List Var) (n : ℕ) (d : Var) → length vs ≡ n + 1 → Some (get_or vs n d) ≡ last_of vs
last_read vs n d q =
    let at = item_at vs n (omega (arith, q)) in
    ap Some (get_or_from_slice_get vs n at.0 d at.1) ∙ sym at.1 ∙ last_get vs n (omega (arith, q))

pub snoc_front : {X : Type 0} (xs ys : List X) (a b : X) → xs ++ a ∷ [] ≡ ys ++ b ∷ [] → xs ≡ ys
snoc_front xs ys a b q =
    let size : length xs ≡ length ys = omega (arith, ap length q, length-append xs (a ∷ []), length-append ys (b ∷ [])) in
    sym (take-append_seam xs (a ∷ [])) ∙ ap (take (length xs)) q ∙ ap (λ n. take n (ys ++ b ∷ [])) size ∙ take-append_seam ys (b ∷ [])

pub snoc_none : {X : Type 0} (xs : List X) (a : X) → xs ++ a ∷ [] ≡ [] → ⊥
snoc_none xs a q = omega (arith, ap length q, length-append xs (a ∷ []))

-- ---- numbers of names

pub numbered_cases : (numbers : List (List ℕ × ℕ)) (name : List ℕ) (k : ℕ) (a : List ℕ) (j : ℕ) → number_of (numbers ++ (name, k) ∷ []) a ≡ Some j → (number_of numbers a ≡ Some j) ⊎ ((a ≡ name) × (j ≡ k))
numbered_cases [] name k a j q = elim (text_cases a name) [
  | inl same ↦ inr (same, one_some q (ap (λ z. cond (is_same z name) (Some k) None) same ∙ ap (λ b. cond b (Some k) None) (same_self name)))
  | inr f ↦ absurd (none_or_some _ j (ap (λ b. cond b (Some k) None) f) q)
]
numbered_cases ((p, n) ∷ rest) name k a j q = by_test (is_same a p) (numbered_cases rest name k a j) q
  where
    by_test : (b : Bool) → (number_of (rest ++ (name, k) ∷ []) a ≡ Some j → (number_of rest a ≡ Some j) ⊎ ((a ≡ name) × (j ≡ k))) → cond b (Some n) (number_of (rest ++ (name, k) ∷ []) a) ≡ Some j → (cond b (Some n) (number_of rest a) ≡ Some j) ⊎ ((a ≡ name) × (j ≡ k))
    by_test true f e = inl e
    by_test false f e = f e

none_before : (numbers : List (List ℕ × ℕ)) (name : List ℕ) (k : ℕ) (a : List ℕ) → number_of (numbers ++ (name, k) ∷ []) a ≡ None → number_of numbers a ≡ None
none_before [] name k a q = refl
none_before ((p, n) ∷ rest) name k a q = by_test (is_same a p) (none_before rest name k a) q
  where
    by_test : (b : Bool) → (number_of (rest ++ (name, k) ∷ []) a ≡ None → number_of rest a ≡ None) → cond b (Some n) (number_of (rest ++ (name, k) ∷ []) a) ≡ None → cond b (Some n) (number_of rest a) ≡ None
    by_test true f e = e
    by_test false f e = f e

pub numbered_there : (numbers : List (List ℕ × ℕ)) (name : List ℕ) (k : ℕ) → number_of numbers name ≡ None → number_of (numbers ++ (name, k) ∷ []) name ≡ Some k
numbered_there [] name k q = ap (λ b. cond b (Some k) None) (same_self name)
numbered_there ((p, n) ∷ rest) name k q = by_test (is_same name p) (numbered_there rest name k) q
  where
    by_test : (b : Bool) → (number_of rest name ≡ None → number_of (rest ++ (name, k) ∷ []) name ≡ Some k) → cond b (Some n) (number_of rest name) ≡ None → cond b (Some n) (number_of (rest ++ (name, k) ∷ []) name) ≡ Some k
    by_test true f e = absurd (cc)
    by_test false f e = f e

-- ---- what is kept at a number

kept_here : (kept : List (List Var)) (k j : ℕ) (vs : List Var) → k < length kept → j ≡ k → get_or (slice_set kept k vs) j [] ≡ vs
kept_here kept k j vs h q = ap (λ n. get_or (slice_set kept k vs) n []) q ∙ get_or_from_slice_get (slice_set kept k vs) k vs [] (set_here kept k vs h)

kept_elsewhere : (kept : List (List Var)) (k j : ℕ) (vs : List Var) → j ≢ k → get_or (slice_set kept k vs) j [] ≡ get_or kept j []
kept_elsewhere kept k j vs d = sym (unwrap_or-slice_get (slice_set kept k vs) j []) ∙ ap (λ o. unwrap_or o []) (set_elsewhere kept k j vs d) ∙ unwrap_or-slice_get kept j []

pub read_kept : (kept : List (List Var)) (k : ℕ) (vs : List Var) → k < length kept → vs ≡ get_or kept k vs → vs ≡ get_or kept k []
read_kept kept k vs h q = let at = item_at kept k h in q ∙ get_or_from_slice_get kept k at.0 vs at.1 ∙ sym (get_or_from_slice_get kept k at.0 [] at.1)

-- ---- the index

pub indexed_none : IsIndexed [] [] []
indexed_none = record { within = λ name k q. absurd (cc); apart = λ a b k p q. absurd (cc); here = λ name k q. absurd (cc); none = λ name q. refl }

-- room at one more number
pub indexed_room : (entries : Scope) (numbers : List (List ℕ × ℕ)) (kept : List (List Var)) → IsIndexed entries numbers kept → IsIndexed entries numbers (kept ++ [] ∷ [])
indexed_room entries numbers kept h =
    record {
      within = λ a j q. omega (arith, h.within a j q, length-append kept ([] ∷ []));
      apart = h.apart;
      here = λ a j q. get_or_append_left kept ([] ∷ []) [] j (h.within a j q) ∙ h.here a j q;
      none = h.none;
    }

-- a name gets the next number
pub indexed_more : (entries : Scope) (numbers numbers' : List (List ℕ × ℕ)) (kept : List (List Var)) (name : List ℕ) (k : ℕ) → IsIndexed entries numbers kept → number_of numbers name ≡ None → k ≡ length kept →
    numbers' ≡ numbers ++ (name, k) ∷ [] → IsIndexed entries numbers' (kept ++ [] ∷ [])
indexed_more entries numbers numbers' kept name k h new is more =
    subst (λ z. IsIndexed entries z (kept ++ [] ∷ [])) (sym more) (record {
      within = λ a j q. elim (numbered_cases numbers name k a j q) [
        | inl old ↦ omega (arith, h.within a j old, length-append kept ([] ∷ []))
        | inr own ↦ omega (arith, own.1, is, length-append kept ([] ∷ []))
      ];
      apart = λ a b j p q. elim (numbered_cases numbers name k a j p) [
        | inl old ↦ elim (numbered_cases numbers name k b j q) [ inl both ↦ h.apart a b j old both | inr own ↦ absurd (omega (arith, h.within a j old, own.1, is)) ]
        | inr own ↦ elim (numbered_cases numbers name k b j q) [ inl old ↦ absurd (omega (arith, h.within b j old, own.1, is)) | inr both ↦ own.0 ∙ sym both.0 ]
      ];
      here = λ a j q. elim (numbered_cases numbers name k a j q) [
        | inl old ↦ get_or_append_left kept ([] ∷ []) [] j (h.within a j old) ∙ h.here a j old
        | inr own ↦ ap (λ n. get_or (kept ++ [] ∷ []) n []) (own.1 ∙ is) ∙ get_or-append_seam kept [] [] [] ∙ sym (h.none name new) ∙ ap (λ z. variables_of z entries) (sym own.0)
      ];
      none = λ a q. h.none a (none_before numbers name k a q);
    })

-- the same variables again
pub indexed_same : (entries : Scope) (numbers : List (List ℕ × ℕ)) (kept : List (List Var)) (k : ℕ) (vs : List Var) → IsIndexed entries numbers kept → k < length kept → vs ≡ get_or kept k [] →
    IsIndexed entries numbers (slice_set kept k vs)
indexed_same entries numbers kept k vs h less q =
    record {
      within = λ a j p. omega (arith, h.within a j p, length-set kept k vs);
      apart = h.apart;
      here = λ a j p. elim (cases_eq j k) [
        | inl same ↦ kept_here kept k j vs less same ∙ q ∙ ap (λ n. get_or kept n []) (sym same) ∙ h.here a j p
        | inr d ↦ kept_elsewhere kept k j vs d ∙ h.here a j p
      ];
      none = h.none;
    }

-- one more variable of a name
pub indexed_push : (entries : Scope) (numbers : List (List ℕ × ℕ)) (kept : List (List Var)) (name : List ℕ) (v : Var) (k : ℕ) (vs : List Var) → IsIndexed entries numbers kept → number_of numbers name ≡ Some k →
    vs ≡ get_or kept k [] ++ v ∷ [] → IsIndexed (entries ++ (name, v) ∷ []) numbers (slice_set kept k vs)
indexed_push entries numbers kept name v k vs h there q =
    record {
      within = λ a j p. omega (arith, h.within a j p, length-set kept k vs);
      apart = h.apart;
      here = λ a j p. elim (cases_eq j k) [
        | inl same ↦
            kept_here kept k j vs (h.within name k there) same ∙ q ∙ ap (λ z. z ++ v ∷ []) (h.here name k there)
            ∙ sym (pushed_same a name entries v (h.apart a name k (p ∙ ap Some same) there))
        | inr d ↦ kept_elsewhere kept k j vs d ∙ h.here a j p ∙ sym (pushed_other a name entries v (λ e. d (one_some p (ap (number_of numbers) e ∙ there))))
      ];
      none = λ a p. pushed_other a name entries v (λ e. none_or_some (number_of numbers a) k p (ap (number_of numbers) e ∙ there)) ∙ h.none a p;
    }

-- without the last entry
pub indexed_pop : (entries : Scope) (numbers : List (List ℕ × ℕ)) (kept : List (List Var)) (name : List ℕ) (v w : Var) (k : ℕ) (vs : List Var) → IsIndexed (entries ++ (name, v) ∷ []) numbers kept →
    number_of numbers name ≡ Some k → get_or kept k [] ≡ vs ++ w ∷ [] → IsIndexed entries numbers (slice_set kept k vs)
indexed_pop entries numbers kept name v w k vs h there q =
    record {
      within = λ a j p. omega (arith, h.within a j p, length-set kept k vs);
      apart = h.apart;
      here = λ a j p. elim (cases_eq j k) [
        | inl same ↦
            kept_here kept k j vs (h.within name k there) same
            ∙ snoc_front vs (variables_of name entries) w v (sym q ∙ h.here name k there ∙ pushed_same name name entries v refl)
            ∙ ap (λ z. variables_of z entries) (sym (h.apart a name k (p ∙ ap Some same) there))
        | inr d ↦ kept_elsewhere kept k j vs d ∙ h.here a j p ∙ pushed_other a name entries v (λ e. d (one_some p (ap (number_of numbers) e ∙ there)))
      ];
      none = λ a p. sym (pushed_other a name entries v (λ e. none_or_some (number_of numbers a) k p (ap (number_of numbers) e ∙ there))) ∙ h.none a p;
    }

-- the name of an entry has a number, and a variable at it
pub has_number : (entries : Scope) (numbers : List (List ℕ × ℕ)) (kept : List (List Var)) (name : List ℕ) (v : Var) → IsIndexed (entries ++ (name, v) ∷ []) numbers kept → number_of numbers name ≡ None → ⊥
has_number entries numbers kept name v h missing = snoc_none (variables_of name entries) v (sym (pushed_same name name entries v refl) ∙ h.none name missing)

pub has_variable : (entries : Scope) (numbers : List (List ℕ × ℕ)) (kept : List (List Var)) (name : List ℕ) (v : Var) (k : ℕ) → IsIndexed (entries ++ (name, v) ∷ []) numbers kept → number_of numbers name ≡ Some k → get_or kept k [] ≡ [] → ⊥
has_variable entries numbers kept name v k h there empty = snoc_none (variables_of name entries) v (sym (h.here name k there ∙ pushed_same name name entries v refl) ∙ empty)

-- ---- what is left of a list

pub popped : {X : Type 0} (xs ys : List X) (o : Option X) → MatchOption o ((xs ≡ []) × (ys ≡ [])) (λ last. xs ≡ ys ++ last ∷ []) → (xs ≡ [] → ⊥) → (x : X) × (xs ≡ ys ++ x ∷ [])
popped xs ys None h n = absurd (n h.0)
popped xs ys (Some x) h n = (x, h)

pub take_less : {X : Type 0} (n m : ℕ) (xs : List X) → n ≤ m → m ≤ length xs → take n (take m xs) ≡ take n xs
take_less n m xs h k = sym (take-append-le n (take m xs) (drop m xs) (omega (arith, h, length-take-le m xs k))) ∙ ap (take n) (take-append-drop m xs)

pub take_front : {X : Type 0} (xs ys : List X) (x : X) → ys ≡ xs ++ x ∷ [] → xs ≡ take (length ys - 1) ys
take_front xs ys x q =
    let size : length ys - 1 ≡ length xs = omega (arith, ap length q, length-append xs (x ∷ [])) in
    sym (take-append_seam xs (x ∷ [])) ∙ ap (λ n. take n (xs ++ x ∷ [])) (sym size) ∙ ap (take (length ys - 1)) (sym q)
