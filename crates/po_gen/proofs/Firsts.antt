-- The registers that stand first, while one more is listed.
use Rattle.std.specs.Prelude.{ℕ, ◌==◌, ◌≡◌, ◌<◌, ◌++◌, List, [], ◌∷◌, Bool, true, false, not, ◌||◌, cond}
use Rattle.std.proofs.Common.{refl, sym, ap, ◌∙◌, arith, append-nil}
use Rattle.std.specs.List.{filter, list_any}
use Rattle.std.specs.declared.cmp.Ordering.{Ordering}
use Rattle.std.specs.declared.cmp.Ordering.TheVariants.{Less, Equal, Greater}
use Rattle.std.specs.Ordering.{nat_cmp, is_eq, match_ordering, MatchOrdering}
use Rattle.std.specs.BTreeMap.{is_at}
use Rattle.std.specs.BTreeSet.{insert_key}
use Rattle.std.proofs.Math.Bool.{or_comm}
use Rattle.std.proofs.lemmas.Cmp.{ranked}
use Rattle.std.proofs.lemmas.List.Elements.{filter-append}
use Rattle.std.proofs.lemmas.List.Folds.{list_any-append}
use Rattle.po_base.specs.declared.numbers.RegNo.{RegNo}
use Rattle.po_gen.specs.Reads.{firsts, is_other}
use Rattle.po_gen.specs.Seen.{is_same, AreFirsts}

same_number : (o : Ordering) (n m : ℕ) → MatchOrdering o (n < m) (n ≡ m) (m < n) → is_eq o ≡ (n == m)
same_number Less n m h = grind arith
same_number Equal n m h = grind arith
same_number Greater n m h = grind arith

-- a register is another one exactly where its number isn't the same
other_is : (x r : RegNo) → is_other x r ≡ not (is_same r.0 x)
other_is x r = ap not (sym (same_number (nat_cmp r.0 x.0) r.0 x.0 (ranked r.0 x.0 (nat_cmp r.0 x.0) refl)))

kept_by : (p : RegNo → Bool) (r : RegNo) (t b : Bool) → p r ≡ not t → filter p (cond b [] (r ∷ [])) ≡ cond (t || b) [] (r ∷ [])
kept_by p r true true h = refl
kept_by p r true false h = rw h refl
kept_by p r false true h = refl
kept_by p r false false h = rw h refl

-- one more register stands last among the firsts, where it isn't among them
pub firsts_more : (list : List RegNo) (r : RegNo) → firsts (list ++ r ∷ []) ≡ firsts list ++ cond (list_any (is_same r.0) list) [] (r ∷ [])
firsts_more [] r = refl
firsts_more (x ∷ rest) r =
    let tail : List RegNo = cond (list_any (is_same r.0) rest) [] (r ∷ []) in
    let kept : filter (is_other x) (firsts (rest ++ r ∷ [])) ≡ filter (is_other x) (firsts rest) ++ filter (is_other x) tail = ap (filter (is_other x)) (firsts_more rest r) ∙ filter-append (is_other x) (firsts rest) tail in
    let last : filter (is_other x) tail ≡ cond (list_any (is_same r.0) (x ∷ rest)) [] (r ∷ []) = kept_by (is_other x) r (is_same r.0 x) (list_any (is_same r.0) rest) (other_is x r) in
    ap (λ (l : List RegNo). x ∷ l) (kept ∙ ap (λ (l : List RegNo). filter (is_other x) (firsts rest) ++ l) last)

absorbed : (p a : Bool) → (p || a) ≡ ((p || a) || p)
absorbed true a = refl
absorbed false true = refl
absorbed false false = refl

regrouped : (p a k : Bool) → (p || (a || k)) ≡ ((p || a) || k)
regrouped true a k = refl
regrouped false a k = refl

any_step : (p : ℕ → Bool) (k x : ℕ) (xs ins : List ℕ) (o : Ordering) → MatchOrdering o (k < x) (k ≡ x) (x < k) → list_any p ins ≡ (list_any p xs || p k) →
    list_any p (match_ordering o (k ∷ x ∷ xs) (x ∷ xs) (x ∷ ins)) ≡ (list_any p (x ∷ xs) || p k)
any_step p k x xs ins Less h more = or_comm (p k) (p x || list_any p xs)
any_step p k x xs ins Equal h more = rw h (absorbed (p x) (list_any p xs))
any_step p k x xs ins Greater h more = rw more (regrouped (p x) (list_any p xs) (p k))

-- a set with one more number has that one too
any_inserted : (p : ℕ → Bool) (k : ℕ) (set : List ℕ) → list_any p (insert_key nat_cmp set k) ≡ (list_any p set || p k)
any_inserted p k [] = or_comm (p k) false
any_inserted p k (x ∷ xs) = any_step p k x xs (insert_key nat_cmp xs k) (nat_cmp k x) (ranked k x (nat_cmp k x) refl) (any_inserted p k xs)

told_more : (n : ℕ) (before : List RegNo) (set : List ℕ) (r : RegNo) → list_any (is_at (nat_cmp n)) set ≡ list_any (is_same n) before →
    list_any (is_at (nat_cmp n)) (insert_key nat_cmp set r.0) ≡ list_any (is_same n) (before ++ r ∷ [])
told_more n before set r told =
    any_inserted (is_at (nat_cmp n)) r.0 set
    ∙ ap (λ (t : Bool). t || is_same n r) told
    ∙ ap (λ (t : Bool). list_any (is_same n) before || t) (or_comm false (is_same n r))
    ∙ sym (list_any-append (is_same n) before (r ∷ []))

chosen : (list : List RegNo) (r : RegNo) (t : Bool) → t ≡ true → list ++ cond t [] (r ∷ []) ≡ list
chosen list r true h = append-nil list
chosen list r false h = absurd (cc)

-- a register that was new
pub firsts_added : (before list : List RegNo) (set : List ℕ) (r : RegNo) → AreFirsts before set list → list_any (is_at (nat_cmp r.0)) set ≡ false → AreFirsts (before ++ r ∷ []) (insert_key nat_cmp set r.0) (list ++ r ∷ [])
firsts_added before list set r given fresh = record {
  told = λ n. told_more n before set r (given.told n);
  listed = rw given.listed (sym (firsts_more before r ∙ rw (sym (given.told r.0) ∙ fresh) refl));
}

-- and one that was there
pub firsts_same : (before list : List RegNo) (set : List ℕ) (r : RegNo) → AreFirsts before set list → list_any (is_at (nat_cmp r.0)) set ≡ true → AreFirsts (before ++ r ∷ []) (insert_key nat_cmp set r.0) list
firsts_same before list set r given old = record {
  told = λ n. told_more n before set r (given.told n);
  listed = given.listed ∙ sym (firsts_more before r ∙ chosen (firsts before) r _ (sym (given.told r.0) ∙ old));
}

pub turned : (s t : Bool) → not s ≡ not t → s ≡ t
turned true true h = refl
turned true false h = absurd (cc)
turned false true h = absurd (cc)
turned false false h = refl
