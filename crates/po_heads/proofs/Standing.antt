-- Where the heads stand, and the keywords with the ends of blocks.
use Rattle.std.proofs.Common.{◌≡◌, ℕ, zero, suc, ◌+◌, ◌<◌, ◌≤◌, Bool, true, false, cond, List, [], ◌∷◌, ◌++◌, length, map, Some, refl, sym, ap, ◌∙◌, arith}
use Rattle.std.specs.Prelude.{slice_get}
use Rattle.std.specs.List.{filter}
use Rattle.std.proofs.lemmas.Option.{same_Some}
use Rattle.po_lists.proofs.Places.{mapped_at, all_head, all_tail}
use Rattle.po_tree.specs.declared.expression.Exp.{Exp}
use Rattle.po_tree.specs.declared.function.FunTree.{FunTree}
use Rattle.po_tree.specs.Signs.{Sign}
use Rattle.po_tree.specs.Printing.{flat_fun}
use Rattle.po_tree.specs.Order.{fun_expressions}
use Rattle.po_heads.specs.Marks.{Printed, marked_fun}
use Rattle.po_heads.specs.Heads.{head_sign, prints_head, signs, is_head, heads, is_stop, fun_stops, places_from, head_places, stop_places, Ascends, HasHeads}
use Rattle.po_heads.proofs.Statements.{definition_agrees}

-- the k-th of some tokens has a place, where its sign stands
stands_in : (test : Printed → Bool) (b : Bool) (t : Printed) (ts : List Printed) (n k : ℕ) (s : Sign) → slice_get (signs (cond b (t ∷ filter test ts) (filter test ts))) k ≡ Some s →
    ((k : ℕ) (s : Sign) → slice_get (signs (filter test ts)) k ≡ Some s → (m : ℕ) × (slice_get (places_from test (suc n) ts) k ≡ Some (suc n + m)) × (slice_get (signs ts) m ≡ Some s)) →
    (m : ℕ) × (slice_get (cond b (n ∷ places_from test (suc n) ts) (places_from test (suc n) ts)) k ≡ Some (n + m)) × (slice_get (signs (t ∷ ts)) m ≡ Some s)
stands_in test true t ts n zero s h later = let q : n ≡ n + 0 = omega arith in (0, ap (λ m. Some m) q, h)
stands_in test true t ts n (suc k) s h later = let r = later k s h in let q : suc n + r.0 ≡ n + suc r.0 = omega arith in (suc r.0, r.1 ∙ ap (λ m. Some m) q, r.2)
stands_in test false t ts n k s h later = let r = later k s h in let q : suc n + r.0 ≡ n + suc r.0 = omega arith in (suc r.0, r.1 ∙ ap (λ m. Some m) q, r.2)

stands_from : (test : Printed → Bool) (ts : List Printed) (n k : ℕ) (s : Sign) → slice_get (signs (filter test ts)) k ≡ Some s →
    (m : ℕ) × (slice_get (places_from test n ts) k ≡ Some (n + m)) × (slice_get (signs ts) m ≡ Some s)
stands_from test [] n k s h = absurd (cc)
stands_from test (t ∷ ts) n k s h = stands_in test (test t) t ts n k s h (stands_from test ts (suc n))

stands : (test : Printed → Bool) (ts : List Printed) (k : ℕ) (s : Sign) → slice_get (signs (filter test ts)) k ≡ Some s →
    (n : ℕ) × (slice_get (places_from test 0 ts) k ≡ Some n) × (slice_get (signs ts) n ≡ Some s)
stands test ts k s h = let r = stands_from test ts 0 k s h in let q : 0 + r.0 ≡ r.0 = omega arith in (r.0, r.1 ∙ ap (λ m. Some m) q, r.2)

-- places ascend

least_in : (b : Bool) (n k m : ℕ) (ns : List ℕ) → slice_get (cond b (n ∷ ns) ns) k ≡ Some m → ((k : ℕ) → slice_get ns k ≡ Some m → suc n ≤ m) → n ≤ m
least_in true n zero m ns h later = let q : n ≡ m = same_Some n m h in omega (arith, q)
least_in true n (suc k) m ns h later = omega (arith, later k h)
least_in false n k m ns h later = omega (arith, later k h)

least : (test : Printed → Bool) (ts : List Printed) (n k m : ℕ) → slice_get (places_from test n ts) k ≡ Some m → n ≤ m
least test [] n k m h = absurd (cc)
least test (t ∷ ts) n k m h = least_in (test t) n k m (places_from test (suc n) ts) h (λ k h. least test ts (suc n) k m h)

ascends_in : (b : Bool) (n : ℕ) (ns : List ℕ) → ((k m : ℕ) → slice_get ns k ≡ Some m → suc n ≤ m) → Ascends ns → Ascends (cond b (n ∷ ns) ns)
ascends_in true n ns later up zero l m h g = let q : n ≡ l = same_Some n l h in omega (arith, q, later 0 m g)
ascends_in true n ns later up (suc k) l m h g = up k l m h g
ascends_in false n ns later up k l m h g = up k l m h g

pub ascends : (test : Printed → Bool) (ts : List Printed) (n : ℕ) → Ascends (places_from test n ts)
ascends test [] n k l m h g = absurd (cc)
ascends test (t ∷ ts) n k l m h g = ascends_in (test t) n (places_from test (suc n) ts) (least test ts (suc n)) (ascends test ts (suc n)) k l m h g

appends_in : (b : Bool) (n : ℕ) (ns ms ls : List ℕ) → ns ≡ ms ++ ls → cond b (n ∷ ns) ns ≡ cond b (n ∷ ms) ms ++ ls
appends_in true n ns ms ls q = ap (λ l. n ∷ l) q
appends_in false n ns ms ls q = q

-- those of two rows, one behind the other
pub places-append : (test : Printed → Bool) (ts us : List Printed) (n : ℕ) → places_from test n (ts ++ us) ≡ places_from test n ts ++ places_from test (n + length ts) us
places-append test [] us n = let q : n ≡ n + 0 = omega arith in ap (λ m. places_from test m us) q
places-append test (t ∷ ts) us n = let q : suc n + length ts ≡ n + suc (length ts) = omega arith in
    appends_in (test t) n (places_from test (suc n) (ts ++ us)) (places_from test (suc n) ts) (places_from test (n + suc (length ts)) us)
    (places-append test ts us (suc n) ∙ ap (λ m. places_from test (suc n) ts ++ places_from test m us) q)

most_in : (b : Bool) (n k m l : ℕ) (ns : List ℕ) → slice_get (cond b (n ∷ ns) ns) k ≡ Some m → ((k : ℕ) → slice_get ns k ≡ Some m → m < suc n + l) → m < n + suc l
most_in true n zero m l ns h later = let q : n ≡ m = same_Some n m h in omega (arith, q)
most_in true n (suc k) m l ns h later = omega (arith, later k h)
most_in false n k m l ns h later = omega (arith, later k h)

most : (test : Printed → Bool) (ts : List Printed) (n k m : ℕ) → slice_get (places_from test n ts) k ≡ Some m → m < n + length ts
most test [] n k m h = absurd (cc)
most test (t ∷ ts) n k m h = most_in (test t) n k m (length ts) (places_from test (suc n) ts) h (λ k h. most test ts (suc n) k m h)

-- as many places as such tokens
as_many_in : (b : Bool) (t : Printed) (ts : List Printed) (n : ℕ) (ns : List ℕ) → length ns ≡ length (signs ts) → length (cond b (n ∷ ns) ns) ≡ length (signs (cond b (t ∷ ts) ts))
as_many_in true t ts n ns q = ap suc q
as_many_in false t ts n ns q = q

as_many : (test : Printed → Bool) (ts : List Printed) (n : ℕ) → length (places_from test n ts) ≡ length (signs (filter test ts))
as_many test [] n = refl
as_many test (t ∷ ts) n = as_many_in (test t) t (filter test ts) n (places_from test (suc n) ts) (as_many test ts (suc n))

pub length_map : {A B : Type 0} (f : A → B) (xs : List A) → length (map f xs) ≡ length xs
length_map f [] = refl
length_map f (x ∷ xs) = ap suc (length_map f xs)

all_pass : (xs : List Exp) → HasHeads xs → filter prints_head xs ≡ xs
all_pass [] h = refl
all_pass (x ∷ xs) h = ap (λ b. cond b (x ∷ filter prints_head xs) (filter prints_head xs)) (all_head (λ x. prints_head x ≡ true) x xs h) ∙ ap (λ l. x ∷ l) (all_pass xs (all_tail (λ x. prints_head x ≡ true) x xs h))

pub lies_within : (test : Printed → Bool) (g : FunTree) (k m : ℕ) → slice_get (places_from test 0 (marked_fun g)) k ≡ Some m → m < length (flat_fun g)
lies_within test g k m h = let q : length (flat_fun g) ≡ length (marked_fun g) = ap length (sym (definition_agrees g).printed) ∙ length_map (λ (t : Printed). t.sign) (marked_fun g) in
    omega (arith, q, most test (marked_fun g) 0 k m h)

heads_are : (g : FunTree) → HasHeads (fun_expressions g) → heads (marked_fun g) ≡ map head_sign (fun_expressions g)
heads_are g h = (definition_agrees g).counted ∙ ap (map head_sign) (all_pass (fun_expressions g) h)

pub counted : (g : FunTree) → HasHeads (fun_expressions g) → length (head_places g) ≡ length (fun_expressions g)
counted g h = as_many is_head (marked_fun g) 0 ∙ (ap length (heads_are g h) ∙ length_map head_sign (fun_expressions g))

pub head_stands : (g : FunTree) → HasHeads (fun_expressions g) → (k : ℕ) (x : Exp) → slice_get (fun_expressions g) k ≡ Some x →
    (n : ℕ) × (slice_get (head_places g) k ≡ Some n) × (slice_get (flat_fun g) n ≡ Some (head_sign x))
head_stands g has k x here =
    let r = stands is_head (marked_fun g) k (head_sign x) (ap (λ l. slice_get l k) (heads_are g has) ∙ mapped_at head_sign (fun_expressions g) k x here) in
    (r.0, r.1, ap (λ l. slice_get l r.0) (sym (definition_agrees g).printed) ∙ r.2)

pub stops_counted : (g : FunTree) → length (stop_places g) ≡ length (fun_stops g)
stops_counted g = as_many is_stop (marked_fun g) 0 ∙ ap length (definition_agrees g).kept

pub stop_stands : (g : FunTree) (k : ℕ) (s : Sign) → slice_get (fun_stops g) k ≡ Some s → (n : ℕ) × (slice_get (stop_places g) k ≡ Some n) × (slice_get (flat_fun g) n ≡ Some s)
stop_stands g k s here =
    let r = stands is_stop (marked_fun g) k s (ap (λ l. slice_get l k) (definition_agrees g).kept ∙ here) in
    (r.0, r.1, ap (λ l. slice_get l r.0) (sym (definition_agrees g).printed) ∙ r.2)
