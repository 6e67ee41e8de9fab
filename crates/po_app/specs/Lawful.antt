-- The rulebook of a project keeps the laws of rulebooks.
use Rattle.std.specs.Prelude.{ℕ, zero, suc, ◌+◌, ◌^◌, ◌<◌, ◌≤◌, ◌≡◌, ◌⊎◌, ◌↔◌, ℤ, pos, neg_ℤ, ◌+ℤ◌, ◌≤ℤ◌, ◌<ℤ◌, ◌-ℤ◌, ◌==◌, nat_lt, ◌++◌, List, [], ◌∷◌, map, length, Bool, true, false, cond, ◌||◌, IsTrue, Option, Some, None, slice_get}
use Rattle.std.specs.List.{flat_map, Contains}
use Rattle.std.proofs.Common.{arith, refl, sym, ap, subst, inl, inr}
use Rattle.std.proofs.lemmas.Int.{ints, by_lt_z}
use Rattle.std.proofs.lemmas.Bool.Decides.{Decides-or, Decides-eqb, Decides-ltb}
use Rattle.std.proofs.lemmas.List.Elements.{Contains-append_left, Contains-append_right}
use Rattle.po_base.specs.declared.numbers.FunNo.{FunNo}
use Rattle.po_base.specs.declared.numbers.NodeNo.{NodeNo}
use Rattle.po_core.specs.Book.{IsBook}
use Rattle.po_lists.proofs.Members.{Has, has, contains, contains_map, contains_flat_map}
use Rattle.po_core.specs.declared.obl.Obl.{Obl}
use Rattle.po_core.specs.declared.obl.Verdict.TheVariants.{Closed, Delegated}
use Rattle.po_ir.specs.declared.project.Function.{Function}
use Rattle.po_ir.specs.declared.project.Project.{Project}
use Rattle.po_pred.specs.declared.pred.Atom.{Atom}
use Rattle.po_pred.specs.declared.pred.Atom.TheVariants.{Reg, Param}
use Rattle.po_pred.specs.declared.pred.Place.{Place}
use Rattle.po_pred.specs.declared.pred.Over.{Over}
use Rattle.po_pred.specs.declared.pred.Over.TheVariants.{Add, Sub, Mul, Div, Rem, Shl, Neg}
use Rattle.po_pred.specs.declared.pred.Pred.{Pred}
use Rattle.po_pred.specs.declared.pred.Pred.TheVariants.{Nonzero, NoOver}
use Rattle.po_app.specs.declared.rule.Rule.TheVariants.{Range}
use Rattle.po_app.specs.Obligations.{each_from}
use Rattle.po_app.specs.Discharge.{is_closed}
use Rattle.po_app.specs.Delegation.{from_to, allowed_from, is_allowed, fits_parameters, is_assumable, entry_predicate, delegated}
use Rattle.po_app.specs.Tests.{Decides-from_to, first_of_two, second_of_two}
use Rattle.po_app.specs.Verdicts.{left, judged, verdict_of, function_of, predicate_of}
use Rattle.po_app.specs.Book.{is_call_of, node_call, function_calls, call_sites, numbers_from, places_over, parameter_places, all_places, operators, overflows, predicates_over, most_params, assumable, most_files, files_of, file_in, book}

-- ---- files and callers

named_file : (fs : List Function) (i : ℕ) (f : Function) → slice_get fs i ≡ Some f → f.file.0 < most_files fs
named_file [] i f h = absurd (cc)
named_file (g ∷ fs) zero f h = let same : g ≡ f = cc in rw (← same) (omega arith)
named_file (g ∷ fs) (suc i) f h = let rest = named_file fs i f h in omega arith

there : {X : Type 0} (xs : List X) (i : ℕ) → i < length xs → slice_get xs i ≡ None → ⊥
there [] i below h = omega arith
there (x ∷ xs) zero below h = absurd (cc)
there (x ∷ xs) (suc i) below h = there xs i (omega arith) h

file_below : (p : Project) (found : Option Function) (i : ℕ) → slice_get p.functions i ≡ found → i < length p.functions → (file_in found).0 < files_of p
file_below p None i h below = absurd (there p.functions i below h)
file_below p (Some f) i h below = let named = named_file p.functions i f h in omega arith

has_of_append : {X : Type 0} (xs ys : List X) (x : X) → Has (xs ++ ys) x → Has xs x ⊎ Has ys x
has_of_append [] ys x h = inr h
has_of_append (z ∷ xs) ys x (inl q) = inl (inl q)
has_of_append (z ∷ xs) ys x (inr h) = elim (has_of_append xs ys x h) [ inl e ↦ inl (inr e) | inr e ↦ inr e ]

-- what is made of items is made of one of them
made_of_one : {X Y : Type 0} (f : ℕ → X → List Y) (n : ℕ) (xs : List X) (y : Y) → Has (each_from f n xs) y → (i : ℕ) × (x : X) × (i < n + length xs) × Has (f i x) y
made_of_one f n [] y h = absurd h
made_of_one f n (x ∷ xs) y h = elim (has_of_append (f n x) (each_from f (n + 1) xs) y h) [
  | inl here ↦ (n, x, omega arith, here)
  | inr there ↦ let r = made_of_one f (n + 1) xs y there in (r.0, r.1, (let l = r.2 in omega arith), r.3)
]

one_call : (t : Bool) (g n : ℕ) (s : FunNo × NodeNo) → Has (cond t ((record { 0 = g }, record { 0 = n }) ∷ []) []) s → g ≡ s.0.0
one_call true g n s (inl q) = ap (λ (x : FunNo × NodeNo). x.0.0) q
one_call true g n s (inr h) = absurd h
one_call false g n s h = absurd h

caller_there : (p : Project) (f : FunNo) (s : FunNo × NodeNo) → Has (call_sites p f) s → s.0.0 < length p.functions
caller_there p f s h =
    let calls = made_of_one (function_calls f) 0 p.functions s h in
    let call = made_of_one (node_call f calls.0) 0 calls.1.graph.nodes s calls.3 in
    let same = one_call (is_call_of f call.1.instr) calls.0 call.0 s call.3 in
    let below = calls.2 in
    omega arith

-- ---- what is delegated

is_delegated : (m : Option Pred) (q : Pred) → left m ≡ Delegated q → m ≡ Some q
is_delegated None q h = absurd (cc)
is_delegated (Some r) q h = cc

delegated_at : (closed : Bool) (m : Option Pred) (q : Pred) → cond closed (Closed Range) (left m) ≡ Delegated q → m ≡ Some q
delegated_at true m q h = absurd (cc)
delegated_at false m q h = is_delegated m q h

chosen : (t : Bool) (r q : Pred) → cond t (Some r) None ≡ Some q → (t ≡ true) × (r ≡ q)
chosen true r q h = (refl, cc)
chosen false r q h = absurd (cc)

delegated_fits : (params : ℕ) (r q : Pred) → delegated params r ≡ Some q → is_assumable params q ≡ true
delegated_fits params r q h =
    let at = chosen (is_assumable params (entry_predicate params r)) (entry_predicate params r) q h in
    subst (λ x. is_assumable params x ≡ true) at.1 at.0

-- what an obligation of a function is delegated to, the function may assume
pub judged_fits : (f : Option Function) (r : Option Pred) (q : Pred) → judged f r ≡ Delegated q → (g : Function) × (f ≡ Some g) × (is_assumable g.graph.params q ≡ true)
judged_fits None r q h = absurd (cc)
judged_fits (Some f) None q h = absurd (cc)
judged_fits (Some f) (Some r) q h = (f, refl, delegated_fits f.graph.params r q (delegated_at (is_closed r) (delegated f.graph.params r) q h))

-- ---- the list of all assumptions

-- the least of so many numbers, or one of those above it
next_or_here : (least v : ℤ) → least ≤ℤ v → (least ≡ v) ⊎ ((least +ℤ pos 1) ≤ℤ v)
next_or_here least v h = by_lt_z least v (λ l. inr (omega (arith, ints))) (λ l. inl (omega (arith, ints)))

has_number : (least v : ℤ) (n : ℕ) → least ≤ℤ v → v <ℤ (least +ℤ pos n) → Has (numbers_from least n) v
unfolding numbers_from
has_number least v zero low high = absurd (omega (arith, ints))
has_number least v (suc n) low high =
    elim (next_or_here least v low) [
      | inl here ↦ inl here
      | inr there ↦ inr (has_number (least +ℤ pos 1) v n there (omega (arith, ints)))
    ]

contains_number : (least v : ℤ) (n : ℕ) → least ≤ℤ v → v <ℤ (least +ℤ pos n) → Contains (numbers_from least n) v
contains_number least v n low high = contains (numbers_from least n) v (has_number least v n low high)

contains_place : (atom : Option Atom) (least lo hi : ℤ) (n : ℕ) → Contains (numbers_from least n) lo → Contains (numbers_from least n) hi →
    Contains (places_over atom least n) (record { atom = atom; lo = lo; hi = hi })
unfolding places_over
contains_place atom least lo hi n low high =
    contains_flat_map (λ a. map (λ b. record { atom = atom; lo = a; hi = b }) (numbers_from least n)) (numbers_from least n) lo (record { atom = atom; lo = lo; hi = hi }) low
    (contains_map (λ b. record { atom = atom; lo = lo; hi = b }) (numbers_from least n) hi high)

last_or_below : (i n : ℕ) → i < suc n → (i ≡ n) ⊎ (i < n)
last_or_below zero zero h = inl refl
last_or_below zero (suc n) h = inr (omega arith)
last_or_below (suc i) zero h = absurd (omega arith)
last_or_below (suc i) (suc n) h = elim (last_or_below i n (omega arith)) [ inl e ↦ inl (ap suc e) | inr l ↦ inr (omega arith) ]

contains_parameter : (params i : ℕ) (p : Place) → i < params → Contains (places_over (Some (Param i)) (neg_ℤ (pos 1024)) 2049) p → Contains (parameter_places params) p
unfolding parameter_places
contains_parameter zero i p below h = absurd (omega arith)
contains_parameter (suc params) i p below h =
    elim (last_or_below i params below) [
      | inl last ↦ Contains-append_left (places_over (Some (Param params)) (neg_ℤ (pos 1024)) 2049) (parameter_places params) p
          (subst (λ n. Contains (places_over (Some (Param n)) (neg_ℤ (pos 1024)) 2049) p) last h)
      | inr less ↦ Contains-append_right (places_over (Some (Param params)) (neg_ℤ (pos 1024)) 2049) (parameter_places params) p
          (contains_parameter params i p less h)
    ]

-- both ends among so many numbers
contains_between : (atom : Option Atom) (least lo hi : ℤ) (n : ℕ) → least ≤ℤ lo → lo ≤ℤ hi → hi <ℤ (least +ℤ pos n) →
    Contains (places_over atom least n) (record { atom = atom; lo = lo; hi = hi })
contains_between atom least lo hi n low ordered high =
    contains_place atom least lo hi n (contains_number least lo n low (omega (arith, ints))) (contains_number least hi n (omega (arith, ints)) high)

contains_numbers : (most : ℕ) (lo hi : ℤ) → Contains (places_over None (neg_ℤ (pos (2 ^ 63))) (2 ^ 63 + 2 ^ 64)) (record { atom = None; lo = lo; hi = hi }) →
    Contains (all_places most) (record { atom = None; lo = lo; hi = hi })
unfolding all_places
contains_numbers most lo hi h = Contains-append_left _ _ _ h

contains_moved : (most : ℕ) (p : Place) → Contains (parameter_places most) p → Contains (all_places most) p
unfolding all_places
contains_moved most p h = Contains-append_right _ _ _ h

-- a place that a function of so many parameters may assume
allowed_among : (params most : ℕ) (atom : Option Atom) (lo hi : ℤ) → params ≤ most → allowed_from params atom (record { atom = atom; lo = lo; hi = hi }) ≡ true →
    Contains (all_places most) (record { atom = atom; lo = lo; hi = hi })
allowed_among params most None lo hi few h =
    let is = (Decides-from_to (neg_ℤ (pos (2 ^ 63))) (pos (2 ^ 64) -ℤ pos 1) (record { atom = None; lo = lo; hi = hi })).0 h in
    contains_numbers most lo hi (contains_between None (neg_ℤ (pos (2 ^ 63))) lo hi (2 ^ 63 + 2 ^ 64) is.0.0 is.0.1 (omega (arith, ints)))
allowed_among params most (Some (Reg r)) lo hi few h = absurd (cc)
allowed_among params most (Some (Param i)) lo hi few h =
    let p : Place = record { atom = Some (Param i); lo = lo; hi = hi } in
    let offsets = second_of_two (nat_lt i params) (from_to (neg_ℤ (pos 1024)) (pos 1024) p) h in
    let is = (Decides-from_to (neg_ℤ (pos 1024)) (pos 1024) p).0 offsets in
    let below : i < params = (Decides-ltb i params).0 (first_of_two (nat_lt i params) (from_to (neg_ℤ (pos 1024)) (pos 1024) p) h) in
    contains_moved most p (contains_parameter most i p (omega arith) (contains_between (Some (Param i)) (neg_ℤ (pos 1024)) lo hi 2049 is.0.0 is.0.1 (omega (arith, ints))))

place_among : (params most : ℕ) (p : Place) → params ≤ most → is_allowed params p ≡ true → Contains (all_places most) p
place_among params most p few h = allowed_among params most p.atom p.lo p.hi few h

operator_among : (op : Over) → Has operators op
operator_among Add = inl refl
operator_among Sub = inr (inl refl)
operator_among Mul = inr (inr (inl refl))
operator_among Div = inr (inr (inr (inl refl)))
operator_among Rem = inr (inr (inr (inr (inl refl))))
operator_among Shl = inr (inr (inr (inr (inr (inl refl)))))
operator_among Neg = inr (inr (inr (inr (inr (inr (inl refl))))))

contains_overflow : (over : List Place) (bits : ℕ) (op : Over) (a b : Place) → Contains over a → Contains over b → Contains (overflows over bits) (NoOver op bits a (Some b))
unfolding overflows
contains_overflow over bits op a b a_in b_in =
    contains_flat_map (λ o. flat_map (λ x. map (λ y. NoOver o bits x (Some y)) over) over) operators op _ (contains operators op (operator_among op))
    (contains_flat_map (λ x. map (λ y. NoOver op bits x (Some y)) over) over a _ a_in
    (contains_map (λ y. NoOver op bits a (Some y)) over b b_in))

module _ (over : List Place) where
  contains_nonzero : (x : Place) → Contains over x → Contains (predicates_over over) (Nonzero x)
  unfolding predicates_over
  contains_nonzero x x_in = Contains-append_left (map (λ y. Nonzero y) over ++ overflows over 32) (overflows over 64) (Nonzero x)
      (Contains-append_left (map (λ y. Nonzero y) over) (overflows over 32) (Nonzero x) (contains_map (λ y. Nonzero y) over x x_in))

  contains_overflow_32 : (q : Pred) → Contains (overflows over 32) q → Contains (predicates_over over) q
  unfolding predicates_over
  contains_overflow_32 q h = Contains-append_left (map (λ y. Nonzero y) over ++ overflows over 32) (overflows over 64) q
      (Contains-append_right (map (λ y. Nonzero y) over) (overflows over 32) q h)

  contains_overflow_64 : (q : Pred) → Contains (overflows over 64) q → Contains (predicates_over over) q
  unfolding predicates_over
  contains_overflow_64 q h = Contains-append_right (map (λ y. Nonzero y) over ++ overflows over 32) (overflows over 64) q h

width_is : (bits : ℕ) → ((bits == 32) || (bits == 64)) ≡ true → (bits ≡ 32) ⊎ (bits ≡ 64)
width_is bits h = (Decides-or _ _ (Decides-eqb bits 32) (Decides-eqb bits 64)).0 h

overflow_among : (over : List Place) (bits : ℕ) (op : Over) (a b : Place) → (bits ≡ 32) ⊎ (bits ≡ 64) → Contains over a → Contains over b →
    Contains (predicates_over over) (NoOver op bits a (Some b))
overflow_among over bits op a b (inl is) a_in b_in =
    subst (λ n. Contains (predicates_over over) (NoOver op n a (Some b))) (sym is) (contains_overflow_32 over _ (contains_overflow over 32 op a b a_in b_in))
overflow_among over bits op a b (inr is) a_in b_in =
    subst (λ n. Contains (predicates_over over) (NoOver op n a (Some b))) (sym is) (contains_overflow_64 over _ (contains_overflow over 64 op a b a_in b_in))

predicate_among : (params most : ℕ) (q : Pred) → params ≤ most → fits_parameters params q ≡ true → Contains (predicates_over (all_places most)) q
predicate_among params most (Nonzero x) few h = contains_nonzero (all_places most) x (place_among params most x few (first_of_two _ _ h))
predicate_among params most (NoOver op bits a None) few h = absurd (cc)
predicate_among params most (NoOver op bits a (Some b)) few h =
    let three = first_of_two _ _ h in
    let two = first_of_two _ _ three in
    overflow_among (all_places most) bits op a b (width_is bits (second_of_two _ _ h))
    (place_among params most a few (first_of_two _ _ two)) (place_among params most b few (second_of_two _ _ two))
predicate_among params most _ few h = absurd (cc)

most_at_least : (fs : List Function) (i : ℕ) (f : Function) → slice_get fs i ≡ Some f → f.graph.params ≤ most_params fs
most_at_least [] i f h = absurd (cc)
most_at_least (g ∷ fs) zero f h = let same : g ≡ f = cc in rw (← same) (omega arith)
most_at_least (g ∷ fs) (suc i) f h = let rest = most_at_least fs i f h in omega arith

delegate_among : (p : Project) (o : Obl Pred) (q : Pred) → verdict_of p o ≡ Delegated q → Contains (assumable p) q
unfolding assumable
delegate_among p o q h =
    let fits = judged_fits (function_of p o) (predicate_of p o) q h in
    predicate_among fits.0.graph.params (most_params p.functions) q (most_at_least p.functions o.fun.0 fits.0 fits.1) (first_of_two _ _ fits.2)

pub lawful : (eq : Pred → Pred → Bool) → ((p q : Pred) → IsTrue (eq p q) ↔ (p ≡ q)) → (p : Project) → IsBook eq (book p)
lawful eq same p = record {
  files_there = λ f l. file_below p (slice_get p.functions f.0) f.0 refl l;
  callers_there = λ f g n l h. caller_there p f (g, n) (has (call_sites p f) (g, n) h);
  delegates_assumable = delegate_among p;
  equal_are_same = same;
}
