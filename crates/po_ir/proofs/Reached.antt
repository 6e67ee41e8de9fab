-- A list of functions that are still to be visited leads to all that leads.
use Rattle.std.proofs.Common.{◌≡◌, ◌≢◌, ℕ, zero, suc, ◌+◌, ◌<◌, List, [], ◌∷◌, ◌++◌, Bool, true, false, length, map, replicate, get_or, refl, ap, sym, ◌∙◌, subst, ◌⊎◌, inl, inr, arith}
use Rattle.std.specs.Prelude.{Some, Contains, slice_get, slice_set}
use Rattle.std.proofs.lemmas.List.Elements.{Contains-append_left, Contains-append_right, Contains-append_cases, Contains-push_cases}
use Rattle.std.proofs.lemmas.Option.{slice_get_within}
use Rattle.po_base.specs.declared.numbers.FunNo.{FunNo}
use Rattle.po_base.specs.declared.numbers.NodeNo.{NodeNo}
use Rattle.po_ir.specs.General.{each_from}
use Rattle.po_ir.specs.Callers.{Sites}
use Rattle.po_ir.specs.Leading.{Leads, itself, through, AreLeading, start_of, caller_of, Skips, Marks, Visits}

abbrev pub IsMarked : List Bool → ℕ → Type 0
IsMarked marks f = slice_get marks f ≡ Some true

-- f is marked, or still to be visited
abbrev pub IsKnown : List Bool → List FunNo → ℕ → Type 0
IsKnown marks stack f = IsMarked marks f ⊎ Contains stack (record { 0 = f })

-- what the visits keep
pub record Visiting (callers : List Sites) (here marks : List Bool) (stack : List FunNo) : Type 0 where
  pub count : length marks ≡ length here
  pub sound : (f : ℕ) → IsMarked marks f → Leads callers here f
  pub pending : (f : FunNo) → Contains stack f → Leads callers here f.0
  pub base : (f : ℕ) → f < length here → IsMarked here f → IsKnown marks stack f
  pub closed : (f g : ℕ) (sites : Sites) (n : NodeNo) → f < length here → slice_get callers g ≡ Some sites → Contains sites (record { 0 = f }, n) → IsMarked marks g → IsKnown marks stack f

no_mark : (n f : ℕ) → IsMarked (replicate n false) f → ⊥
no_mark zero f h = cc
no_mark (suc n) zero h = cc
no_mark (suc n) (suc f) h = no_mark n f h

started_from : (n : ℕ) (here : List Bool) (f : FunNo) → Contains (each_from start_of n here) f → (i : ℕ) × (f.0 ≡ n + i) × IsMarked here i
started_from n [] f c = absurd (let h = c.1 in omega arith)
started_from n (true ∷ ms) f c =
    elim (Contains-append_cases (record { 0 = n } ∷ []) (each_from start_of (n + 1) ms) f c) [
      | inl h ↦ elim (Contains-push_cases [] (record { 0 = n }) f h) [
        | inl r ↦ absurd (let l = r.1 in omega arith)
        | inr q ↦ (0, (let e : n ≡ f.0 = ap (λ (y : FunNo). y.0) q in omega arith), refl)
      ]
      | inr r ↦ let p = started_from (n + 1) ms f r in (suc p.0, (let e = p.1 in omega arith), p.2)
    ]
started_from n (false ∷ ms) f c = let p = started_from (n + 1) ms f c in (suc p.0, (let e = p.1 in omega arith), p.2)

starts_from : (n : ℕ) (here : List Bool) (i : ℕ) → IsMarked here i → Contains (each_from start_of n here) (record { 0 = n + i })
starts_from n [] i h = absurd (cc)
starts_from n (true ∷ ms) zero h =
    let e : n ≡ n + 0 = omega arith in
    Contains-append_left (record { 0 = n } ∷ []) _ (record { 0 = n + 0 }) (0, omega arith, ap (λ k. record { 0 = k }) e)
starts_from n (false ∷ ms) zero h = absurd (cc)
starts_from n (m ∷ ms) (suc i) h =
    let e : (n + 1) + i ≡ n + suc i = omega arith in
    Contains-append_right (start_of n m) _ (record { 0 = n + suc i }) (subst (λ k. Contains (each_from start_of (n + 1) ms) (record { 0 = k })) e (starts_from (n + 1) ms i h))

starts : (here : List Bool) (stack : List FunNo) → stack ≡ each_from start_of 0 here → (f : FunNo) → (Contains stack f → IsMarked here f.0) × (IsMarked here f.0 → Contains stack f)
starts here stack is f = (
  λ c. let p = started_from 0 here f (subst (λ l. Contains l f) is c) in let e : p.0 ≡ f.0 = (let q = p.1 in omega arith) in subst (λ k. IsMarked here k) e p.2,
  λ h. let e : 0 + f.0 ≡ f.0 = omega arith in subst (λ l. Contains l f) (sym is) (subst (λ k. Contains (each_from start_of 0 here) (record { 0 = k })) e (starts_from 0 here f.0 h)),
)

as_many_unmarked : (n : ℕ) → length (replicate n false) ≡ n
as_many_unmarked zero = refl
as_many_unmarked (suc n) = ap suc (as_many_unmarked n)

pub visiting_starts : (callers : List Sites) (here marks : List Bool) (stack : List FunNo) (n : ℕ) → n ≡ length here → marks ≡ replicate n false →
    stack ≡ each_from start_of 0 here → Visiting callers here marks stack
visiting_starts callers here marks stack n many none first = record {
  count = ap length none ∙ (as_many_unmarked n ∙ many);
  sound = λ f h. absurd (no_mark n f (subst (λ m. IsMarked m f) none h));
  pending = λ f h. itself f.0 ((starts here stack first f).0 h);
  base = λ f _ h. inr ((starts here stack first (record { 0 = f })).1 h);
  closed = λ f g sites at _ _ _ h. absurd (no_mark n g (subst (λ m. IsMarked m g) none h));
}

set_there : (marks : List Bool) (f : ℕ) (b : Bool) → slice_get marks f ≡ Some b → IsMarked (slice_set marks f true) f
set_there [] f b h = absurd (cc)
set_there (m ∷ ms) zero b h = refl
set_there (m ∷ ms) (suc f) b h = set_there ms f b h

set_kept : (marks : List Bool) (f x : ℕ) → IsMarked marks x → IsMarked (slice_set marks f true) x
set_kept [] f x h = h
set_kept (m ∷ ms) zero zero h = refl
set_kept (m ∷ ms) zero (suc x) h = h
set_kept (m ∷ ms) (suc f) zero h = h
set_kept (m ∷ ms) (suc f) (suc x) h = set_kept ms f x h

set_cases : (marks : List Bool) (f x : ℕ) → IsMarked (slice_set marks f true) x → (f ≡ x) ⊎ IsMarked marks x
set_cases [] f x h = inr h
set_cases (m ∷ ms) zero zero h = inl refl
set_cases (m ∷ ms) zero (suc x) h = inr h
set_cases (m ∷ ms) (suc f) zero h = inr h
set_cases (m ∷ ms) (suc f) (suc x) h = elim (set_cases ms f x h) [ inl q ↦ inl (ap suc q) | inr r ↦ inr r ]

set_length : (marks : List Bool) (f : ℕ) → length (slice_set marks f true) ≡ length marks
set_length [] f = refl
set_length (m ∷ ms) zero = refl
set_length (m ∷ ms) (suc f) = ap suc (set_length ms f)

-- what is at a place is marked, or isn't
marked_or : (marks : List Bool) (f : ℕ) → f < length marks → slice_get marks f ≢ Some false → IsMarked marks f
marked_or [] f h k = absurd (omega arith)
marked_or (true ∷ ms) zero h k = refl
marked_or (false ∷ ms) zero h k = absurd (k refl)
marked_or (m ∷ ms) (suc f) h k = marked_or ms f (omega arith) k

mapped_at : (sites : Sites) (k : ℕ) (f : FunNo) (n : NodeNo) → k < length sites → get_or sites k (f, n) ≡ (f, n) → (k < length (map caller_of sites)) × (get_or (map caller_of sites) k f ≡ f)
mapped_at [] k f n h e = absurd (omega arith)
mapped_at (s ∷ ss) zero f n h e = (omega arith, ap caller_of e)
mapped_at (s ∷ ss) (suc k) f n h e = let r = mapped_at ss k f n (omega arith) e in (let l = r.0 in omega arith, r.1)

mapped : (sites : Sites) (f : FunNo) (n : NodeNo) → Contains sites (f, n) → Contains (map caller_of sites) f
mapped sites f n h = let r = mapped_at sites h.0 f n h.1 h.2 in (h.0, r.0, r.1)

from_mapped_at : (sites : Sites) (k : ℕ) (f : FunNo) → k < length (map caller_of sites) → get_or (map caller_of sites) k f ≡ f → (n : NodeNo) × (k < length sites) × (get_or sites k (f, n) ≡ (f, n))
from_mapped_at [] k f h e = absurd (omega arith)
from_mapped_at (s ∷ ss) zero f h e = (s.1, omega arith, λ i. (e i, s.1))
from_mapped_at (s ∷ ss) (suc k) f h e = let r = from_mapped_at ss k f (omega arith) e in (r.0, (let l = r.1 in omega arith), r.2)

from_mapped : (sites : Sites) (f : FunNo) → Contains (map caller_of sites) f → (n : NodeNo) × Contains sites (f, n)
from_mapped sites f h = let r = from_mapped_at sites h.0 f h.1 h.2 in (r.0, (h.0, r.1, r.2))

visit_skips : (callers : List Sites) (here before after : List Bool) (stack rest left : List FunNo) (fun : FunNo) → Visiting callers here before stack → stack ≡ rest ++ fun ∷ [] →
    Skips fun before after rest left → Visiting callers here after left
visit_skips callers here before after stack rest left fun v popped s =
    let stay : (x : ℕ) → x < length here → IsKnown before stack x → IsKnown before rest x = λ x h k.
    elim k [
      | inl m ↦ inl m
      | inr c ↦ elim (Contains-push_cases rest fun (record { 0 = x }) (subst (λ l. Contains l (record { 0 = x })) popped c)) [
        | inl r ↦ inr r
        | inr q ↦ inl (subst (λ (y : FunNo). IsMarked before y.0) q (marked_or before fun.0 (subst (λ (y : FunNo). y.0 < length before) (sym q) (omega (arith, v.count, h))) s.known))
      ]
    ] in
    let kept : Visiting callers here before rest = record {
      count = v.count;
      sound = v.sound;
      pending = λ f c. v.pending f (subst (λ l. Contains l f) (sym popped) (Contains-append_left rest (fun ∷ []) f c));
      base = λ f h m. stay f h (v.base f h m);
      closed = λ f g sites n h l c m. stay f h (v.closed f g sites n h l c m);
    } in
    subst (λ l. Visiting callers here after l) (sym s.stays) (subst (λ m. Visiting callers here m rest) (sym s.same) kept)

visit_marks : (callers : List Sites) (here before after : List Bool) (stack rest left : List FunNo) (fun : FunNo) → Visiting callers here before stack → stack ≡ rest ++ fun ∷ [] →
    Marks callers fun before after rest left → Visiting callers here after left
visit_marks callers here before after stack rest left fun v popped s =
    let new = slice_set before fun.0 true in
    let more = rest ++ map caller_of s.sites in
    let leads : Leads callers here fun.0 = v.pending fun (subst (λ l. Contains l fun) (sym popped) (Contains-append_right rest (fun ∷ []) fun (0, omega arith, refl))) in
    let stay : (x : ℕ) → IsKnown before stack x → IsKnown new more x = λ x k.
    elim k [
      | inl m ↦ inl (set_kept before fun.0 x m)
      | inr c ↦ elim (Contains-push_cases rest fun (record { 0 = x }) (subst (λ l. Contains l (record { 0 = x })) popped c)) [
        | inl r ↦ inr (Contains-append_left rest (map caller_of s.sites) (record { 0 = x }) r)
        | inr q ↦ inl (subst (λ (y : FunNo). IsMarked new y.0) q (set_there before fun.0 false s.unknown))
      ]
    ] in
    let kept : Visiting callers here new more = record {
      count = set_length before fun.0 ∙ v.count;
      sound = λ f m. elim (set_cases before fun.0 f m) [ inl q ↦ subst (λ y. Leads callers here y) q leads | inr h ↦ v.sound f h ];
      pending = λ f c. elim (Contains-append_cases rest (map caller_of s.sites) f c) [
        | inl r ↦ v.pending f (subst (λ l. Contains l f) (sym popped) (Contains-append_left rest (fun ∷ []) f r))
        | inr r ↦ let p = from_mapped s.sites f r in through f.0 fun.0 s.sites p.0 s.listed p.1 leads
      ];
      base = λ f h m. stay f (v.base f h m);
      closed = λ f g sites n h l c m. elim (set_cases before fun.0 g m) [
        | inl q ↦
            let same : s.sites ≡ sites = some_same s.sites sites (sym s.listed ∙ (ap (λ y. slice_get callers y) q ∙ l)) in
            inr (Contains-append_right rest (map caller_of s.sites) (record { 0 = f }) (mapped s.sites (record { 0 = f }) n (subst (λ y. Contains y (record { 0 = f }, n)) (sym same) c)))
        | inr old ↦ stay f (v.closed f g sites n h l c old)
      ];
    } in
    subst (λ l. Visiting callers here after l) (sym s.pushed) (subst (λ m. Visiting callers here m more) (sym s.marked) kept)
  where
    some_same : (x y : Sites) → Some x ≡ Some y → x ≡ y
    some_same x y h = cc

-- a visit keeps what the visits keep
pub visit_keeps : (callers : List Sites) (here before after : List Bool) (stack rest left : List FunNo) (fun : FunNo) → Visiting callers here before stack → stack ≡ rest ++ fun ∷ [] →
    Visits callers fun before after rest left → Visiting callers here after left
visit_keeps callers here before after stack rest left fun v popped (inl s) = visit_skips callers here before after stack rest left fun v popped s
visit_keeps callers here before after stack rest left fun v popped (inr m) = visit_marks callers here before after stack rest left fun v popped m

none_left : (stack : List FunNo) (f : FunNo) → stack ≡ [] → Contains stack f → ⊥
none_left stack f none c = let empty : length stack ≡ 0 = ap length none in let h = c.1 in omega arith

-- where nothing is still to be visited, what leads is marked
pub visited : (callers : List Sites) (here marks : List Bool) (stack : List FunNo) → length here ≡ length callers → Visiting callers here marks stack → stack ≡ [] → AreLeading callers here marks
visited callers here marks stack many v none = record {
  count = v.count;
  each = λ f h. (v.sound f, λ l. all f l h);
}
  where
    known : (x : ℕ) → IsKnown marks stack x → IsMarked marks x
    known x (inl m) = m
    known x (inr c) = absurd (none_left stack (record { 0 = x }) none c)

    all : (f : ℕ) → Leads callers here f → f < length here → IsMarked marks f
    all f (itself g m) h = known g (v.base g h m)
    all f (through g k sites n l c rest) h = known g (v.closed g k sites n h l c (all k rest (let w = slice_get_within callers k sites l in omega (arith, many))))
