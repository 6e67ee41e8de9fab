-- Assumptions, and call sites that were asked for.
use Rattle.std.proofs.Common.{◌≡◌, ℕ, cond, List, [], ◌∷◌, ◌++◌, refl, sym, ◌∙◌, ap, subst, inl, inr}
use Rattle.std.specs.Prelude.{Bool, true, false, IsTrue, ◌↔◌, ◌&&◌, ◌||◌, nat_eq, Some, slice_get}
use Rattle.std.specs.List.{Contains, list_any}
use Rattle.std.proofs.lemmas.Bool.{false≢true}
use Rattle.std.proofs.lemmas.Bool.Decides.{Decides-eqb}
use Rattle.std.proofs.lemmas.List.{append-nil}
use Rattle.std.proofs.lemmas.List.Elements.{Contains-push_cases}
use Rattle.po_base.specs.declared.numbers.FunNo.{FunNo}
use Rattle.po_base.specs.declared.numbers.NodeNo.{NodeNo}
use Rattle.po_core.specs.Book.{Book, IsSupport}
use Rattle.po_lists.proofs.Members.{Has, has, contains, has_from_map, has_item}
use Rattle.po_core.specs.declared.event.Mark.{Mark}
use Rattle.po_core.specs.declared.obl.Cause.TheVariants.{Support}
use Rattle.po_core.specs.declared.obl.Obl.{Obl}
use Rattle.po_ledger.specs.Parts.{AddsEach, AreCallSites, HasKey, supports_of}

pub call_sites_put : {P N T : Type 0} (b : Book P N T) (old new : List (FunNo × List (FunNo × NodeNo))) (f : FunNo) (sites : List (FunNo × NodeNo)) → AreCallSites b old → sites ≡ b.call_sites f → new ≡ old ++ (f, sites) ∷ [] → AreCallSites b new
call_sites_put b old new f sites right asked is g s h = elim (Contains-push_cases old (f, sites) (g, s) (subst (λ (z : List (FunNo × List (FunNo × NodeNo))). Contains z (g, s)) is h)) [
  | inl k ↦ right g s k
  | inr q ↦ subst (λ (z : FunNo × List (FunNo × NodeNo)). z.1 ≡ b.call_sites z.0) q asked
]

pub call_sites_right : {P N T : Type 0} (b : Book P N T) (kept : List (FunNo × List (FunNo × NodeNo))) (at : ℕ) (read : List (FunNo × NodeNo)) (f : FunNo) → AreCallSites b kept → (s : List (FunNo × NodeNo)) × (slice_get kept at ≡ Some (f, s)) → ((g : FunNo) (s : List (FunNo × NodeNo)) → slice_get kept at ≡ Some (g, s) → read ≡ s) → read ≡ b.call_sites f
call_sites_right b kept at read f right found is = is f found.0 found.1 ∙ right f found.0 (contains kept (f, found.0) (has_item kept at (f, found.0) found.1))

-- a pair of a function and a predicate is compared part by part
both : (a c : Bool) → IsTrue (a && c) → IsTrue a × IsTrue c
both true c h = (refl, h)
both false c h = absurd (false≢true h)

pub pair_tells : {P : Type 0} (eq : P → P → Bool) → ((p q : P) → IsTrue (eq p q) ↔ (p ≡ q)) → (x y : FunNo × P) → IsTrue (nat_eq x.0.0 y.0.0 && eq x.1 y.1) ↔ (x ≡ y)
pair_tells eq same x y = (
  λ h.
      let parts = both (nat_eq x.0.0 y.0.0) (eq x.1 y.1) h in
      let number : x.0.0 ≡ y.0.0 = (Decides-eqb x.0.0 y.0.0).0 parts.0 in
      let to : ℕ → FunNo = λ n. record { 0 = n } in
      let function : x.0 ≡ y.0 = ap to number in
      let pred : x.1 ≡ y.1 = (same x.1 y.1).0 parts.1 in
      λ i. (function i, pred i),
  λ q.
      let number : nat_eq x.0.0 y.0.0 ≡ true = (Decides-eqb x.0.0 y.0.0).1 (ap (λ (z : FunNo × _). z.0.0) q) in
      let pred : eq x.1 y.1 ≡ true = (same x.1 y.1).1 (ap (λ (z : FunNo × _). z.1) q) in
      ap (λ (z : Bool). z && eq x.1 y.1) number ∙ pred,
)

-- whether a key that a test finds stands in a list
module _ {K : Type 0} (test : K → Bool) (k : K) (tells : (q : K) → IsTrue (test q) ↔ (k ≡ q)) where
  any_has : (ks : List K) → list_any test ks ≡ true → Has ks k
  any_has [] h = absurd (false≢true h)
  any_has (x ∷ xs) h = by (test x) refl h (any_has xs)
    where
      by : (b : Bool) → test x ≡ b → list_any test (x ∷ xs) ≡ true → (list_any test xs ≡ true → Has xs k) → Has (x ∷ xs) k
      by true t h rest = inl (sym ((tells x).0 t))
      by false t h rest = inr (rest (rw t at h))

  has_any : (ks : List K) → Has ks k → list_any test ks ≡ true
  has_any [] h = absurd h
  has_any (x ∷ xs) h = by (test x) refl h (has_any xs)
    where
      by : (b : Bool) → test x ≡ b → Has (x ∷ xs) k → (Has xs k → list_any test xs ≡ true) → list_any test (x ∷ xs) ≡ true
      by true t h rest = rw t refl
      by false t (inl q) rest = absurd (false≢true (sym t ∙ (tells x).1 (sym q)))
      by false t (inr h) rest = rw t (rest h)

  pub any_tells : (ks : List K) (found : Bool) → found ≡ list_any test ks → IsTrue found ↔ Contains ks k
  any_tells ks found is = (λ h. contains ks k (any_has ks (sym is ∙ h)), λ h. is ∙ has_any ks (has ks k h))

  -- a key that is new goes to the end
  pub new_key : (ks new : List K) → new ≡ cond (list_any test ks) ks (ks ++ k ∷ []) → ¬ Contains ks k → new ≡ ks ++ k ∷ []
  new_key ks new is fresh = is ∙ by (list_any test ks) refl
    where
      by : (b : Bool) → list_any test ks ≡ b → cond (list_any test ks) ks (ks ++ k ∷ []) ≡ ks ++ k ∷ []
      by true t = absurd (fresh (contains ks k (any_has ks t)))
      by false t = ap (λ (z : Bool). cond z ks (ks ++ k ∷ [])) t

-- where the supports are known already nothing is added
pub adds_known : {P N : Type 0} (os : List (Obl P)) (marks : List (Obl P × Mark P N)) → ((o : Obl P) → Contains os o → HasKey marks o) → AddsEach os marks marks
adds_known os marks known = record {
  more = [];
  extends = sym (append-nil marks);
  there = known;
  fresh = λ o m h. absurd (has [] (o, m) h);
  apart = λ a. a;
}

-- the supports of a predicate are just what is supported at the calls
pub supports_are : {P N T : Type 0} (b of_book : Book P N T) (same : of_book ≡ b) (f : FunNo) (q : P) (o : Obl P) → Contains (supports_of q (of_book.call_sites f)) o → IsSupport b f q o
supports_are {P} {N} {T} b of_book same f q o h =
    let make : (FunNo × NodeNo) → Obl P = λ x. record { fun = x.0; node = x.1; cause = Support q } in
    let x = has_from_map make (of_book.call_sites f) o (has _ o h) in
    let here : IsSupport of_book f q o = subst (λ (z : Obl P). IsSupport of_book f q z) x.2 (refl, contains (of_book.call_sites f) (x.0.0, x.0.1) x.1) in
    subst (λ (z : Book P N T). IsSupport z f q o) same here

pub no_call_sites : {P N T : Type 0} (b : Book P N T) (kept : List (FunNo × List (FunNo × NodeNo))) → kept ≡ [] → AreCallSites b kept
no_call_sites b kept none f s h = absurd (has [] (f, s) (subst (λ (z : List (FunNo × List (FunNo × NodeNo))). Contains z (f, s)) none h))
