-- What is known is among finitely many obligations.
use Rattle.std.proofs.Common.{◌≡◌, ℕ, zero, suc, ◌<◌, List, map, sym, ap, subst, inl, inr, arith}
use Rattle.std.specs.List.{Contains, flat_map}
use Rattle.std.specs.Prelude.{Bool}
use Rattle.std.proofs.lemmas.Bool.{cases_eq}
use Rattle.std.proofs.lemmas.List.Elements.{Contains-append_left, Contains-append_right}
use Rattle.po_base.specs.declared.numbers.FunNo.{FunNo}
use Rattle.po_base.specs.declared.numbers.NodeNo.{NodeNo}
use Rattle.po_core.specs.Book.{Book, IsBook, IsPrimary, IsSupport}
use Rattle.po_core.specs.Core.{CoreState, Replays}
use Rattle.po_core.specs.Least.{IsClosed}
use Rattle.po_core.specs.Theorem.{functions_below, possible_of}
use Rattle.po_core.specs.declared.event.Event.{Event}
use Rattle.po_core.specs.declared.obl.Cause.{Cause}
use Rattle.po_core.specs.declared.obl.Cause.TheVariants.{Primary, Support}
use Rattle.po_core.specs.declared.obl.Obl.{Obl}
use Rattle.po_lists.proofs.Members.{Has, contains_map, contains_flat_map, flat_map_has}
use Rattle.po_core.proofs.Inside.{IsInside, inside}

functions_has : (n : ℕ) (f : FunNo) → f.0 < n → Has (functions_below n) f
functions_has zero f l = absurd (omega arith)
functions_has (suc n) f l = elim (cases_eq n f.0) [ inl q ↦ inl (let to : ℕ → FunNo = λ k. record { 0 = k } in ap to q) | inr q ↦ inr (functions_has n f (let ne : n ≡ f.0 → ⊥ = q in omega arith)) ]

module _ {P N T : Type 0} (b : Book P N T) (eq : P → P → Bool) (law : IsBook eq b) where
  abbrev pub IsPossible : Obl P → Type 0
  IsPossible o = (o.fun.0 < b.functions) × Contains (flat_map (possible_of b) (functions_below b.functions)) o

  abbrev pub IsAssumable : FunNo → P → Type 0
  IsAssumable f q = (f.0 < b.functions) × Contains b.assumable q

  possible_at : (f : FunNo) (o : Obl P) → f.0 < b.functions → Contains (possible_of b f) o → Contains (flat_map (possible_of b) (functions_below b.functions)) o
  possible_at f o l h = flat_map_has (possible_of b) (functions_below b.functions) f o (functions_has b.functions f l) h

  primary_possible : (o : Obl P) → IsPrimary b o → IsPossible o
  primary_possible o p =
      let make : (NodeNo × ℕ) → Obl P = λ x. record { fun = o.fun; node = x.0; cause = Primary x.1 } in
      let here : Contains (map make (b.primaries o.fun)) (make (o.node, p.0)) = contains_map make (b.primaries o.fun) (o.node, p.0) p.3 in
      let with : Cause P → Obl P = λ k. record { fun = o.fun; node = o.node; cause = k } in
      let is : make (o.node, p.0) ≡ o = ap with (sym p.2) in
      (p.1, possible_at o.fun o p.1 (Contains-append_left (map make (b.primaries o.fun)) _ o (subst (λ (x : Obl P). Contains (map make (b.primaries o.fun)) x) is here)))

  support_possible : (f : FunNo) (q : P) (o : Obl P) → IsAssumable f q → IsSupport b f q o → IsPossible o
  support_possible f q o a s =
      let make : (FunNo × NodeNo) → P → Obl P = λ x r. record { fun = x.0; node = x.1; cause = Support r } in
      let with : Cause P → Obl P = λ k. record { fun = o.fun; node = o.node; cause = k } in
      let here : Contains (map (make (o.fun, o.node)) b.assumable) (make (o.fun, o.node) q) = contains_map (make (o.fun, o.node)) b.assumable q a.1 in
      let is : make (o.fun, o.node) q ≡ o = ap with (sym s.0) in
      let there : Contains (flat_map (λ (x : FunNo × NodeNo). map (make x) b.assumable) (b.call_sites f)) o = contains_flat_map (λ (x : FunNo × NodeNo). map (make x) b.assumable) (b.call_sites f) (o.fun, o.node) o s.1 (subst (λ (x : Obl P). Contains (map (make (o.fun, o.node)) b.assumable) x) is here) in
      (law.callers_there f o.fun o.node a.0 s.1, possible_at f o a.0 (Contains-append_right (map (λ p. record { fun = f; node = p.0; cause = Primary p.1 }) (b.primaries f)) _ o there))

  pub possible_closed : IsClosed b IsPossible IsAssumable
  possible_closed = record {
    asks = primary_possible;
    assumes = λ o q r d. (r.0, law.delegates_assumable o q d);
    supports = support_possible;
  }

  pub all_possible : (es : List (Event P N)) (t : CoreState P N) → Replays b es t → IsInside b IsPossible IsAssumable possible_closed t
  all_possible es t r = inside b IsPossible IsAssumable possible_closed es t r
