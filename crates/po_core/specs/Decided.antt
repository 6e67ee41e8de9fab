-- Two files, functions, nodes or obligations are one or they aren't.
use Rattle.std.proofs.Common.{◌≡◌, ◌⊎◌, ℕ, ap, inl, inr, ◌∙◌}
use Rattle.std.specs.Prelude.{Bool, IsTrue, ◌↔◌}
use Rattle.std.proofs.lemmas.Bool.{cases_eq, cases_Bool, both_ways}
use Rattle.po_base.specs.declared.numbers.FileNo.{FileNo}
use Rattle.po_base.specs.declared.numbers.FunNo.{FunNo}
use Rattle.po_base.specs.declared.numbers.NodeNo.{NodeNo}
use Rattle.po_core.specs.declared.obl.Cause.{Cause}
use Rattle.po_core.specs.declared.obl.Cause.TheVariants.{Primary, Support}
use Rattle.po_core.specs.declared.obl.Obl.{Obl}

-- it is so or it isn't
abbrev pub IsDecided : Type 0 → Type 0
IsDecided A = A ⊎ (A → ⊥)

pub both_decided : {A B : Type 0} → IsDecided A → IsDecided B → IsDecided (A × B)
both_decided (inl a) (inl b) = inl (a, b)
both_decided (inl a) (inr no_b) = inr (λ h. no_b h.1)
both_decided (inr no_a) d = inr (λ h. no_a h.0)

pub files_decided : (f g : FileNo) → IsDecided (f ≡ g)
files_decided f g = elim (cases_eq f.0 g.0) [ inl q ↦ inl (let to : ℕ → FileNo = λ n. record { 0 = n } in ap to q) | inr q ↦ inr (λ p. q (ap (λ (x : FileNo). x.0) p)) ]

pub functions_decided : (f g : FunNo) → IsDecided (f ≡ g)
functions_decided f g = elim (cases_eq f.0 g.0) [ inl q ↦ inl (let to : ℕ → FunNo = λ n. record { 0 = n } in ap to q) | inr q ↦ inr (λ p. q (ap (λ (x : FunNo). x.0) p)) ]

pub nodes_decided : (f g : NodeNo) → IsDecided (f ≡ g)
nodes_decided f g = elim (cases_eq f.0 g.0) [ inl q ↦ inl (let to : ℕ → NodeNo = λ n. record { 0 = n } in ap to q) | inr q ↦ inr (λ p. q (ap (λ (x : NodeNo). x.0) p)) ]

module _ {P : Type 0} (decided : (p q : P) → IsDecided (p ≡ q)) where
  causes_decided : (a c : Cause P) → IsDecided (a ≡ c)
  causes_decided (Primary i) (Primary j) = elim (cases_eq i j) [ inl q ↦ inl (ap (λ (n : ℕ). Primary n) q) | inr q ↦ inr (λ p. q (cc)) ]
  causes_decided (Primary i) (Support q) = inr (λ p. cc)
  causes_decided (Support q) (Primary i) = inr (λ p. cc)
  causes_decided (Support p) (Support q) = elim (decided p q) [ inl e ↦ inl (ap (λ (n : P). Support n) e) | inr e ↦ inr (λ h. e (cc)) ]

  pub obligations_decided : (o p : Obl P) → IsDecided (o ≡ p)
  obligations_decided o p = elim (both_decided (functions_decided o.fun p.fun) (both_decided (nodes_decided o.node p.node) (causes_decided o.cause p.cause))) [
    | inl h ↦ inl (
        let a : ◌≡◌ {A = Obl P} o (record { fun = p.fun; node = o.node; cause = o.cause }) = ap (λ (f : FunNo). record o { fun = f }) h.0 in
        let c : ◌≡◌ {A = Obl P} (record { fun = p.fun; node = o.node; cause = o.cause }) (record { fun = p.fun; node = p.node; cause = o.cause }) = ap (λ (n : NodeNo). let x : Obl P = record { fun = p.fun; node = n; cause = o.cause } in x) h.1.0 in
        let d : ◌≡◌ {A = Obl P} (record { fun = p.fun; node = p.node; cause = o.cause }) p = ap (λ (k : Cause P). let x : Obl P = record { fun = p.fun; node = p.node; cause = k } in x) h.1.1 in
        a ∙ (c ∙ d)
        )
    | inr h ↦ inr (λ q. h (ap (λ (x : Obl P). x.fun) q, (ap (λ (x : Obl P). x.node) q, ap (λ (x : Obl P). x.cause) q)))
  ]

-- a test that says what is one decides it
pub decided_by : {X : Type 0} (same : X → X → Bool) → ((x y : X) → IsTrue (same x y) ↔ (x ≡ y)) → (x y : X) → IsDecided (x ≡ y)
decided_by same says x y = elim (cases_Bool (same x y)) [ inl q ↦ inl ((says x y).0 q) | inr q ↦ inr (λ h. both_ways (same x y) q ((says x y).1 h)) ]
