-- Obligations that are equal are the same.
use Rattle.std.proofs.Common.{◌≡◌, ℕ, refl, sym, ◌∙◌, ap, subst}
use Rattle.std.specs.Prelude.{Bool, true, false, ◌↔◌, IsTrue, nat_eq, ◌&&◌}
use Rattle.std.proofs.lemmas.Bool.Decides.{Decides-eqb}
use Rattle.po_base.specs.declared.numbers.FunNo.{FunNo}
use Rattle.po_base.specs.declared.numbers.NodeNo.{NodeNo}
use Rattle.po_core.specs.declared.obl.Cause.{Cause}
use Rattle.po_core.specs.declared.obl.Cause.TheVariants.{Primary, Support}
use Rattle.po_core.specs.declared.obl.Obl.{Obl}

-- Keys that are equal are the same.
pub record AreOne {K : Type 0} (eq : K → K → Bool) : Type 0 where
  pub tells : (k q : K) → IsTrue (eq k q) ↔ (k ≡ q)

both : (a b : Bool) → IsTrue (a && b) → IsTrue a × IsTrue b
both true b h = (refl, h)
both false b h = absurd (let q : false ≡ true = h in cc)

-- a comparison of obligations that answers part by part
module _ {P : Type 0} (by : P → P → Bool) (eq : Obl P → Obl P → Bool) where
  at : FunNo → NodeNo → Cause P → Obl P
  at f n c = record { fun = f; node = n; cause = c }

  abbrev cause_eq : Cause P → Cause P → Bool
  cause_eq (Primary i) (Primary j) = nat_eq i j
  cause_eq (Primary i) (Support q) = false
  cause_eq (Support p) (Primary j) = false
  cause_eq (Support p) (Support q) = by p q

  abbrev pub AnswersAt : FunNo → NodeNo → Cause P → FunNo → NodeNo → Cause P → Type 0
  AnswersAt f n a g m b = eq (record { fun = f; node = n; cause = a }) (record { fun = g; node = m; cause = b }) ≡ (nat_eq f.0 g.0 && (nat_eq n.0 m.0 && cause_eq a b))

  pub record PartByPart : Type 0 where
    pub both_own : (f g : FunNo) (n m : NodeNo) (i j : ℕ) → AnswersAt f n (Primary i) g m (Primary j)
    pub own_first : (f g : FunNo) (n m : NodeNo) (i : ℕ) (q : P) → AnswersAt f n (Primary i) g m (Support q)
    pub own_last : (f g : FunNo) (n m : NodeNo) (p : P) (j : ℕ) → AnswersAt f n (Support p) g m (Primary j)
    pub no_own : (f g : FunNo) (n m : NodeNo) (p q : P) → AnswersAt f n (Support p) g m (Support q)

  answers : PartByPart → (f g : FunNo) (n m : NodeNo) (a b : Cause P) → AnswersAt f n a g m b
  answers h f g n m (Primary i) (Primary j) = h.both_own f g n m i j
  answers h f g n m (Primary i) (Support q) = h.own_first f g n m i q
  answers h f g n m (Support p) (Primary j) = h.own_last f g n m p j
  answers h f g n m (Support p) (Support q) = h.no_own f g n m p q

  module _ (law : (p q : P) → IsTrue (by p q) ↔ (p ≡ q)) where
    cause_tells : (a b : Cause P) → IsTrue (cause_eq a b) → a ≡ b
    cause_tells (Primary i) (Primary j) h = ap (λ (z : ℕ). let c : Cause P = Primary z in c) ((Decides-eqb i j).0 h)
    cause_tells (Primary i) (Support q) h = absurd (let q : false ≡ true = h in cc)
    cause_tells (Support p) (Primary j) h = absurd (let q : false ≡ true = h in cc)
    cause_tells (Support p) (Support q) h = ap (λ (z : P). let c : Cause P = Support z in c) ((law p q).0 h)

    cause_itself : (a : Cause P) → IsTrue (cause_eq a a)
    cause_itself (Primary i) = (Decides-eqb i i).1 refl
    cause_itself (Support p) = (law p p).1 refl

    three : (a b c : Bool) → IsTrue a → IsTrue b → IsTrue c → IsTrue (a && (b && c))
    three a b c x y z = rw x (rw y z)

    obl_tells : PartByPart → (o p : Obl P) → IsTrue (eq o p) → o ≡ p
    obl_tells h o p e =
        let x = both _ _ (sym (answers h o.fun p.fun o.node p.node o.cause p.cause) ∙ e) in
        let y = both _ _ x.1 in
        let f = (Decides-eqb o.fun.0 p.fun.0).0 x.0 in
        let n = (Decides-eqb o.node.0 p.node.0).0 y.0 in
        let c = cause_tells o.cause p.cause y.1 in
        λ i. record { fun = record { 0 = f i }; node = record { 0 = n i }; cause = c i }

    obl_itself : PartByPart → (o : Obl P) → IsTrue (eq o o)
    obl_itself h o = answers h o.fun o.fun o.node o.node o.cause o.cause ∙ three _ _ _ ((Decides-eqb o.fun.0 o.fun.0).1 refl) ((Decides-eqb o.node.0 o.node.0).1 refl) (cause_itself o.cause)

    pub obligations_are_one : PartByPart → AreOne eq
    obligations_are_one h = record { tells = λ o p. (obl_tells h o p, λ q. subst (λ (z : Obl P). IsTrue (eq o z)) q (obl_itself h o)) }
