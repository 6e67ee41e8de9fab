-- The book of a rulebook in small, for tests: four functions, each in a file of its own, that call each other in a circle. The first and the
-- third ask something by themselves, which goes round the circle and is open where it comes to the first.
use Rattle.std.specs.Prelude.{ℕ, zero, suc, ◌≡◌, ◌<◌, ◌&&◌, List, [], ◌∷◌, Some, Bool, true, false, nat_eq}
use Rattle.std.proofs.Common.{arith, inl, inr}
use Rattle.std.proofs.lemmas.Bool.{eqb-true, eq-eqb}
use Rattle.po_base.specs.declared.numbers.FunNo.{FunNo}
use Rattle.po_base.specs.declared.numbers.NodeNo.{NodeNo}
use Rattle.po_core.specs.Book.{Book, IsBook}
use Rattle.po_core.specs.declared.obl.Verdict.{Verdict}
use Rattle.po_core.specs.declared.obl.Verdict.TheVariants.{Open, Delegated}
use Rattle.po_lists.proofs.Members.{Has, has, contains}

-- the first and the third ask something at node 0
abbrev pub own_places : ℕ → List (NodeNo × ℕ)
own_places zero = (record { 0 = 0 }, 0) ∷ []
own_places (suc zero) = []
own_places (suc (suc zero)) = (record { 0 = 0 }, 0) ∷ []
own_places (suc (suc (suc f))) = []

-- the function that calls another
abbrev pub caller : ℕ → ℕ
caller zero = 1
caller (suc zero) = 2
caller (suc (suc zero)) = 3
caller (suc (suc (suc f))) = 0

-- what is asked at a call of the first function is open, and all else is passed on
abbrev pub verdict_by : Bool → Verdict ℕ ℕ
verdict_by true = Open
verdict_by false = Delegated 7

abbrev pub ring : Book ℕ ℕ ℕ
ring = record {
  files = 4;
  functions = 4;
  file_of = λ f. record { 0 = f.0 };
  primaries = λ f. own_places f.0;
  call_sites = λ f. (record { 0 = caller f.0 }, record { 0 = 1 }) ∷ [];
  table_of = λ f. Some f.0;
  verdict_of = λ o. verdict_by (nat_eq o.fun.0 0 && nat_eq o.node.0 1);
  assumable = 7 ∷ [];
}

caller_there : (f : ℕ) → caller f < 4
caller_there zero = omega arith
caller_there (suc zero) = omega arith
caller_there (suc (suc zero)) = omega arith
caller_there (suc (suc (suc f))) = omega arith

site_there : (f : ℕ) (s : FunNo × NodeNo) → Has ((record { 0 = caller f }, record { 0 = 1 }) ∷ []) s → s.0.0 < 4
site_there f s (inl q) = let there = caller_there f in rw (← q) there
site_there f s (inr h) = absurd h

passed_on : (b : Bool) (q : ℕ) → verdict_by b ≡ Delegated q → 7 ≡ q
passed_on true q h = absurd (cc)
passed_on false q h = cc

pub ring_lawful : IsBook nat_eq ring
ring_lawful = record {
  files_there = λ f l. l;
  callers_there = λ f g n l h. site_there f.0 (g, n) (has (ring.call_sites f) (g, n) h);
  delegates_assumable = λ o q h. contains (7 ∷ []) q (inl (passed_on (nat_eq o.fun.0 0 && nat_eq o.node.0 1) q h));
  equal_are_same = λ p q. (λ h. eqb-true p q h, λ h. eq-eqb p q h);
}
