-- The book of a rulebook in small, for tests: three functions in two files that call each other in a circle. The first
-- asks two things by itself, and one of them is passed on to the callers, round the circle.
use Rattle.std.specs.Prelude.{ℕ, zero, suc, ◌≡◌, ◌<◌, List, [], ◌∷◌, Some, Bool, true, false, nat_eq, cond}
use Rattle.std.proofs.Common.{arith, inl, inr}
use Rattle.std.proofs.lemmas.Bool.{eqb-true, eq-eqb}
use Rattle.po_base.specs.declared.numbers.FunNo.{FunNo}
use Rattle.po_base.specs.declared.numbers.NodeNo.{NodeNo}
use Rattle.po_core.specs.Book.{Book, IsBook}
use Rattle.po_core.specs.declared.obl.Verdict.{Verdict}
use Rattle.po_core.specs.declared.obl.Verdict.TheVariants.{Open, Closed, Delegated}
use Rattle.po_lists.proofs.Members.{Has, has, contains}

-- what the first function asks by itself, at two nodes
abbrev pub own_places : ℕ → List (NodeNo × ℕ)
own_places zero = (record { 0 = 0 }, 0) ∷ ((record { 0 = 3 }, 0) ∷ [])
own_places (suc f) = []

-- who calls each function, and where: the first is called by the second and the third, the second by the first at a node
-- that asks something too, and the third by the second
abbrev pub callers : ℕ → List (FunNo × NodeNo)
callers zero = (record { 0 = 1 }, record { 0 = 4 }) ∷ ((record { 0 = 2 }, record { 0 = 5 }) ∷ [])
callers (suc zero) = (record { 0 = 0 }, record { 0 = 0 }) ∷ []
callers (suc (suc zero)) = (record { 0 = 1 }, record { 0 = 2 }) ∷ []
callers (suc (suc (suc f))) = []

-- what is asked in the third function is open, what is asked at node 3 is closed, and all else is passed on
abbrev pub verdict_by : Bool → Bool → Verdict ℕ ℕ
verdict_by true at_three = Open
verdict_by false true = Closed 1
verdict_by false false = Delegated 7

-- the first two functions are in the first file, and the third in the second
abbrev pub sample : Book ℕ ℕ ℕ
sample = record {
  files = 2;
  functions = 3;
  file_of = λ f. record { 0 = cond (nat_eq f.0 2) 1 0 };
  primaries = λ f. own_places f.0;
  call_sites = λ f. callers f.0;
  table_of = λ f. Some f.0;
  verdict_of = λ o. verdict_by (nat_eq o.fun.0 2) (nat_eq o.node.0 3);
  assumable = 7 ∷ [];
}

below_two : (b : Bool) → cond b 1 0 < 2
below_two true = omega arith
below_two false = omega arith

caller_there : (f : ℕ) (s : FunNo × NodeNo) → Has (callers f) s → s.0.0 < 3
caller_there zero s (inl q) = rw (← q) (omega arith)
caller_there zero s (inr (inl q)) = rw (← q) (omega arith)
caller_there zero s (inr (inr h)) = absurd h
caller_there (suc zero) s (inl q) = rw (← q) (omega arith)
caller_there (suc zero) s (inr h) = absurd h
caller_there (suc (suc zero)) s (inl q) = rw (← q) (omega arith)
caller_there (suc (suc zero)) s (inr h) = absurd h
caller_there (suc (suc (suc f))) s h = absurd h

passed_on : (a b : Bool) (q : ℕ) → verdict_by a b ≡ Delegated q → 7 ≡ q
passed_on true b q h = absurd (cc)
passed_on false true q h = absurd (cc)
passed_on false false q h = cc

pub sample_lawful : IsBook nat_eq sample
sample_lawful = record {
  files_there = λ f l. below_two (nat_eq f.0 2);
  callers_there = λ f g n l h. caller_there f.0 (g, n) (has (callers f.0) (g, n) h);
  delegates_assumable = λ o q h. contains (7 ∷ []) q (inl (passed_on (nat_eq o.fun.0 2) (nat_eq o.node.0 3) q h));
  equal_are_same = λ p q. (λ h. eqb-true p q h, λ h. eq-eqb p q h);
}
