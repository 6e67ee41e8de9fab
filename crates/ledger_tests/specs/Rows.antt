-- The book of a rulebook in small: functions that call each other in a chain or in a circle, dealt to some files in turn.
use Rattle.std.proofs.Common.{arith, inl, inr, refl}
use Rattle.std.specs.Prelude.{ℕ, zero, suc, ◌+◌, ◌%◌, ◌≡◌, ◌<◌, List, [], ◌∷◌, Option, Some, None, Bool, true, false, nat_eq, nat_lt, cond}
use Rattle.std.proofs.Math.Nat.{mod-lt}
use Rattle.std.proofs.lemmas.Bool.{eqb-true, eq-eqb, ltb-true}
use Rattle.po_base.specs.declared.numbers.FunNo.{FunNo}
use Rattle.po_base.specs.declared.numbers.NodeNo.{NodeNo}
use Rattle.po_core.specs.Book.{Book, IsBook}
use Rattle.po_lists.proofs.Members.{Has, has, contains}
use Rattle.po_core.specs.declared.obl.Cause.{Cause}
use Rattle.po_core.specs.declared.obl.Cause.TheVariants.{Primary, Support}
use Rattle.po_core.specs.declared.obl.Verdict.{Verdict}
use Rattle.po_core.specs.declared.obl.Verdict.TheVariants.{Closed, Delegated, Open}

-- each function is called by the next one, and the last one by the first where they stand in a circle
abbrev pub caller : Bool → ℕ → ℕ → Option FunNo
caller is_circle functions f = cond (nat_lt (f + 1) functions) (Some (record { 0 = f + 1 })) (cond is_circle (Some (record { 0 = 0 })) None)

-- a call stands at node 1, or at nodes 1 and 2
abbrev pub sites : Bool → Option FunNo → List (FunNo × NodeNo)
sites is_twice None = []
sites true (Some g) = (g, record { 0 = 1 }) ∷ (g, record { 0 = 2 }) ∷ []
sites false (Some g) = (g, record { 0 = 1 }) ∷ []

-- where a function that asks asks
abbrev pub places : Bool → List (NodeNo × ℕ)
places true = (record { 0 = 0 }, 0) ∷ (record { 0 = 0 }, 1) ∷ (record { 0 = 3 }, 2) ∷ []
places false = []

-- predicate 7 is passed on as itself, and each other one as predicate 8
abbrev pub delegated_as : ℕ → ℕ
delegated_as q = cond (nat_eq q 7) 7 8

-- the second of what a function asks is closed; what is passed on to a call is open in one function; all else is passed on
abbrev pub verdict_by : Cause ℕ → Bool → Verdict ℕ ℕ
verdict_by (Primary zero) is_open = Delegated 7
verdict_by (Primary (suc zero)) is_open = Closed 9
verdict_by (Primary (suc (suc i))) is_open = Delegated 8
verdict_by (Support q) true = Open
verdict_by (Support q) false = Delegated (delegated_as q)

abbrev pub book_of : ℕ → ℕ → Bool → Bool → ℕ → ℕ → Book ℕ ℕ ℕ
book_of functions more_files is_circle is_twice silent open_at = record {
  files = more_files + 1;
  functions = functions;
  file_of = λ f. record { 0 = f.0 % (more_files + 1) };
  primaries = λ f. places (nat_eq (f.0 % (silent + 1)) 0);
  call_sites = λ f. sites is_twice (caller is_circle functions f.0);
  table_of = λ f. Some f.0;
  verdict_of = λ o. verdict_by o.cause (nat_eq o.fun.0 open_at);
  assumable = 7 ∷ 8 ∷ [];
}

-- three functions in one file that call each other in a circle, each at two nodes, and all of which ask
abbrev pub calls : Book ℕ ℕ ℕ
calls = book_of 3 0 true true 0 9

-- who calls is there
site_of : (is_twice : Bool) (g : Option FunNo) (n : ℕ) → ((h : FunNo) → g ≡ Some h → h.0 < n) → (s : FunNo × NodeNo) → Has (sites is_twice g) s → s.0.0 < n
site_of is_twice None n there s h = absurd h
site_of true (Some g) n there s (inl q) = let l = there g refl in rw (← q) l
site_of true (Some g) n there s (inr (inl q)) = let l = there g refl in rw (← q) l
site_of true (Some g) n there s (inr (inr h)) = absurd h
site_of false (Some g) n there s (inl q) = let l = there g refl in rw (← q) l
site_of false (Some g) n there s (inr h) = absurd h

caller_there : (is_circle : Bool) (n f : ℕ) → f < n → (next : Bool) → (next ≡ true → f + 1 < n) → (h : FunNo) → cond next (Some (record { 0 = f + 1 })) (cond is_circle (Some (record { 0 = 0 })) None) ≡ Some h → h.0 < n
caller_there is_circle n f l true is h q = let m = is refl in let same : ◌≡◌ {A = FunNo} (record { 0 = f + 1 }) h = cc in rw (← same) m
caller_there true n f l false is h q = let same : ◌≡◌ {A = FunNo} (record { 0 = 0 }) h = cc in let some : 0 < n = omega arith in rw (← same) some
caller_there false n f l false is h q = absurd (cc)

passed : (b : Bool) → Has {X = ℕ} (7 ∷ 8 ∷ []) (cond b 7 8)
passed true = inl refl
passed false = inr (inl refl)

delegates : (c : Cause ℕ) (is_open : Bool) (q : ℕ) → verdict_by c is_open ≡ Delegated q → Has {X = ℕ} (7 ∷ 8 ∷ []) q
delegates (Primary zero) is_open q h = inl (cc)
delegates (Primary (suc zero)) is_open q h = absurd (cc)
delegates (Primary (suc (suc i))) is_open q h = inr (inl (cc))
delegates (Support p) true q h = absurd (cc)
delegates (Support p) false q h = let same : delegated_as p ≡ q = cc in let x = passed (nat_eq p 7) in rw (← same) x

pub book_lawful : (functions more_files : ℕ) (is_circle is_twice : Bool) (silent open_at : ℕ) → IsBook nat_eq (book_of functions more_files is_circle is_twice silent open_at)
book_lawful functions more_files is_circle is_twice silent open_at = record {
  files_there = λ f l. mod-lt f.0 (let some : 0 < more_files + 1 = omega arith in some);
  callers_there = λ f g n l h. site_of is_twice (caller is_circle functions f.0) functions (caller_there is_circle functions f.0 l (nat_lt (f.0 + 1) functions) (λ t. ltb-true (f.0 + 1) functions t)) (g, n) (has _ (g, n) h);
  delegates_assumable = λ o q h. contains (7 ∷ 8 ∷ []) q (delegates o.cause (nat_eq o.fun.0 open_at) q h);
  equal_are_same = λ p q. (λ h. eqb-true p q h, λ h. eq-eqb p q h);
}
