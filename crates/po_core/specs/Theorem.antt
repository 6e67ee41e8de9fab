-- What is true of every legal list of events, whichever order the workers take.
use Rattle.std.specs.Prelude.{ℕ, zero, suc, ◌≡◌, ◌<◌, ◌+◌, ◌↔◌, List, [], ◌∷◌, ◌++◌, length, map}
use Rattle.std.specs.List.{Contains, flat_map}
use Rattle.po_base.specs.declared.numbers.FileNo.{FileNo}
use Rattle.po_base.specs.declared.numbers.FunNo.{FunNo}
use Rattle.po_core.specs.Book.{Book, IsSupport, file_of_obl}
use Rattle.po_core.specs.Core.{AreApart, CoreState, HasHand, HasMark, IsKnown, IsUntaken, IsSettled, IsAssumed, IsInHand}
use Rattle.po_core.specs.Least.{IsReported, IsNeeded}
use Rattle.po_core.specs.declared.event.Event.{Event}
use Rattle.po_core.specs.declared.event.Event.TheVariants.{Settle}
use Rattle.po_core.specs.declared.event.Hand.{Hand}
use Rattle.po_core.specs.declared.event.Mark.{Mark}
use Rattle.po_core.specs.declared.event.Mark.TheVariants.{Taken}
use Rattle.po_core.specs.declared.obl.Cause.TheVariants.{Primary, Support}
use Rattle.po_core.specs.declared.obl.Obl.{Obl}
use Rattle.po_core.specs.declared.obl.Verdict.{Verdict}

-- Nothing is known or assumed but what the least report has, and each verdict is the book's.
pub record IsWithin {P N T : Type 0} (b : Book P N T) (s : CoreState P N) : Type 0 where
  pub known : (o : Obl P) → IsKnown s o → IsReported b o
  pub assumed : (f : FunNo) (q : P) → IsAssumed s f q → IsNeeded b f q
  pub settled : (o : Obl P) (v : Verdict P N) → IsSettled s o v → v ≡ b.verdict_of o

-- no event settles the obligation
abbrev pub NoneSettles : {P N : Type 0} → List (Event P N) → Obl P → Type 0
NoneSettles {P} {N} es o = (file : FileNo) (v : Verdict P N) → ¬ Contains es (Settle file o v)

-- Just one event settles the obligation, with the verdict v.
pub record IsSettledOnce {P N : Type 0} (es : List (Event P N)) (o : Obl P) (v : Verdict P N) : Type 0 where
  pub file : FileNo
  pub before : List (Event P N)
  pub after : List (Event P N)
  pub at : es ≡ before ++ (Settle file o v ∷ after)
  pub not_before : NoneSettles before o
  pub not_after : NoneSettles after o

-- What is known and assumed is the least report, and each obligation of it was settled, once, with the book's verdict.
pub record IsLeast {P N T : Type 0} (b : Book P N T) (es : List (Event P N)) (s : CoreState P N) : Type 0 where
  pub known : (o : Obl P) → IsKnown s o ↔ IsReported b o
  pub assumed : (f : FunNo) (q : P) → IsAssumed s f q ↔ IsNeeded b f q
  pub settled : (o : Obl P) → IsKnown s o → IsSettled s o (b.verdict_of o)
  pub once : (o : Obl P) → IsKnown s o → IsSettledOnce es o (b.verdict_of o)

-- Each known obligation has one mark and a function that is there, a hand has obligations of its file alone, each
-- once and none untaken, what is taken is in its file's hand, and each call supports what is assumed of the function that it calls.
pub record IsOrderly {P N T : Type 0} (b : Book P N T) (s : CoreState P N) : Type 0 where
  pub one_mark : (o : Obl P) (m n : Mark P N) → HasMark s o m → HasMark s o n → m ≡ n
  pub functions_there : (o : Obl P) → IsKnown s o → o.fun.0 < b.functions
  pub hands_known : (file : FileNo) (o : Obl P) → IsInHand s file o → IsKnown s o
  pub hands_of_file : (file : FileNo) (o : Obl P) → IsInHand s file o → file_of_obl b o ≡ file
  pub hands_once : (file : FileNo) (hand : Hand P) → HasHand s file hand → AreApart hand.items
  pub hands_taken : (file : FileNo) (o : Obl P) → IsInHand s file o → ¬ IsUntaken s o
  pub taken_in_hand : (o : Obl P) → HasMark s o Taken → IsInHand s (file_of_obl b o) o
  pub supports_known : (f : FunNo) (q : P) (o : Obl P) → IsAssumed s f q → IsSupport b f q o → IsKnown s o

-- how many events settle an obligation
abbrev pub settle_count : {P N : Type 0} → List (Event P N) → ℕ
settle_count [] = 0
settle_count (Settle file o v ∷ es) = settle_count es + 1
settle_count (e ∷ es) = settle_count es

-- the functions below a number
abbrev pub functions_below : ℕ → List FunNo
functions_below zero = []
functions_below (suc n) = (record { 0 = n }) ∷ functions_below n

-- what a function asks by itself, and what its callers may have to support
abbrev pub possible_of : {P N T : Type 0} → Book P N T → FunNo → List (Obl P)
possible_of b f = map (λ p. record { fun = f; node = p.0; cause = Primary p.1 }) (b.primaries f) ++ flat_map (λ site. map (λ q. record { fun = site.0; node = site.1; cause = Support q }) b.assumable) (b.call_sites f)

-- how many obligations there can ever be
abbrev pub most_obligations : {P N T : Type 0} → Book P N T → ℕ
most_obligations b = length (flat_map (possible_of b) (functions_below b.functions))
