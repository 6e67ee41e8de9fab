-- What the parts of a ledger's calls do to its lists.
use Rattle.std.specs.Prelude.{ℕ, zero, suc, ◌≡◌, ◌<◌, ◌⊎◌, ◌↔◌, List, [], ◌∷◌, ◌++◌, length, map, slice_get, slice_index_or, Option, Some, Bool, IsTrue}
use Rattle.std.specs.List.{Contains}
use Rattle.std.specs.List.Sorted.{IsPermutation, IsSortedByKey}
use Rattle.std.specs.declared.cmp.Ordering.{Ordering}
use Rattle.po_base.specs.declared.numbers.FileNo.{FileNo}
use Rattle.po_base.specs.declared.numbers.FunNo.{FunNo}
use Rattle.po_base.specs.declared.numbers.NodeNo.{NodeNo}
use Rattle.po_core.specs.Book.{Book, file_of_obl}
use Rattle.po_core.specs.Core.{AreApart}
use Rattle.po_core.specs.declared.event.Hand.{Hand}
use Rattle.po_core.specs.declared.event.Mark.{Mark}
use Rattle.po_core.specs.declared.event.Mark.TheVariants.{Untaken, Taken, Settled}
use Rattle.po_core.specs.declared.obl.Cause.TheVariants.{Primary, Support}
use Rattle.po_core.specs.declared.obl.Obl.{Obl}
use Rattle.po_core.specs.declared.obl.Verdict.{Verdict}
use Rattle.po_ledger.specs.View.{items_of}
pub use Rattle.po_marks.specs.Known.{HasKey, HasVerdict, AddsUntaken, AddsEach, AreRemarked, primaries_of, primaries_below, supports_of}
pub use Rattle.po_marks.specs.Waiting.{TakesFrom}

-- the file is held
abbrev pub HandAt : {P : Type 0} → List (Option (Hand P)) → FileNo → Type 0
HandAt {P} hands file = (hand : Hand P) × (slice_get hands file.0 ≡ Some (Some hand))

-- each list of call sites is that of its function
abbrev pub AreCallSites : {P N T : Type 0} → Book P N T → List (FunNo × List (FunNo × NodeNo)) → Type 0
AreCallSites b kept = (f : FunNo) (sites : List (FunNo × NodeNo)) → Contains kept (f, sites) → sites ≡ b.call_sites f

-- the item is there already, or is new at the end
abbrev pub AddsItem : {X : Type 0} → List X → List X → X → Type 0
AddsItem old new x = (Contains old x × (new ≡ old)) ⊎ ((¬ Contains old x) × (new ≡ old ++ x ∷ []))

-- two lists have the same items
abbrev pub AreSame : {X : Type 0} → List X → List X → Type 0
AreSame {X} old new = (x : X) → Contains new x ↔ Contains old x

-- Pairs were sorted by the first of each.
pub record AreSorted {K V : Type 0} (cmp : K → K → Ordering) (old new : List (K × V)) : Type 0 where
  pub same : IsPermutation old new
  pub sorted : IsSortedByKey (λ pair. pair.0) cmp new

-- lines are just the settled obligations with their verdicts
abbrev pub ListsVerdicts : {P N : Type 0} → List (Obl P × Mark P N) → List (Obl P × Verdict P N) → Type 0
ListsVerdicts {P} {N} marks lines = (o : Obl P) (v : Verdict P N) → Contains lines (o, v) ↔ Contains marks (o, Settled v)

-- Lines are just the settled obligations with their verdicts, each once.
pub record AreLines {P N : Type 0} (marks : List (Obl P × Mark P N)) (lines : List (Obl P × Verdict P N)) : Type 0 where
  pub each : ListsVerdicts marks lines
  pub apart : AreApart (map (λ line. line.0) lines)

-- a mark that is a verdict makes a line at the end, and another mark makes none
abbrev pub AddsLine : {P N : Type 0} → (Obl P × Mark P N) → List (Obl P × Verdict P N) → List (Obl P × Verdict P N) → Type 0
AddsLine (o, Settled v) old new = new ≡ old ++ (o, v) ∷ []
AddsLine (o, Untaken) old new = new ≡ old
AddsLine (o, Taken) old new = new ≡ old

-- each item that is settled in a hand has a verdict, and each other has none
abbrev pub AgreesOn : {P N : Type 0} → List (Obl P × Mark P N) → List (Obl P × Bool) → Type 0
AgreesOn {P} marks hand = (o : Obl P) (settled : Bool) → Contains hand (o, settled) → IsTrue settled ↔ HasVerdict marks o

-- A hand that the ledger keeps is that of a worker's ticket.
pub record IsHandOf {P N : Type 0} (marks : List (Obl P × Mark P N)) (hand : Hand P) (worker : ℕ) (own : List (Obl P × Bool)) : Type 0 where
  pub by_worker : hand.worker ≡ worker
  pub same_items : hand.items ≡ items_of own
  pub same_settled : AgreesOn marks own
