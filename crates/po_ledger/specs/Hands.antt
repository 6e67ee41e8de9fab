-- What it is to settle a ticket's whole hand.
use Rattle.std.specs.Prelude.{ℕ, ◌≡◌, ◌<◌, ◌≤◌, List, [], ◌∷◌, ◌++◌, length, map, take, slice_get, slice_set, Some, Bool, true, false}
use Rattle.std.specs.List.{flat_map}
use Rattle.po_base.specs.declared.numbers.FileNo.{FileNo}
use Rattle.po_core.specs.Book.{Book}
use Rattle.po_core.specs.Core.{KeepsHands}
use Rattle.po_core.specs.declared.event.Event.{Event}
use Rattle.po_core.specs.declared.event.Event.TheVariants.{Post, Settle}
use Rattle.po_core.specs.declared.obl.Obl.{Obl}
use Rattle.po_core.specs.declared.obl.Verdict.{Verdict}
use Rattle.po_core.specs.declared.obl.Verdict.TheVariants.{Closed, Delegated, Open}
use Rattle.po_ledger.specs.Calls.{CanSettle, IsOpenAt}
use Rattle.po_ledger.specs.View.{LedgerView, TicketView, Fits, items_of}

-- the hand's items up to a place are settled, and the others are not
abbrev pub IsSettledUpTo : {P : Type 0} → List (Obl P × Bool) → ℕ → Type 0
IsSettledUpTo {P} hand at = (k : ℕ) (o : Obl P) (settled : Bool) → slice_get hand k ≡ Some (o, settled) → (k < at → settled ≡ true) × (at ≤ k → settled ≡ false)

-- the verdicts of a hand's obligations, in its order
abbrev pub AreVerdicts : {P N T : Type 0} → Book P N T → List (Obl P × Bool) → List (Verdict P N) → Type 0
AreVerdicts b hand verdicts = verdicts ≡ map b.verdict_of (items_of hand)

-- An unsettled item of a hand, with its verdict.
pub record IsDue {P N T : Type 0} (b : Book P N T) (t : TicketView P T) (k : ℕ) (v : Verdict P N) : Type 0 where
  pub item : Obl P
  pub open_item : IsOpenAt t k item
  pub verdict : v ≡ b.verdict_of item

-- what has to be posted before an obligation is settled with a verdict
abbrev pub posting : {P N : Type 0} → FileNo → Obl P → Verdict P N → List (Event P N)
posting file o (Delegated q) = Post file o q ∷ []
posting file o (Closed rule) = []
posting file o Open = []

-- how an obligation of a file is settled: its predicate is posted, where its verdict delegates, and then it is settled
abbrev pub settling : {P N T : Type 0} → Book P N T → FileNo → Obl P → List (Event P N)
settling b file o = posting file o (b.verdict_of o) ++ Settle file o (b.verdict_of o) ∷ []

-- the journal is the old one with more events behind it, or with none
abbrev pub Extends : {P N : Type 0} → List (Event P N) → List (Event P N) → Type 0
Extends {P} {N} old new = (more : List (Event P N)) × (new ≡ old ++ more)

-- The ticket is the same but for what is settled of its hand.
pub record KeepsItems {P T : Type 0} (old new : TicketView P T) : Type 0 where
  pub worker : new.worker ≡ old.worker
  pub file : new.file ≡ old.file
  pub items : items_of new.hand ≡ items_of old.hand
  pub tables : new.tables ≡ old.tables

-- Each item of the hand is settled, one after the other in its order, and nothing else happened.
pub record SettlesHand {P N T : Type 0} (b : Book P N T) (t u : TicketView P T) (old new : LedgerView P N T) : Type 0 where
  pub settled : IsSettledUpTo u.hand (length u.hand)
  pub appends : new.journal ≡ old.journal ++ flat_map (settling b t.file) (items_of t.hand)

-- The item at a place can be settled with a verdict, for which was posted what has to be.
pub record PostsBefore {P N T : Type 0} (b : Book P N T) (k : ℕ) (v : Verdict P N) (t : TicketView P T) (old new : LedgerView P N T) : Type 0 where
  pub can : CanSettle b new.state t k v
  pub hands : KeepsHands old.state new.state
  pub appends : new.journal ≡ old.journal ++ posting t.file can.item v

-- The item at a place is settled, after what has to be posted for it.
pub record SettlesPlace {P N T : Type 0} (b : Book P N T) (k : ℕ) (t u : TicketView P T) (old new : LedgerView P N T) : Type 0 where
  pub item : Obl P
  pub open_item : IsOpenAt t k item
  pub ticket : u ≡ record t { hand = slice_set t.hand k (item, true) }
  pub fits : Fits new.state u
  pub hands : KeepsHands old.state new.state
  pub appends : new.journal ≡ old.journal ++ settling b t.file item

-- The items of the hand up to a place are settled, and the ticket goes on to fit.
pub record SettlesFront {P N T : Type 0} (b : Book P N T) (k : ℕ) (t u : TicketView P T) (old new : LedgerView P N T) : Type 0 where
  pub ticket : KeepsItems t u
  pub settled : IsSettledUpTo u.hand k
  pub fits : Fits new.state u
  pub hands : KeepsHands old.state new.state
  pub appends : new.journal ≡ old.journal ++ flat_map (settling b t.file) (take k (items_of t.hand))
