-- What the calls of a ledger do.
use Rattle.std.specs.Prelude.{ℕ, ◌≡◌, ◌+◌, ◌≤◌, ◌<◌, List, [], ◌∷◌, ◌++◌, Bool, true, false, length, Some, slice_get, slice_set}
use Rattle.std.specs.List.{Contains}
use Rattle.po_core.specs.Book.{Book}
use Rattle.po_core.specs.Core.{CoreState, AreApart, IsHeld, IsUntaken, IsAssumed, IsQuiet, IsStart, Steps}
use Rattle.po_core.specs.declared.event.Event.{Event}
use Rattle.po_core.specs.declared.event.Event.TheVariants.{Take, Post, Settle}
use Rattle.po_core.specs.declared.obl.Obl.{Obl}
use Rattle.po_core.specs.declared.obl.Verdict.{Verdict}
use Rattle.po_core.specs.declared.obl.Verdict.TheVariants.{Delegated}
use Rattle.po_ledger.specs.View.{LedgerView, TicketView, Fits}

-- A ledger to which nothing has happened.
pub record IsNew {P N T : Type 0} (b : Book P N T) (l : LedgerView P N T) : Type 0 where
  pub start : IsStart b l.state
  pub empty : l.journal ≡ []

-- The call is this one event: it was legal, the state has changed by its effect, and the journal has grown by it alone.
pub record Does {P N T : Type 0} (b : Book P N T) (e : Event P N) (old new : LedgerView P N T) : Type 0 where
  pub steps : Steps b e old.state new.state
  pub appends : new.journal ≡ old.journal ++ e ∷ []

-- the item at a place of a hand, not settled yet
abbrev pub IsOpenAt : {P T : Type 0} → TicketView P T → ℕ → Obl P → Type 0
IsOpenAt t k o = slice_get t.hand k ≡ Some (o, false)

-- the item at a place of a hand
abbrev pub IsItemAt : {P T : Type 0} → TicketView P T → ℕ → Obl P → Type 0
IsItemAt t k o = (settled : Bool) × (slice_get t.hand k ≡ Some (o, settled))

-- A new ticket: the worker has taken the ticket's file, nothing of the hand is settled, and there is room for one more
-- event for each item and for two besides.
pub record HandsOut {P N T : Type 0} (b : Book P N T) (worker : ℕ) (old new : LedgerView P N T) (t : TicketView P T) : Type 0 where
  pub did : Does b (Take worker t.file) old new
  pub by_worker : t.worker ≡ worker
  pub fits : Fits new.state t
  pub all_open : (o : Obl P) (settled : Bool) → Contains t.hand (o, settled) → settled ≡ false
  pub room : old.spare + (length t.hand + 2) ≤ new.spare

-- so many are in a set
abbrev pub Counts : {X : Type 0} → (X → Type 0) → ℕ → Type 0
Counts {X} P n = (xs : List X) × AreApart xs × ((x : X) → Contains xs x → P x) × ((x : X) → P x → Contains xs x) × (length xs ≡ n)

-- The ledger isn't quiet: so many files are held and so many obligations are untaken.
pub record IsBusy {P N : Type 0} (s : CoreState P N) (held untaken : ℕ) : Type 0 where
  pub busy : ¬ IsQuiet s
  pub held_files : Counts (λ file. IsHeld s file) held
  pub untaken_obligations : Counts (λ o. IsUntaken s o) untaken
  pub not_none : 0 < held + untaken

-- the verdict of the item at a place of a hand
abbrev pub Judges : {P N T : Type 0} → Book P N T → TicketView P T → ℕ → Verdict P N → Type 0
Judges {P} b t k v = (o : Obl P) × IsItemAt t k o × (v ≡ b.verdict_of o)

-- The ticket is the same but for the tables that are at hand.
pub record KeepsTicket {P T : Type 0} (old new : TicketView P T) : Type 0 where
  pub worker : new.worker ≡ old.worker
  pub file : new.file ≡ old.file
  pub hand : new.hand ≡ old.hand

-- An item of a fitting ticket can be settled with a verdict.
pub record CanSettle {P N T : Type 0} (b : Book P N T) (s : CoreState P N) (t : TicketView P T) (k : ℕ) (v : Verdict P N) : Type 0 where
  pub fits : Fits s t
  pub item : Obl P
  pub open_item : IsOpenAt t k item
  pub verdict : v ≡ b.verdict_of item
  pub assumed : (q : P) → v ≡ Delegated q → IsAssumed s item.fun q

-- The item is settled, in the ledger and in the ticket, which goes on to fit.
pub record SettlesItem {P N T : Type 0} (b : Book P N T) (k : ℕ) (v : Verdict P N) (t u : TicketView P T) (old new : LedgerView P N T) : Type 0 where
  pub item : Obl P
  pub open_item : IsOpenAt t k item
  pub did : Does b (Settle t.file item v) old new
  pub ticket : u ≡ record t { hand = slice_set t.hand k (item, true) }
  pub fits : Fits new.state u

-- An item of a fitting ticket has a verdict that delegates to a predicate.
pub record CanPost {P N T : Type 0} (b : Book P N T) (s : CoreState P N) (t : TicketView P T) (k : ℕ) (q : P) : Type 0 where
  pub fits : Fits s t
  pub item : Obl P
  pub open_item : IsOpenAt t k item
  pub verdict : b.verdict_of item ≡ Delegated q

-- The predicate is posted for the item, and the ticket goes on to fit.
pub record PostsItem {P N T : Type 0} (b : Book P N T) (k : ℕ) (q : P) (t : TicketView P T) (old new : LedgerView P N T) : Type 0 where
  pub item : Obl P
  pub open_item : IsOpenAt t k item
  pub did : Does b (Post t.file item q) old new
  pub fits : Fits new.state t

-- A fitting ticket of which all is settled.
pub record CanGive {P N T : Type 0} (s : CoreState P N) (t : TicketView P T) : Type 0 where
  pub fits : Fits s t
  pub all_settled : (o : Obl P) (settled : Bool) → Contains t.hand (o, settled) → settled ≡ true
