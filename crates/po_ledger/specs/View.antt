-- What contracts see of a ledger and of a ticket, and what is true of each ledger.
use Rattle.std.specs.Prelude.{ℕ, ◌≡◌, ◌+◌, ◌≤◌, ◌<◌, ◌↔◌, List, Bool, length, map, Option, Some, slice_get, IsTrue}
use Rattle.std.specs.List.{Contains}
use Rattle.po_base.specs.declared.numbers.FileNo.{FileNo}
use Rattle.po_base.specs.declared.numbers.FunNo.{FunNo}
use Rattle.po_core.specs.Book.{Book}
use Rattle.po_core.specs.Core.{CoreState, AreApart, HasMark, HasHand, IsHeld, IsSettled, Replays}
use Rattle.po_core.specs.declared.event.Event.{Event}
use Rattle.po_core.specs.declared.event.Hand.{Hand}
use Rattle.po_core.specs.declared.event.Mark.{Mark}
use Rattle.po_core.specs.declared.event.Mark.TheVariants.{Taken}
use Rattle.po_core.specs.declared.obl.Obl.{Obl}
use Rattle.po_core.specs.declared.obl.Verdict.{Verdict}

-- A ledger: its core state, the events that led to it, for how many more there is room, and for each file by its number the
-- tables that are kept for it.
pub record LedgerView (P N T : Type 0) : Type 0 where
  pub state : CoreState P N
  pub journal : List (Event P N)
  pub spare : ℕ
  pub tables : List (List (FunNo × T))

-- A ticket: which worker holds which file, each obligation of its hand and whether it is settled, and the tables that
-- are at hand.
pub record TicketView (P T : Type 0) : Type 0 where
  pub worker : ℕ
  pub file : FileNo
  pub hand : List (Obl P × Bool)
  pub tables : List (FunNo × T)

-- the obligations of a hand
abbrev pub items_of : {P : Type 0} → List (Obl P × Bool) → List (Obl P)
items_of hand = map (λ item. item.0) hand

-- there is room for an event for each unsettled item of a hand and for each file that is held
abbrev pub IsRoomFor : {P N : Type 0} → CoreState P N → ℕ → Type 0
IsRoomFor {P} s spare = (unsettled : List (Obl P)) (held : List FileNo) → AreApart unsettled → ((o : Obl P) → Contains unsettled o → HasMark s o Taken) → AreApart held → ((file : FileNo) → Contains held file → IsHeld s file) → length unsettled + length held ≤ spare

-- What is true of each ledger over a book: its journal is legal from the start and replays to its state, and there is
-- room for the events by which all that is held can be settled and given back.
pub record IsLedger {P N T : Type 0} (b : Book P N T) (l : LedgerView P N T) : Type 0 where
  pub replays : Replays b l.journal l.state
  pub room : IsRoomFor l.state l.spare

-- The ticket's worker holds the ticket's file in the state, with the ticket's hand, and what is settled there is what the
-- ticket has as settled.
pub record Fits {P N T : Type 0} (s : CoreState P N) (t : TicketView P T) : Type 0 where
  pub hand : Hand P
  pub holds : HasHand s t.file hand
  pub by_worker : hand.worker ≡ t.worker
  pub same_items : hand.items ≡ items_of t.hand
  pub same_settled : (o : Obl P) (settled : Bool) → Contains t.hand (o, settled) → IsTrue settled ↔ ((v : Verdict P N) × IsSettled s o v)

-- each table is that of its function
abbrev pub AreTables : {P N T : Type 0} → Book P N T → List (FunNo × T) → Type 0
AreTables {T = T} b tables = (f : FunNo) (table : T) → Contains tables (f, table) → b.table_of f ≡ Some table

-- each obligation of a hand is of a function that is there
abbrev pub AreThere : {P N T : Type 0} → Book P N T → List (Obl P × Bool) → Type 0
AreThere {P} b hand = (o : Obl P) (settled : Bool) → Contains hand (o, settled) → o.fun.0 < b.functions

-- What a ticket's fields keep.
pub record IsTicket {P N T : Type 0} (b : Book P N T) (hand : List (Obl P × Bool)) (tables : List (FunNo × T)) : Type 0 where
  pub items_there : AreThere b hand
  pub tables_right : AreTables b tables

-- What a ledger's fields keep: the book is the one that the type names, no obligation and no assumption stands twice,
-- each file has its place, and each table that is kept is right.
pub record IsKept {P N T : Type 0} (named of_book : Book P N T) (l : LedgerView P N T) (shelves : List (List (FunNo × T))) : Type 0 where
  pub same_book : of_book ≡ named
  pub ledger : IsLedger named l
  pub apart : AreApart (map (λ e. e.0) l.state.marks)
  pub assumed_apart : AreApart l.state.assumed
  pub hands_there : length l.state.hands ≡ named.files
  pub shelves_there : length shelves ≡ named.files
  pub shelved : (at : ℕ) (tables : List (FunNo × T)) → slice_get shelves at ≡ Some tables → AreTables named tables

-- what a ledger's lists show
abbrev pub view_of : {P N T : Type 0} → List (Obl P × Mark P N) → List (Option (Hand P)) → List (FunNo × P) → List (Event P N) → ℕ → List (List (FunNo × T)) → LedgerView P N T
view_of marks hands assumed journal spare tables = record { state = record { marks = marks; hands = hands; assumed = assumed }; journal = journal; spare = spare; tables = tables }
