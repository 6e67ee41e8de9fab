-- What waits in the files, and which files can be taken.
use Rattle.std.specs.Prelude.{ℕ, zero, suc, ◌≡◌, ◌<◌, ◌⊎◌, ◌↔◌, List, [], ◌∷◌, ◌++◌, length, map, slice_get, slice_set, Some, Bool, true, false, not, ◌&&◌}
use Rattle.std.specs.List.{Contains, sum_by}
use Rattle.po_base.specs.declared.numbers.FileNo.{FileNo}
use Rattle.po_core.specs.Book.{Book, file_of_obl}
use Rattle.po_core.specs.Core.{AreApart}
use Rattle.po_core.specs.declared.event.Mark.{Mark}
use Rattle.po_core.specs.declared.event.Mark.TheVariants.{Untaken}
use Rattle.po_core.specs.declared.obl.Obl.{Obl}
use Rattle.po_marks.specs.Known.{HasKey}
use Rattle.po_marks.specs.declared.queue.Queue.{Queue}

-- The known obligations with their marks, in the order in which they became known; each file's queue, by the file's number; and the
-- files that can be taken, in the order in which they became so.
pub record Marking (P N : Type 0) : Type 0 where
  pub items : List (Obl P × Mark P N)
  pub queues : List (Queue P)
  pub line : List FileNo

-- all that a queue has
abbrev pub all_of : {P : Type 0} → Queue P → List (Obl P)
all_of q = q.back ++ q.fresh

-- how much a queue has
abbrev pub queue_len : {P : Type 0} → Queue P → ℕ
queue_len q = length (all_of q)

-- how much all queues have
abbrev pub waiting_count : {P : Type 0} → List (Queue P) → ℕ
waiting_count queues = sum_by queue_len queues

-- the queue with one more item at its end, and the queue of a file that nobody holds any more
abbrev pub lengthened : {P : Type 0} → Queue P → Obl P → Queue P
lengthened q o = record { back = q.back; fresh = q.fresh ++ o ∷ []; is_held = q.is_held }

abbrev pub free : {P : Type 0} → Queue P → Queue P
free q = record { back = q.back; fresh = q.fresh; is_held = false }

-- there is an item
abbrev pub is_some_item : {X : Type 0} → List X → Bool
is_some_item [] = false
is_some_item (x ∷ xs) = true

-- the file can be taken: nobody holds it, and something waits in it
abbrev pub is_ready : {P : Type 0} → Queue P → Bool
is_ready q = not q.is_held && is_some_item (all_of q)

-- a line of files, where one that can be taken now and couldn't before stands at the end
abbrev pub line_up : Bool → Bool → FileNo → List FileNo → List FileNo
line_up false true file line = line ++ file ∷ []
line_up false false file line = line
line_up true now file line = line

-- the file has a queue that says that it can be taken
abbrev pub CanBeTaken : {P : Type 0} → List (Queue P) → FileNo → Type 0
CanBeTaken {P} queues file = (q : Queue P) × (slice_get queues file.0 ≡ Some q) × (is_ready q ≡ true)

-- Just the untaken obligations of a file, each once.
pub record TakesFrom {P N T : Type 0} (b : Book P N T) (marks : List (Obl P × Mark P N)) (file : FileNo) (items : List (Obl P)) : Type 0 where
  pub all : (o : Obl P) → Contains items o ↔ (Contains marks (o, Untaken) × (file_of_obl b o ≡ file))
  pub once : AreApart items

-- Each file has its queue, in which just its untaken obligations wait; nothing was put back into that of a file that is held; and
-- just the files that can be taken stand in line, each once.
pub record AreWaiting {P N T : Type 0} (b : Book P N T) (m : Marking P N) : Type 0 where
  pub there : length m.queues ≡ b.files
  pub each : (file : FileNo) (q : Queue P) → slice_get m.queues file.0 ≡ Some q → TakesFrom b m.items file (all_of q)
  pub backs : (file : FileNo) (q : Queue P) → slice_get m.queues file.0 ≡ Some q → q.is_held ≡ true → q.back ≡ []
  pub lined : (file : FileNo) → Contains m.line file ↔ CanBeTaken m.queues file
  pub once : AreApart m.line

-- nobody gets hold of a file or lets it go
abbrev pub KeepsHolds : {P : Type 0} → List (Queue P) → List (Queue P) → Type 0
KeepsHolds {P} old new = (file : ℕ) (q : Queue P) → slice_get new file ≡ Some q → (r : Queue P) × (slice_get old file ≡ Some r) × (q.is_held ≡ r.is_held)

-- nobody holds a file
abbrev pub NoneIsHeld : {P : Type 0} → List (Queue P) → Type 0
NoneIsHeld {P} queues = (file : ℕ) (q : Queue P) → slice_get queues file ≡ Some q → q.is_held ≡ false

-- somebody holds this file afterwards, or nobody does, and of all others it is as it was
abbrev pub SetsHold : {P : Type 0} → FileNo → Bool → List (Queue P) → List (Queue P) → Type 0
SetsHold {P} file holds old new = (f : ℕ) (q : Queue P) → slice_get new f ≡ Some q → (r : Queue P) × (slice_get old f ≡ Some r) × (((f ≡ file.0) × (q.is_held ≡ holds)) ⊎ ((¬ (f ≡ file.0)) × (q.is_held ≡ r.is_held)))

-- An obligation that wasn't known is: untaken, at the end of the list and of its file's queue; and the file stands in line where it
-- can be taken by that.
pub record AddsNew {P N T : Type 0} (b : Book P N T) (o : Obl P) (old new : Marking P N) : Type 0 where
  pub there : o.fun.0 < b.functions
  pub fresh : ¬ HasKey old.items o
  pub items : new.items ≡ old.items ++ (o, Untaken) ∷ []
  pub queue : Queue P
  pub here : slice_get old.queues (file_of_obl b o).0 ≡ Some queue
  pub queues : new.queues ≡ slice_set old.queues (file_of_obl b o).0 (lengthened queue o)
  pub line : new.line ≡ line_up (is_ready queue) (is_ready (lengthened queue o)) (file_of_obl b o) old.line

-- the obligation was known and nothing has changed, or it is new
abbrev pub Adds : {P N T : Type 0} → Book P N T → Obl P → Marking P N → Marking P N → Type 0
Adds b o old new = (HasKey old.items o × (new ≡ old)) ⊎ AddsNew b o old new

-- so many obligations became known, one after the other
abbrev pub AddsInTurn : {P N T : Type 0} → Book P N T → ℕ → Marking P N → Marking P N → Type 0
AddsInTurn b zero old new = old ≡ new
AddsInTurn {P} {N} b (suc n) old new = (mid : Marking P N) × (o : Obl P) × AddsInTurn b n old mid × AddsNew b o mid new

-- a hand of which nothing is settled
abbrev pub IsOpenHand : {P : Type 0} → List (Obl P × Bool) → List (Obl P) → Type 0
IsOpenHand hand items = hand ≡ map (λ o. (o, false)) items
