-- What workers share, the events by which it changes, and which lists of events are legal. Each fact is about sets and
-- maps: the order of a list in a state counts only in a hand, whose items have places.
use Rattle.std.specs.Prelude.{ℕ, ◌≡◌, ◌≢◌, ◌↔◌, ◌⊎◌, List, [], ◌∷◌, Option, Some, slice_get}
use Rattle.std.specs.Bool.{MatchBool}
use Rattle.std.specs.List.{Contains}
use Rattle.po_base.specs.declared.numbers.FileNo.{FileNo}
use Rattle.po_base.specs.declared.numbers.FunNo.{FunNo}
use Rattle.po_core.specs.Book.{Book, IsPrimary, IsSupport, file_of_obl}
use Rattle.po_core.specs.declared.event.Event.{Event}
use Rattle.po_core.specs.declared.event.Event.TheVariants.{Take, Post, Settle, Give, PutBack, Ask}
use Rattle.po_core.specs.declared.event.Hand.{Hand}
use Rattle.po_core.specs.declared.event.Mark.{Mark}
use Rattle.po_core.specs.declared.event.Mark.TheVariants.{Untaken, Taken, Settled}
use Rattle.po_core.specs.declared.obl.Obl.{Obl}
use Rattle.po_core.specs.declared.obl.Verdict.{Verdict}
use Rattle.po_core.specs.declared.obl.Verdict.TheVariants.{Delegated}

-- no item of a list stands twice
abbrev pub AreApart : {X : Type 0} → List X → Type 0
AreApart [] = Unit {0}
AreApart (x ∷ xs) = (¬ Contains xs x) × AreApart xs

-- A core state: each known obligation with its mark, for each file by its number the hand that holds it, and what is
-- assumed.
pub record CoreState (P N : Type 0) : Type 0 where
  pub marks : List (Obl P × Mark P N)
  pub hands : List (Option (Hand P))
  pub assumed : List (FunNo × P)

-- What is the case in a state.
module _ {P N : Type 0} (s : CoreState P N) where
  abbrev pub HasMark : Obl P → Mark P N → Type 0
  HasMark o m = Contains s.marks (o, m)

  abbrev pub IsKnown : Obl P → Type 0
  IsKnown o = (m : Mark P N) × HasMark o m

  abbrev pub IsUntaken : Obl P → Type 0
  IsUntaken o = HasMark o Untaken

  abbrev pub IsSettled : Obl P → Verdict P N → Type 0
  IsSettled o v = HasMark o (Settled v)

  abbrev pub IsAssumed : FunNo → P → Type 0
  IsAssumed f q = Contains s.assumed (f, q)

  -- the file is held, with this hand
  abbrev pub HasHand : FileNo → Hand P → Type 0
  HasHand file hand = slice_get s.hands file.0 ≡ Some (Some hand)

  abbrev pub IsHeld : FileNo → Type 0
  IsHeld file = (hand : Hand P) × HasHand file hand

  abbrev pub IsHeldBy : FileNo → ℕ → Type 0
  IsHeldBy file worker = (hand : Hand P) × HasHand file hand × (hand.worker ≡ worker)

  abbrev pub IsInHand : FileNo → Obl P → Type 0
  IsInHand file o = (hand : Hand P) × HasHand file hand × Contains hand.items o

  -- in the file's hand, and without a verdict
  abbrev pub IsUnsettled : FileNo → Obl P → Type 0
  IsUnsettled file o = IsInHand file o × HasMark o Taken

  -- quiet: no file is held and no obligation is untaken
  pub record IsQuiet : Type 0 where
    pub none_held : (file : FileNo) → ¬ IsHeld file
    pub none_untaken : (o : Obl P) → ¬ IsUntaken o

-- a file that isn't held has untaken obligations
abbrev pub CanTake : {P N T : Type 0} → Book P N T → CoreState P N → FileNo → Type 0
CanTake {P} b s file = (¬ IsHeld s file) × ((o : Obl P) × IsUntaken s o × (file_of_obl b o ≡ file))

-- some file is held, and none can be taken
abbrev pub MustWait : {P N T : Type 0} → Book P N T → CoreState P N → Type 0
MustWait b s = ((file : FileNo) × IsHeld s file) × ((file : FileNo) → ¬ CanTake b s file)

-- which events are legal in a state
abbrev pub IsLegal : {P N T : Type 0} → Book P N T → CoreState P N → Event P N → Type 0
IsLegal b s (Take worker file) = CanTake b s file
IsLegal b s (Post file o q) = IsUnsettled s file o × (b.verdict_of o ≡ Delegated q)
IsLegal {P} b s (Settle file o v) = IsUnsettled s file o × (v ≡ b.verdict_of o) × ((q : P) → v ≡ Delegated q → IsAssumed s o.fun q)
IsLegal {P} {N} b s (Give worker file) = IsHeldBy s file worker × ((o : Obl P) → IsInHand s file o → (v : Verdict P N) × IsSettled s o v)
IsLegal b s (PutBack file) = IsHeld s file
IsLegal b s (Ask worker done) = MatchBool done (IsQuiet s) (MustWait b s)

-- What stays and what changes from a state s to a state t.
module _ {P N : Type 0} (s t : CoreState P N) where
  -- what has the mark `old` and is meant has the mark `new`, and all other marks stay
  abbrev pub Remarks : (Obl P → Type 0) → Mark P N → Mark P N → Type 0
  Remarks IsMeant old new = (o : Obl P) (m : Mark P N) → HasMark t o m ↔ (((m ≡ new) × HasMark s o old × IsMeant o) ⊎ (HasMark s o m × ¬ ((m ≡ old) × IsMeant o)))

  abbrev pub KeepsMarks : Type 0
  KeepsMarks = (o : Obl P) (m : Mark P N) → HasMark t o m ↔ HasMark s o m

  abbrev pub KeepsHands : Type 0
  KeepsHands = (file : FileNo) (hand : Hand P) → HasHand t file hand ↔ HasHand s file hand

  abbrev pub KeepsOtherHands : FileNo → Type 0
  KeepsOtherHands file = (other : FileNo) (hand : Hand P) → other ≢ file → HasHand t other hand ↔ HasHand s other hand

  abbrev pub KeepsAssumed : Type 0
  KeepsAssumed = (f : FunNo) (q : P) → IsAssumed t f q ↔ IsAssumed s f q

-- The worker holds the file, with the file's untaken obligations as its hand, each once.
pub record Takes {P N T : Type 0} (b : Book P N T) (worker : ℕ) (file : FileNo) (s t : CoreState P N) : Type 0 where
  pub hand : Hand P
  pub has_hand : HasHand t file hand
  pub by_worker : hand.worker ≡ worker
  pub takes_all : (o : Obl P) → Contains hand.items o ↔ (IsUntaken s o × (file_of_obl b o ≡ file))
  pub takes_once : AreApart hand.items
  pub marks : Remarks s t (λ o. file_of_obl b o ≡ file) Untaken Taken
  pub other_hands : KeepsOtherHands s t file
  pub assumed : KeepsAssumed s t

-- That f is entered with q is assumed, each call of f has its supporting obligation, and those that weren't known are
-- untaken.
pub record Posts {P N T : Type 0} (b : Book P N T) (f : FunNo) (q : P) (s t : CoreState P N) : Type 0 where
  pub assumes : (g : FunNo) (r : P) → IsAssumed t g r ↔ (IsAssumed s g r ⊎ ((g ≡ f) × (r ≡ q)))
  pub knows : (o : Obl P) → IsSupport b f q o → IsKnown t o
  pub marks : (o : Obl P) (m : Mark P N) → HasMark t o m ↔ (HasMark s o m ⊎ ((m ≡ Untaken) × IsSupport b f q o × ¬ IsKnown s o))
  pub hands : KeepsHands s t

-- The obligation has the verdict.
pub record Settles {P N : Type 0} (o : Obl P) (v : Verdict P N) (s t : CoreState P N) : Type 0 where
  pub marks : Remarks s t (λ p. p ≡ o) Taken (Settled v)
  pub hands : KeepsHands s t
  pub assumed : KeepsAssumed s t

-- The file is free.
pub record Frees {P N : Type 0} (file : FileNo) (s t : CoreState P N) : Type 0 where
  pub free : ¬ IsHeld t file
  pub other_hands : KeepsOtherHands s t file
  pub assumed : KeepsAssumed s t

-- Nothing changes.
pub record Keeps {P N : Type 0} (s t : CoreState P N) : Type 0 where
  pub marks : KeepsMarks s t
  pub hands : KeepsHands s t
  pub assumed : KeepsAssumed s t

-- the effect of an event
abbrev pub HasEffect : {P N T : Type 0} → Book P N T → Event P N → CoreState P N → CoreState P N → Type 0
HasEffect b (Take worker file) s t = Takes b worker file s t
HasEffect b (Post file o q) s t = Posts b o.fun q s t
HasEffect b (Settle file o v) s t = Settles o v s t
HasEffect b (Give worker file) s t = Frees file s t × KeepsMarks s t
HasEffect b (PutBack file) s t = Frees file s t × Remarks s t (λ o. IsInHand s file o) Taken Untaken
HasEffect b (Ask worker done) s t = Keeps s t

-- An event that is legal in s, and its effect.
pub record Steps {P N T : Type 0} (b : Book P N T) (e : Event P N) (s t : CoreState P N) : Type 0 where
  pub legal : IsLegal b s e
  pub effect : HasEffect b e s t

-- At the start the primary obligations are known and untaken, and all else is empty.
pub record IsStart {P N T : Type 0} (b : Book P N T) (s : CoreState P N) : Type 0 where
  pub primaries : (o : Obl P) (m : Mark P N) → HasMark s o m ↔ ((m ≡ Untaken) × IsPrimary b o)
  pub none_held : (file : FileNo) → ¬ IsHeld s file
  pub none_assumed : (f : FunNo) (q : P) → ¬ IsAssumed s f q

-- legal events, one after the other, lead from s to t
abbrev pub Runs : {P N T : Type 0} → Book P N T → CoreState P N → List (Event P N) → CoreState P N → Type 0
Runs b s [] t = s ≡ t
Runs {P} {N} b s (e ∷ es) t = (u : CoreState P N) × Steps b e s u × Runs b u es t

-- The list is legal from the start, and t is its replay.
abbrev pub Replays : {P N T : Type 0} → Book P N T → List (Event P N) → CoreState P N → Type 0
Replays {P} {N} b es t = (s : CoreState P N) × IsStart b s × Runs b s es t
