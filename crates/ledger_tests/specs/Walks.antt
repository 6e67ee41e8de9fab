-- What walks over plain lists find and change.
use Rattle.std.specs.Prelude.{◌≡◌, ◌⊎◌, List, [], ◌∷◌, ◌++◌, Option, Bool, true, false}
use Rattle.std.specs.List.{Contains}
use Rattle.po_base.specs.declared.numbers.FileNo.{FileNo}
use Rattle.po_core.specs.Book.{Book, file_of_obl}
use Rattle.po_core.specs.declared.event.Hand.{Hand}
use Rattle.po_core.specs.declared.event.Mark.{Mark}
use Rattle.po_core.specs.declared.event.Mark.TheVariants.{Untaken, Taken}
use Rattle.po_core.specs.declared.obl.Obl.{Obl}
use Rattle.po_ledger.specs.Parts.{HandAt}

-- the mark that is changed
abbrev pub mark_before : {P N : Type 0} → Bool → Mark P N
mark_before true = Taken
mark_before false = Untaken

-- what becomes of one mark, where the one that is meant is changed
abbrev pub IsMarkAfter : {P N : Type 0} → (Obl P → Type 0) → Mark P N → Mark P N → Obl P → Mark P N → Mark P N → Type 0
IsMarkAfter IsMeant from to o old new = (((old ≡ from) × IsMeant o) × (new ≡ to)) ⊎ ((¬ ((old ≡ from) × IsMeant o)) × (new ≡ old))

-- each untaken obligation is in a file that is held
abbrev pub NoneTakeable : {P N T : Type 0} → Book P N T → List (Obl P × Mark P N) → List (Option (Hand P)) → Type 0
NoneTakeable {P} b marks hands = (o : Obl P) → Contains marks (o, Untaken) → HandAt hands (file_of_obl b o)

-- the obligation is new at the end where it is untaken and of the file, and else nothing changes
abbrev pub PushesUntaken : {P N T : Type 0} → Book P N T → FileNo → (Obl P × Mark P N) → List (Obl P) → List (Obl P) → Type 0
PushesUntaken b file e old new = (((e.1 ≡ Untaken) × (file_of_obl b e.0 ≡ file)) × (new ≡ old ++ e.0 ∷ [])) ⊎ ((¬ ((e.1 ≡ Untaken) × (file_of_obl b e.0 ≡ file))) × (new ≡ old))
