-- A ledger of plain lists: where it finds a file, and that it keeps no tables.
use Rattle.std.proofs.Common.{◌≡◌, ℕ, zero, suc, ◌<◌, List, [], ◌∷◌, length, replicate, set, refl, sym, ◌∙◌, ap, subst, arith}
use Rattle.std.specs.Prelude.{Option, Some, None, slice_get, IfSome, IfNone, IfOk, Result, Ok, Err, false, Bool}
use Rattle.std.specs.List.{Contains}
use Rattle.std.proofs.lemmas.List.{length-replicate}
use Rattle.std.specs.declared.cmp.Ordering.{Ordering}
use Rattle.po_base.specs.declared.numbers.FileNo.{FileNo}
use Rattle.po_base.specs.declared.numbers.FunNo.{FunNo}
use Rattle.po_core.specs.Book.{Book, file_of_obl}
use Rattle.po_core.specs.Core.{CoreState, CanTake, IsHeld}
use Rattle.po_core.specs.Least.{IsLeastReport}
use Rattle.po_core.specs.declared.report.Report.{Report}
use Rattle.po_lists.proofs.Members.{contains, has, has_item}
use Rattle.po_core.specs.declared.event.Hand.{Hand}
use Rattle.po_core.specs.declared.event.Mark.{Mark}
use Rattle.po_core.specs.declared.event.Mark.TheVariants.{Untaken, Taken}
use Rattle.po_core.specs.declared.obl.Obl.{Obl}
use Rattle.po_core.specs.declared.obl.Verdict.{Verdict}
use Rattle.po_core.specs.declared.obl.Verdict.TheVariants.{Delegated}
use Rattle.po_ledger.specs.Answers.{Reports}
use Rattle.po_ledger.specs.declared.next.ReportFail.{ReportFail}
use Rattle.po_ledger.specs.Calls.{CanPost, HandsOut, Judges, KeepsTicket}
use Rattle.po_ledger.specs.Hands.{IsDue, SettlesFront}
use Rattle.po_ledger.specs.Parts.{AreRemarked, HandAt, TakesFrom}
use Rattle.po_ledger.specs.Shelves.{HandsTables}
use Rattle.po_ledger.specs.View.{LedgerView, TicketView, AreTables, Fits}
use Rattle.po_worker.proofs.Draining.{fits_kept}
use Rattle.ledger_tests.specs.Walks.{NoneTakeable}
use Rattle.ledger_tests.proofs.Changed.{remarked_as}

module _ {P N T : Type 0} (b of_book : Book P N T) (same : of_book ≡ b) (s : CoreState P N) where
  can_take : (file : FileNo) → ((¬ HandAt s.hands file) × ((o : Obl P) × Contains s.marks (o, Untaken) × (file_of_obl of_book o ≡ file))) → CanTake b s file
  can_take file h = (h.0, (h.1.0, h.1.1, subst (λ (z : Book P N T). file_of_obl z h.1.0 ≡ file) same h.1.2))

  none_takeable : NoneTakeable of_book s.marks s.hands → (file : FileNo) → ¬ CanTake b s file
  none_takeable none file c =
      let held = none c.1.0 c.1.1 in
      let is : file_of_obl of_book c.1.0 ≡ file = subst (λ (z : Book P N T). file_of_obl z c.1.0 ≡ file) (sym same) c.1.2 in
      c.0 (subst (λ (z : FileNo). IsHeld s z) is held)

module _ {P N T : Type 0} (b of_book : Book P N T) (same : of_book ≡ b) (l old : LedgerView P N T) (q : l ≡ old) (marks : List (Obl P × Mark P N)) (em : marks ≡ l.state.marks) (hands : List (Option (Hand P))) (eh : hands ≡ l.state.hands) where
  pub find_some : (r : Option FileNo) → IfSome r (λ file. (¬ HandAt hands file) × ((o : Obl P) × Contains marks (o, Untaken) × (file_of_obl of_book o ≡ file))) → IfSome r (CanTake b old.state)
  find_some None h = h
  find_some (Some file) h =
      let free : ¬ HandAt l.state.hands file = subst (λ (z : List (Option (Hand P))). ¬ HandAt z file) eh h.0 in
      let there : Contains l.state.marks (h.1.0, Untaken) = subst (λ (z : List (Obl P × Mark P N)). Contains z (h.1.0, Untaken)) em h.1.1 in
      subst (λ (z : LedgerView P N T). CanTake b z.state file) q (can_take b of_book same l.state file (free, (h.1.0, there, h.1.2)))

  pub find_none : (r : Option FileNo) → IfNone r (NoneTakeable of_book marks hands) → IfNone r ((file : FileNo) → ¬ CanTake b old.state file)
  find_none (Some file) h = h
  find_none None h =
      let there : NoneTakeable of_book l.state.marks l.state.hands = λ o u. subst (λ (z : List (Option (Hand P))). HandAt z (file_of_obl of_book o)) eh (h o (subst (λ (z : List (Obl P × Mark P N)). Contains z (o, Untaken)) (sym em) u)) in
      λ file c. none_takeable b of_book same l.state there file (subst (λ (z : LedgerView P N T). CanTake b z.state file) (sym q) c)

pub held_also : {P N T : Type 0} (l old : LedgerView P N T) (q : l ≡ old) (hands : List (Option (Hand P))) (eh : hands ≡ l.state.hands) → (((file : FileNo) × HandAt hands file) → ((file : FileNo) × IsHeld old.state file)) × (((file : FileNo) × IsHeld old.state file) → ((file : FileNo) × HandAt hands file))
held_also {P} {N} {T} l old q hands eh =
    let is : hands ≡ old.state.hands = eh ∙ ap (λ (z : LedgerView P N T). z.state.hands) q in
    (λ h. (h.0, subst (λ (z : List (Option (Hand P))). HandAt z h.0) is h.1), λ h. (h.0, subst (λ (z : List (Option (Hand P))). HandAt z h.0) (sym is) h.1))

-- a list of one thing is the same after a write of it
pub set_replicate : {X : Type 0} (n k : ℕ) (x : X) → set (replicate n x) k x ≡ replicate n x
set_replicate zero k x = refl
set_replicate (suc n) zero x = refl
set_replicate {X} (suc n) (suc k) x = ap (λ (z : List X). x ∷ z) (set_replicate n k x)

get_replicate : {X : Type 0} (n k : ℕ) (x : X) → k < n → slice_get (replicate n x) k ≡ Some x
get_replicate zero k x l = absurd (omega arith)
get_replicate (suc n) zero x l = refl
get_replicate (suc n) (suc k) x l = get_replicate n k x (omega arith)

-- what is drawn of a file is what is untaken in it
pub drawn_marks : {P N T : Type 0} (b : Book P N T) (file : FileNo) (items : List (Obl P)) (old new : List (Obl P × Mark P N)) → TakesFrom b old file items → AreRemarked (λ o. Contains items o) Untaken Taken old new → AreRemarked (λ o. file_of_obl b o ≡ file) Untaken Taken old new
drawn_marks b file items old new takes r = remarked_as (λ o. Contains items o) (λ o. file_of_obl b o ≡ file) Untaken Taken old new (λ o there. (λ h. ((takes.all o).0 h).1, λ h. (takes.all o).1 (there, h))) r

-- the report of a ledger that gives one
pub reported : {P N T : Type 0} (b : Book P N T) (by : P → P → Ordering) (s : CoreState P N) (r : Result (Report P N) ReportFail) → Reports b by s r → IfOk r (IsLeastReport by b)
reported b by s (Ok x) h = h.1
reported b by s (Err e) h = tt

-- the verdict of an item that isn't settled yet
pub due_here : {P N T : Type 0} (b : Book P N T) (t u : TicketView P T) (old new : LedgerView P N T) (k : ℕ) (v : Verdict P N) → SettlesFront b k t u old new → Judges b u k v → IsDue b u k v
due_here {P} b t u old new k v front judges =
    let open_here : judges.1.0 ≡ false = (front.settled k judges.0 judges.1.0 judges.1.1).1 (omega arith) in
    record { item = judges.0; open_item = judges.1.1 ∙ ap (λ (z : Bool). let y : Option (Obl P × Bool) = Some (judges.0, z) in y) open_here; verdict = judges.2 }

-- the tables that a view shows, where none are kept
abbrev KeepsNone : {P N T : Type 0} → ℕ → LedgerView P N T → Type 0
KeepsNone files l = l.tables ≡ replicate files []

pub no_tables : {P N T : Type 0} (b : Book P N T) → AreTables b []
no_tables b f table h = absurd (has [] (f, table) h)

pub tables_cleared : {P N T : Type 0} (files k : ℕ) (l old : LedgerView P N T) → l ≡ old → KeepsNone files l → replicate files [] ≡ set old.tables k []
tables_cleared {P} {N} {T} files k l old q none = sym (set_replicate files k []) ∙ ap (λ (z : List (List (FunNo × T))). set z k []) (sym (sym (ap (λ (z : LedgerView P N T). z.tables) q) ∙ none))

pub tables_same : {P N T : Type 0} (files k : ℕ) (l old : LedgerView P N T) → l ≡ old → KeepsNone files l → (tables : List (FunNo × T)) → tables ≡ [] → replicate files [] ≡ set old.tables k tables
tables_same {P} {N} {T} files k l old q none tables empty = tables_cleared files k l old q none ∙ ap (λ (z : List (FunNo × T)). set old.tables k z) (sym empty)

pub shelf_there : {X : Type 0} (n k : ℕ) (none : List X) → k < length (replicate n none) → slice_get (replicate n none) k ≡ Some none
shelf_there n k none l = get_replicate n k none (let long = length-replicate n none in omega (arith, l, long))

pub tables_handed : {P N T : Type 0} (files : ℕ) (none : List (FunNo × T)) (l old new : LedgerView P N T) (t : TicketView P T) → t.file.0 < length (replicate files none) → l ≡ old → l.tables ≡ replicate files none → none ≡ [] → t.tables ≡ none → new.tables ≡ replicate files none → HandsTables old new t
tables_handed {P} {N} {T} files none l old new t within q keeps empty of_ticket later = record {
  handed = ap (λ (z : List (List (FunNo × T))). slice_get z t.file.0) (sym (ap (λ (z : LedgerView P N T). z.tables) q) ∙ keeps) ∙ (shelf_there files t.file.0 none within ∙ ap (λ (z : List (FunNo × T)). Some z) (sym of_ticket));
  left = later ∙ (sym (set_replicate files t.file.0 none) ∙ (ap (λ (z : List (List (FunNo × T))). set z t.file.0 none) (sym (sym (ap (λ (z : LedgerView P N T). z.tables) q) ∙ keeps)) ∙ ap (λ (z : List (FunNo × T)). set old.tables t.file.0 z) empty));
}

pub handed_fits : {P N T : Type 0} (b : Book P N T) (worker : ℕ) (old new : LedgerView P N T) (t : TicketView P T) → HandsOut b worker old new t → Fits new.state t
handed_fits b worker old new t h = h.fits

-- what can be posted for the first item of a new ticket, whose verdict was worked out
pub first_post : {P N T : Type 0} (b : Book P N T) (worker : ℕ) (old new : LedgerView P N T) (t u : TicketView P T) (v : Verdict P N) (q : P) → HandsOut b worker old new t → KeepsTicket t u → Judges b t 0 v → v ≡ Delegated q → CanPost b new.state u 0 q
first_post {P} b worker old new t u v q h same judges is =
    let here : Obl P × Bool = (judges.0, judges.1.0) in
    let open_here : judges.1.0 ≡ false = h.all_open judges.0 judges.1.0 (contains t.hand here (has_item t.hand 0 here judges.1.1)) in
    record {
      fits = fits_kept b new.state t u same h.fits;
      item = judges.0;
      open_item = ap (λ (z : List (Obl P × Bool)). slice_get z 0) same.hand ∙ (judges.1.1 ∙ ap (λ (z : Bool). let y : Option (Obl P × Bool) = Some (judges.0, z) in y) open_here);
      verdict = sym judges.2 ∙ is;
    }

pub post_again : {P N T : Type 0} (b : Book P N T) (l old : LedgerView P N T) (t u : TicketView P T) (k : ℕ) (q : P) → l ≡ old → u ≡ t → CanPost b old.state t k q → CanPost b l.state u k q
post_again {P} {N} {T} b l old t u k q same of_ticket can = subst (λ (z : TicketView P T). CanPost b l.state z k q) (sym of_ticket) (subst (λ (z : LedgerView P N T). CanPost b z.state t k q) (sym same) can)
