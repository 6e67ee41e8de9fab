-- A new ledger, and when all is done.
use Rattle.std.proofs.Common.{◌≡◌, ℕ, zero, suc, ◌+◌, ◌<◌, ◌≤◌, List, [], ◌∷◌, length, map, replicate, get_or, refl, sym, ◌∙◌, ap, subst, inl, inr, arith}
use Rattle.std.specs.Prelude.{Bool, true, false, not, ◌&&◌, Option, Some, None, slice_get, IfSome, IfNone, MatchOption}
use Rattle.std.proofs.lemmas.Option.{slice_get-get_or}
use Rattle.std.specs.List.{Contains}
use Rattle.std.proofs.lemmas.Bool.{cases_eq, false≢true}
use Rattle.std.proofs.lemmas.List.{length-replicate}
use Rattle.std.proofs.lemmas.List.Elements.{Contains-append_left, Contains-append_right, Contains-append_cases}
use Rattle.po_base.specs.declared.numbers.FileNo.{FileNo}
use Rattle.po_base.specs.declared.numbers.FunNo.{FunNo}
use Rattle.po_base.specs.declared.numbers.NodeNo.{NodeNo}
use Rattle.po_core.specs.Book.{Book, IsBook, IsPrimary, file_of_obl}
use Rattle.po_core.specs.Core.{AreApart, CoreState, HasMark, IsHeld, IsQuiet, CanTake, IsStart, Runs}
use Rattle.po_core.specs.declared.event.Event.{Event}
use Rattle.po_core.specs.declared.event.Hand.{Hand}
use Rattle.po_core.specs.declared.event.Mark.{Mark}
use Rattle.po_core.specs.declared.event.Mark.TheVariants.{Untaken, Taken}
use Rattle.po_core.specs.declared.obl.Cause.{Cause}
use Rattle.po_core.specs.declared.obl.Cause.TheVariants.{Primary}
use Rattle.po_core.specs.declared.obl.Obl.{Obl}
use Rattle.po_lists.proofs.Members.{Has, has, contains, contains_map, has_from_map}
use Rattle.po_core.specs.Marks.{taken_untaken}
use Rattle.po_ledger.specs.Answers.{TakesFirst}
use Rattle.po_ledger.specs.Calls.{IsNew}
use Rattle.po_ledger.specs.Parts.{AddsEach, HandAt, HasKey, primaries_of, primaries_below}
use Rattle.po_ledger.specs.Queued.{IsQueued}
use Rattle.po_marks.specs.Waiting.{CanBeTaken, Marking, all_of, is_ready, is_some_item}
use Rattle.po_marks.specs.declared.queue.Queue.{Queue}
use Rattle.po_ledger.specs.View.{LedgerView, TicketView, IsKept}
use Rattle.po_ledger.proofs.Queued.{no_hand}

pub quiet_then : {P N T : Type 0} (b : Book P N T) (s : CoreState P N) → (((file : FileNo) × IsHeld s file) → ⊥) → ((file : FileNo) → ¬ CanTake b s file) → IsQuiet s
quiet_then b s none idle = record { none_held = λ f h. none (f, h); none_untaken = λ o u. idle (file_of_obl b o) (λ h. none (file_of_obl b o, h), (o, u, refl)) }

pub quiet_not_held : {P N : Type 0} (s : CoreState P N) → IsQuiet s → ((file : FileNo) × IsHeld s file) → ⊥
quiet_not_held s q h = q.none_held h.0 h.1

pub quiet_not_takeable : {P N T : Type 0} (b : Book P N T) (s : CoreState P N) (file : FileNo) → IsQuiet s → ¬ CanTake b s file
quiet_not_takeable b s file q c = q.none_untaken c.1.0 c.1.1

no_tables : {X : Type 0} (n k : ℕ) (xs : List X) → slice_get (replicate n []) k ≡ Some xs → [] ≡ xs
no_tables zero k xs q = absurd (cc)
no_tables (suc n) zero xs q = cc
no_tables (suc n) (suc k) xs q = no_tables n k xs q

module _ {P N T : Type 0} (b : Book P N T) where
  primary_here : (f : FunNo) (o : Obl P) → f.0 < b.functions → Has (primaries_of b f) o → IsPrimary b o
  primary_here f o l h =
      let make : (NodeNo × ℕ) → Obl P = λ p. record { fun = f; node = p.0; cause = Primary p.1 } in
      let x = has_from_map make (b.primaries f) o h in
      subst (λ (z : Obl P). IsPrimary b z) x.2 (x.0.1, l, refl, contains (b.primaries f) (x.0.0, x.0.1) x.1)

  below_primary : (n : ℕ) (o : Obl P) → n ≤ b.functions → Contains (primaries_below b n) o → IsPrimary b o
  below_primary zero o l h = absurd (has [] o h)
  below_primary (suc n) o l h = elim (Contains-append_cases (primaries_below b n) (primaries_of b (record { 0 = n })) o h) [
    | inl k ↦ below_primary n o (omega arith) k
    | inr k ↦ primary_here (record { 0 = n }) o (omega arith) (has _ o k)
  ]

  primary_below : (n : ℕ) (o : Obl P) → o.fun.0 < n → IsPrimary b o → Contains (primaries_below b n) o
  primary_below zero o l p = absurd (omega arith)
  primary_below (suc n) o l p = elim (cases_eq o.fun.0 n) [
    | inl q ↦ (
        let to : ℕ → FunNo = λ k. record { 0 = k } in
        let make : FunNo → (NodeNo × ℕ) → Obl P = λ f x. record { fun = f; node = x.0; cause = Primary x.1 } in
        let with : Cause P → Obl P = λ k. record { fun = o.fun; node = o.node; cause = k } in
        let here : Contains (map (make o.fun) (b.primaries o.fun)) (make o.fun (o.node, p.0)) = contains_map (make o.fun) (b.primaries o.fun) (o.node, p.0) p.3 in
        let is : make o.fun (o.node, p.0) ≡ o = ap with (sym p.2) in
        let there : Contains (primaries_of b o.fun) o = subst (λ (z : Obl P). Contains (map (make o.fun) (b.primaries o.fun)) z) is here in
        let same : o.fun ≡ to n = ap to q in
        Contains-append_right (primaries_below b n) (primaries_of b (to n)) o (subst (λ (z : FunNo). Contains (primaries_of b z) o) same there)
        )
    | inr ne ↦ Contains-append_left (primaries_below b n) (primaries_of b (record { 0 = n })) o (primary_below n o (let other : o.fun.0 ≡ n → ⊥ = ne in omega arith) p)
  ]

  pub starts : (s : CoreState P N) (files : ℕ) → AddsEach (primaries_below b b.functions) [] s.marks → s.hands ≡ replicate files None → s.assumed ≡ [] → IsStart b s
  starts s files adds hands none = record {
    primaries = λ o m. (
      λ h. let x = adds.fresh o m (subst (λ (z : List (Obl P × Mark P N)). Contains z (o, m)) adds.extends h) in (x.0, below_primary b.functions o (omega arith) x.1),
      λ h. let k = adds.there o (primary_below b.functions o h.1.1 h.1) in let x = adds.fresh o k.0 (subst (λ (z : List (Obl P × Mark P N)). Contains z (o, k.0)) adds.extends k.1) in subst (λ (z : Mark P N). Contains s.marks (o, z)) (x.0 ∙ sym h.0) k.1,
    );
    none_held = λ f h. no_hand files f.0 h.0 (ap (λ (z : List (Option (Hand P))). slice_get z f.0) (sym hands) ∙ h.1);
    none_assumed = λ f q h. has [] (f, q) (subst (λ (z : List (FunNo × P)). Contains z (f, q)) none h);
  }

module _ {P N T : Type 0} (b of_book : Book P N T) (same : of_book ≡ b) (l : LedgerView P N T) (shelves : List (List (FunNo × T))) (files : ℕ) (all : files ≡ of_book.files) (adds : AddsEach (primaries_below of_book of_book.functions) [] l.state.marks) (hands : l.state.hands ≡ replicate files None) (none : l.state.assumed ≡ []) (empty : l.journal ≡ []) where
  start_here : IsStart b l.state
  start_here = starts b l.state files (subst (λ (z : Book P N T). AddsEach (primaries_below z z.functions) [] l.state.marks) same adds) hands none

  pub new_is : IsNew b l
  new_is = record { start = start_here; empty = empty }

  -- nothing is taken and nothing is held
  nothing_held : (os : List (Obl P)) (fs : List FileNo) → ((o : Obl P) → Contains os o → HasMark l.state o Taken) → ((f : FileNo) → Contains fs f → IsHeld l.state f) → length os + length fs ≤ l.spare
  nothing_held [] [] om fm = omega arith
  nothing_held (o ∷ os) fs om fm = absurd (taken_untaken ((start_here.primaries o Taken).0 (om o (contains (o ∷ os) o (inl refl)))).0)
  nothing_held [] (f ∷ fs) om fm = absurd (start_here.none_held f (fm f (contains (f ∷ fs) f (inl refl))))

  pub new_kept : (many : ℕ) → many ≡ of_book.files → shelves ≡ replicate many [] → IsKept b of_book l shelves
  new_kept many each shelf = record {
    same_book = same;
    ledger = record {
      replays = (l.state, start_here, subst (λ (z : List (Event P N)). Runs b l.state z l.state) (sym empty) refl);
      room = λ os fs oa om fa fm. nothing_held os fs om fm;
    };
    apart = adds.apart tt;
    assumed_apart = subst (λ (z : List (FunNo × P)). AreApart z) (sym none) tt;
    hands_there = ap length hands ∙ (length-replicate files None ∙ (all ∙ ap (λ (z : Book P N T). z.files) same));
    shelves_there = ap length shelf ∙ (length-replicate many [] ∙ (each ∙ ap (λ (z : Book P N T). z.files) same));
    shelved = λ at tables h f table c. absurd (has [] (f, table) (subst (λ (z : List (FunNo × T)). Contains z (f, table)) (sym (no_tables many at tables (ap (λ (z : List (List (FunNo × T))). slice_get z at) (sym shelf) ∙ h))) c));
  }

-- a queue that can be taken: nobody holds its file, and something waits in it
not_true : (a c : Bool) → (not a && c) ≡ true → a ≡ true → ⊥
not_true true c h t = false≢true h
not_true false c h t = false≢true t

ready_free : {P : Type 0} (q : Queue P) → is_ready q ≡ true → q.is_held ≡ true → ⊥
ready_free q r t = not_true q.is_held (is_some_item (all_of q)) r t

some_there : {X : Type 0} (a : Bool) (xs : List X) → (not a && is_some_item xs) ≡ true → (x : X) × Contains xs x
some_there true xs h = absurd (false≢true h)
some_there false [] h = absurd (false≢true h)
some_there false (x ∷ xs) h = (x, contains (x ∷ xs) x (inl refl))

ready_some : {P : Type 0} (q : Queue P) → is_ready q ≡ true → (o : Obl P) × Contains (all_of q) o
ready_some q r = some_there q.is_held (all_of q) r

then_ready : {X : Type 0} (a : Bool) (xs : List X) (x : X) → (a ≡ true → ⊥) → Contains xs x → (not a && is_some_item xs) ≡ true
then_ready true xs x free h = absurd (free refl)
then_ready false [] x free h = absurd (has [] x h)
then_ready false (y ∷ ys) x free h = refl

ready_then : {P : Type 0} (q : Queue P) (o : Obl P) → (q.is_held ≡ true → ⊥) → Contains (all_of q) o → is_ready q ≡ true
ready_then q o free h = then_ready q.is_held (all_of q) o free h

-- the first in line can be taken, and where nothing stands in line no file can be
module _ {P N T : Type 0} (b : Book P N T) (l old : LedgerView P N T) (seen : l ≡ old) (m : Marking P N) (em : m.items ≡ l.state.marks) (hands : List (Option (Hand P))) (k : IsQueued b m hands) (eh : hands ≡ l.state.hands) where
  pub first_can : (file : FileNo) → (rest : List FileNo) × (m.line ≡ file ∷ rest) → CanTake b old.state file
  first_can file first =
      let ready : CanBeTaken m.queues file = (k.waiting.lined file).0 (subst (λ (z : List FileNo). Contains z file) (sym first.1) (contains (file ∷ first.0) file (inl refl))) in
      let free : ¬ HandAt l.state.hands file = subst (λ (z : List (Option (Hand P))). ¬ HandAt z file) eh (λ h. ready_free ready.0 ready.2 ((k.holds file ready.0 ready.1).1 h)) in
      let some = ready_some ready.0 ready.2 in
      let waits = ((k.waiting.each file ready.0 ready.1).all some.0).0 some.1 in
      let there : Contains l.state.marks (some.0, Untaken) = subst (λ (z : List (Obl P × Mark P N)). Contains z (some.0, Untaken)) em waits.0 in
      subst (λ (z : LedgerView P N T). CanTake b z.state file) seen (free, (some.0, there, waits.1))

  pub none_can : (eq : P → P → Bool) → IsBook eq b → ((o : Obl P) → HasKey l.state.marks o → o.fun.0 < b.functions) → m.line ≡ [] → (file : FileNo) → ¬ CanTake b old.state file
  none_can eq law known none file can =
      let c : CanTake b l.state file = subst (λ (z : LedgerView P N T). CanTake b z.state file) (sym seen) can in
      let o = c.1.0 in
      let of : file_of_obl b o ≡ file = c.1.2 in
      let in_files : (file_of_obl b o).0 < b.files = law.files_there o.fun (known o (Untaken, c.1.1)) in
      let within : file.0 < b.files = subst (λ (z : FileNo). z.0 < b.files) of in_files in
      let d : Queue P = record { back = []; fresh = []; is_held = false } in
      let q = get_or m.queues file.0 d in
      let at : slice_get m.queues file.0 ≡ Some q = slice_get-get_or m.queues file.0 d (omega (arith, within, k.waiting.there)) in
      let untaken : Contains m.items (o, Untaken) = subst (λ (z : List (Obl P × Mark P N)). Contains z (o, Untaken)) (sym em) c.1.1 in
      let waits : Contains (all_of q) o = ((k.waiting.each file q at).all o).1 (untaken, of) in
      let free : q.is_held ≡ true → ⊥ = λ t. c.0 (subst (λ (z : List (Option (Hand P))). HandAt z file) eh ((k.holds file q at).0 t)) in
      has [] file (subst (λ (z : List FileNo). Contains z file) none ((k.waiting.lined file).1 (q, at, ready_then q o free waits)))

  pub line_some : (r : Option FileNo) → MatchOption r (m.line ≡ []) (λ file. (rest : List FileNo) × (m.line ≡ file ∷ rest)) → IfSome r (CanTake b old.state)
  line_some None h = tt
  line_some (Some file) h = first_can file h

  pub line_none : (eq : P → P → Bool) → IsBook eq b → ((o : Obl P) → HasKey l.state.marks o → o.fun.0 < b.functions) → (r : Option FileNo) → MatchOption r (m.line ≡ []) (λ file. (rest : List FileNo) × (m.line ≡ file ∷ rest)) → IfNone r ((file : FileNo) → ¬ CanTake b old.state file)
  line_none eq law known None h = none_can eq law known h
  line_none eq law known (Some file) h = tt

-- where no ticket was taken nothing has changed, and no file can be
pub none_first : {P N T : Type 0} (b : Book P N T) (worker : ℕ) (old new : LedgerView P N T) (r : Option (TicketView P T)) → TakesFirst b worker old new r → r ≡ None → (file : FileNo) → ¬ CanTake b new.state file
none_first {P} {N} {T} b worker old new (Some t) h q = absurd (cc)
none_first {P} {N} {T} b worker old new None h q = λ file can. h.1 file (subst (λ (z : LedgerView P N T). CanTake b z.state file) h.0 can)
