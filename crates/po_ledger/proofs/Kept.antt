-- Each call is its event, and keeps what a ledger's fields keep.
use Rattle.std.proofs.Common.{◌≡◌, ◌≢◌, ℕ, ◌+◌, ◌<◌, ◌≤◌, List, [], ◌∷◌, ◌++◌, length, map, set, refl, sym, ◌∙◌, ap, subst, inl, inr, arith, length-set}
use Rattle.std.specs.Prelude.{Bool, Option, Some, None, slice_get}
use Rattle.std.specs.List.{Contains}
use Rattle.std.proofs.lemmas.Bool.{cases_eq}
use Rattle.std.proofs.lemmas.Option.{slice_get_within}
use Rattle.po_base.specs.declared.numbers.FileNo.{FileNo}
use Rattle.po_base.specs.declared.numbers.FunNo.{FunNo}
use Rattle.po_core.specs.Book.{Book, file_of_obl}
use Rattle.po_core.specs.Core.{AreApart, CoreState, HasHand, HasMark, IsHeld, IsInHand, CanTake, Takes, Frees, KeepsAssumed, Steps, Replays, IsLegal}
use Rattle.po_core.specs.Theorem.{IsOrderly}
use Rattle.po_core.specs.declared.event.Event.{Event}
use Rattle.po_core.specs.declared.event.Event.TheVariants.{Take, Settle, Give, PutBack, Ask}
use Rattle.po_core.specs.declared.event.Hand.{Hand}
use Rattle.po_core.specs.declared.event.Mark.{Mark}
use Rattle.po_core.specs.declared.event.Mark.TheVariants.{Untaken, Taken, Settled}
use Rattle.po_core.specs.declared.obl.Obl.{Obl}
use Rattle.po_core.specs.declared.obl.Verdict.{Verdict}
use Rattle.po_lists.proofs.Members.{has}
use Rattle.po_core.specs.Marks.{same_hand, settled_taken, taken_untaken}
use Rattle.po_ledger.specs.Calls.{Does}
use Rattle.po_ledger.specs.Parts.{AreRemarked, TakesFrom}
use Rattle.po_ledger.specs.View.{LedgerView, IsKept, IsRoomFor, AreTables}
use Rattle.po_ledger.proofs.Effects.{remarks_like, other_hands_kept, now_held, now_free, replays_more}
use Rattle.po_ledger.proofs.Room.{room_kept, room_settled, room_freed, room_taken}
use Rattle.po_lists.proofs.Places.{get_set_same, get_set_other}

-- a fact of the value that is seen
pub does_seen : {P N T : Type 0} (b : Book P N T) (e : Event P N) (l old m : LedgerView P N T) → l ≡ old → Does b e l m → Does b e old m
does_seen {P} {N} {T} b e l old m q d = subst (λ (z : LedgerView P N T). Does b e z m) q d

pub legal_seen : {P N T : Type 0} (b : Book P N T) (e : Event P N) (l old : LedgerView P N T) → l ≡ old → IsLegal b old.state e → IsLegal b l.state e
legal_seen {P} {N} {T} b e l old q d = subst (λ (z : LedgerView P N T). IsLegal b z.state e) (sym q) d

pub held_seen : {P N T : Type 0} (file : FileNo) (l old : LedgerView P N T) → l ≡ old → IsHeld old.state file → IsHeld l.state file
held_seen {P} {N} {T} file l old q d = subst (λ (z : LedgerView P N T). IsHeld z.state file) (sym q) d

pub order_of : {P N T : Type 0} (of_book b : Book P N T) (l : LedgerView P N T) → of_book ≡ b → ((es : List (Event P N)) (s : CoreState P N) → Replays of_book es s → IsOrderly of_book s) → (es : List (Event P N)) (s : CoreState P N) → Replays b es s → IsOrderly b s
order_of {P} {N} {T} of_book b l q h = subst (λ (z : Book P N T). (es : List (Event P N)) (s : CoreState P N) → Replays z es s → IsOrderly z s) q h

module _ {P N T : Type 0} (b : Book P N T) (of_book : Book P N T) (l m : LedgerView P N T) (shelves : List (List (FunNo × T))) (k : IsKept b of_book l shelves) where
  -- what a call that is one event keeps
  pub kept_after : (later : List (List (FunNo × T))) (e : Event P N) → Does b e l m → IsRoomFor m.state m.spare → AreApart (map (λ x. x.0) m.state.marks) → AreApart m.state.assumed → length m.state.hands ≡ length l.state.hands → length later ≡ length shelves → ((at : ℕ) (tables : List (FunNo × T)) → slice_get later at ≡ Some tables → AreTables b tables) → IsKept b of_book m later
  kept_after later e did room apart assumed_apart hands same shelved = record {
    same_book = k.same_book;
    ledger = record {
      replays = subst (λ (z : List (Event P N)). Replays b z m.state) (sym did.appends) (replays_more b l.journal e l.state m.state k.ledger.replays did.steps);
      room = room;
    };
    apart = apart;
    assumed_apart = assumed_apart;
    hands_there = hands ∙ k.hands_there;
    shelves_there = same ∙ k.shelves_there;
    shelved = shelved;
  }

  -- the state after a call
  pub replays_after : (e : Event P N) → Does b e l m → Replays b m.journal m.state
  replays_after e did = subst (λ (z : List (Event P N)). Replays b z m.state) (sym did.appends) (replays_more b l.journal e l.state m.state k.ledger.replays did.steps)

  -- a remark keeps the obligations apart
  remarked_apart : (W : Obl P → Type 0) (from to : Mark P N) → AreRemarked W from to l.state.marks m.state.marks → AreApart (map (λ x. x.0) m.state.marks)
  remarked_apart W from to h = subst (λ (z : List (Obl P)). AreApart z) (sym h.keys) k.apart

  still_apart : m.state.assumed ≡ l.state.assumed → AreApart m.state.assumed
  still_apart same = subst (λ (z : List (FunNo × P)). AreApart z) (sym same) k.assumed_apart

  pub assumed_kept : m.state.assumed ≡ l.state.assumed → KeepsAssumed l.state m.state
  assumed_kept same f q = (λ h. subst (λ (z : List (FunNo × P)). Contains z (f, q)) same h, λ h. subst (λ (z : List (FunNo × P)). Contains z (f, q)) (sym same) h)

  -- asking
  pub ask_does : (worker : ℕ) (done : Bool) → IsLegal b l.state (Ask worker done) → m.state ≡ l.state → m.journal ≡ l.journal ++ Ask worker done ∷ [] → Does b (Ask worker done) l m
  ask_does worker done legal same grows = record {
    steps = subst (λ (z : CoreState P N). Steps b (Ask worker done) l.state z) (sym same) (record { legal = legal; effect = record { marks = λ o x. (λ h. h, λ h. h); hands = λ f h. (λ x. x, λ x. x); assumed = λ f q. (λ x. x, λ x. x) } });
    appends = grows;
  }

  pub ask_kept : (worker : ℕ) (done : Bool) → Does b (Ask worker done) l m → m.state ≡ l.state → l.spare ≤ m.spare → IsKept b of_book m shelves
  ask_kept worker done did same le = kept_after shelves (Ask worker done) did
      (room_kept l.state m.state l.spare m.spare k.ledger.room (λ o h. subst (λ (z : CoreState P N). HasMark z o Taken) same h) (λ f h. subst (λ (z : CoreState P N). IsHeld z f) same h) le)
      (subst (λ (z : CoreState P N). AreApart (map (λ x. x.0) z.marks)) (sym same) k.apart)
      (still_apart (ap (λ (z : CoreState P N). z.assumed) same))
      (ap (λ (z : CoreState P N). length z.hands) same) refl k.shelved

  -- tables that are let go of
  cleared_long : (later : List (List (FunNo × T))) (file : FileNo) → later ≡ set shelves file.0 [] → length later ≡ length shelves
  cleared_long later file is = ap length is ∙ length-set shelves file.0 []

  cleared_right : (later : List (List (FunNo × T))) (file : FileNo) → later ≡ set shelves file.0 [] → (at : ℕ) (tables : List (FunNo × T)) → slice_get later at ≡ Some tables → AreTables b tables
  cleared_right later file is at tables h = elim (cases_eq at file.0) [
    | inl q ↦ (λ f table c. absurd (
        let there : at < length later = slice_get_within later at tables h in
        let long : length later ≡ length shelves = ap length is ∙ length-set shelves file.0 [] in
        let put : slice_get later at ≡ Some [] = ap (λ (z : List (List (FunNo × T))). slice_get z at) is ∙ (ap (λ (j : ℕ). slice_get (set shelves file.0 []) j) q ∙ get_set_same shelves file.0 [] (omega (arith, q))) in
        let both : ◌≡◌ {A = Option (List (FunNo × T))} (Some []) (Some tables) = sym put ∙ h in
        let none : [] ≡ tables = cc in
        has [] (f, table) (subst (λ (z : List (FunNo × T)). Contains z (f, table)) (sym none) c)))
    | inr ne ↦ k.shelved at tables (sym (get_set_other shelves file.0 at [] ne) ∙ (ap (λ (z : List (List (FunNo × T))). slice_get z at) (sym is) ∙ h))
  ]

  -- taking
  unfoldable pub take_takes : (worker : ℕ) (file : FileNo) (items : List (Obl P)) → file.0 < length l.state.hands → AreRemarked (λ o. file_of_obl b o ≡ file) Untaken Taken l.state.marks m.state.marks → m.state.hands ≡ set l.state.hands file.0 (Some (record { worker = worker; items = items })) → m.state.assumed ≡ l.state.assumed → TakesFrom b l.state.marks file items → Takes b worker file l.state m.state
  take_takes worker file items within marks hands same takes = record {
    hand = record { worker = worker; items = items };
    has_hand = now_held l.state m.state file (record { worker = worker; items = items }) hands within;
    by_worker = refl;
    takes_all = takes.all;
    takes_once = takes.once;
    marks = marks.marks;
    other_hands = other_hands_kept l.state m.state file (Some (record { worker = worker; items = items })) hands;
    assumed = assumed_kept same;
  }

  unfoldable pub take_does : (worker : ℕ) (file : FileNo) → CanTake b l.state file → Takes b worker file l.state m.state → m.journal ≡ l.journal ++ Take worker file ∷ [] → Does b (Take worker file) l m
  take_does worker file can takes grows = record { steps = record { legal = can; effect = takes }; appends = grows }

  pub take_kept : (later : List (List (FunNo × T))) (worker : ℕ) (file : FileNo) (did : Does b (Take worker file) l m) → AreRemarked (λ o. file_of_obl b o ≡ file) Untaken Taken l.state.marks m.state.marks → m.state.assumed ≡ l.state.assumed → length m.state.hands ≡ length l.state.hands → l.spare + (length did.steps.effect.hand.items + 1) ≤ m.spare → later ≡ set shelves file.0 [] → IsKept b of_book m later
  take_kept later worker file did marks same hands le is = kept_after later (Take worker file) did
      (room_taken l.state m.state l.spare m.spare k.ledger.room b worker file did.steps.effect le)
      (remarked_apart (λ o. file_of_obl b o ≡ file) Untaken Taken marks)
      (still_apart same)
      hands
      (cleared_long later file is)
      (cleared_right later file is)

  -- settling
  pub settle_does : (file : FileNo) (o : Obl P) (v : Verdict P N) → IsLegal b l.state (Settle file o v) → AreRemarked (λ p. p ≡ o) Taken (Settled v) l.state.marks m.state.marks → m.state.hands ≡ l.state.hands → m.state.assumed ≡ l.state.assumed → m.journal ≡ l.journal ++ Settle file o v ∷ [] → Does b (Settle file o v) l m
  settle_does file o v legal marks hands same grows = record {
    steps = record {
      legal = legal;
      effect = record {
        marks = marks.marks;
        hands = λ f h. (λ x. ap (λ (z : List (Option (Hand P))). slice_get z f.0) (sym hands) ∙ x, λ x. ap (λ (z : List (Option (Hand P))). slice_get z f.0) hands ∙ x);
        assumed = assumed_kept same;
      };
    };
    appends = grows;
  }

  pub settle_kept : (file : FileNo) (o : Obl P) (v : Verdict P N) (did : Does b (Settle file o v) l m) → AreRemarked (λ p. p ≡ o) Taken (Settled v) l.state.marks m.state.marks → m.state.hands ≡ l.state.hands → m.state.assumed ≡ l.state.assumed → l.spare ≤ m.spare + 1 → IsKept b of_book m shelves
  settle_kept file o v did marks hands same le = kept_after shelves (Settle file o v) did
      (room_settled l.state m.state l.spare m.spare k.ledger.room o did.steps.legal.0.1 (λ p h. elim ((did.steps.effect.marks p Taken).0 h) [
        | inl x ↦ absurd (settled_taken v (sym x.0))
        | inr x ↦ (x.0, λ q. x.1 (refl, q))
      ]) (λ f h. (h.0, (did.steps.effect.hands f h.0).0 h.1)) le)
      (remarked_apart (λ p. p ≡ o) Taken (Settled v) marks) (still_apart same) (ap length hands) refl k.shelved

  -- giving back
  pub frees : (file : FileNo) → m.state.hands ≡ set l.state.hands file.0 None → m.state.assumed ≡ l.state.assumed → file.0 < length l.state.hands → Frees file l.state m.state
  frees file hands same within = record {
    free = λ h. now_free l.state m.state file hands within h.0 h.1;
    other_hands = other_hands_kept l.state m.state file None hands;
    assumed = assumed_kept same;
  }

  freed : (file : FileNo) → Frees file l.state m.state → (other : FileNo) → IsHeld m.state other → IsHeld l.state other × (other ≢ file)
  freed file f other h = let ne : other ≢ file = (λ q. f.free (subst (λ (z : FileNo). IsHeld m.state z) q h)) in ((h.0, (f.other_hands other h.0 ne).0 h.1), ne)

  pub give_does : (worker : ℕ) (file : FileNo) → IsLegal b l.state (Give worker file) → Frees file l.state m.state → m.state.marks ≡ l.state.marks → m.journal ≡ l.journal ++ Give worker file ∷ [] → Does b (Give worker file) l m
  give_does worker file legal free same grows = record {
    steps = record { legal = legal; effect = (free, λ o x. (λ h. subst (λ (z : List (Obl P × Mark P N)). Contains z (o, x)) same h, λ h. subst (λ (z : List (Obl P × Mark P N)). Contains z (o, x)) (sym same) h)) };
    appends = grows;
  }

  pub give_kept : (later : List (List (FunNo × T))) (worker : ℕ) (file : FileNo) (tables : List (FunNo × T)) (did : Does b (Give worker file) l m) → m.state.marks ≡ l.state.marks → m.state.assumed ≡ l.state.assumed → length m.state.hands ≡ length l.state.hands → l.spare ≤ m.spare + 1 → AreTables b tables → later ≡ set shelves file.0 tables → IsKept b of_book m later
  give_kept later worker file tables did same assumed hands le right is = kept_after later (Give worker file) did
      (room_freed l.state m.state l.spare m.spare k.ledger.room file (did.steps.legal.0.0, did.steps.legal.0.1) (λ o h. (did.steps.effect.1 o Taken).0 h) (freed file did.steps.effect.0) le)
      (subst (λ (z : List (Obl P × Mark P N)). AreApart (map (λ x. x.0) z)) (sym same) k.apart)
      (still_apart assumed)
      hands
      (ap length is ∙ length-set shelves file.0 tables)
      (λ at here h. elim (cases_eq at file.0) [
        | inl q ↦ (
            let there : at < length later = slice_get_within later at here h in
            let long : length later ≡ length shelves = ap length is ∙ length-set shelves file.0 tables in
            let put : slice_get later at ≡ Some tables = ap (λ (z : List (List (FunNo × T))). slice_get z at) is ∙ (ap (λ (j : ℕ). slice_get (set shelves file.0 tables) j) q ∙ get_set_same shelves file.0 tables (omega (arith, q))) in
            let both : ◌≡◌ {A = Option (List (FunNo × T))} (Some tables) (Some here) = sym put ∙ h in
            let one : tables ≡ here = cc in
            subst (λ (z : List (FunNo × T)). AreTables b z) one right)
        | inr ne ↦ k.shelved at here (sym (get_set_other shelves file.0 at tables ne) ∙ (ap (λ (z : List (List (FunNo × T))). slice_get z at) (sym is) ∙ h))
      ])

  -- putting back: what the hand that held the file has
  module _ (file : FileNo) (hand : Hand P) (held : HasHand l.state file hand) where
    pub put_back_does : Frees file l.state m.state → AreRemarked (λ o. Contains hand.items o) Taken Untaken l.state.marks m.state.marks → m.journal ≡ l.journal ++ PutBack file ∷ [] → Does b (PutBack file) l m
    put_back_does free marks grows = record {
      steps = record {
        legal = (hand, held);
        effect = (
          free,
          remarks_like l.state m.state (λ o. Contains hand.items o) (λ o. IsInHand l.state file o) Taken Untaken (λ o h. (
            λ q. (hand, held, q),
            λ x. subst (λ (z : Hand P). Contains z.items o) (same_hand x.0 hand (sym x.1 ∙ held)) x.2,
          )) marks.marks,
        );
      };
      appends = grows;
    }

    pub put_back_kept : (later : List (List (FunNo × T))) → (did : Does b (PutBack file) l m) → AreRemarked (λ o. Contains hand.items o) Taken Untaken l.state.marks m.state.marks → m.state.assumed ≡ l.state.assumed → length m.state.hands ≡ length l.state.hands → later ≡ set shelves file.0 [] → l.spare ≤ m.spare + 1 → IsKept b of_book m later
    put_back_kept later did marks same hands is le = kept_after later (PutBack file) did
        (room_freed l.state m.state l.spare m.spare k.ledger.room file did.steps.legal (λ o h. elim ((did.steps.effect.1 o Taken).0 h) [ inl x ↦ absurd (taken_untaken x.0) | inr x ↦ x.0 ]) (freed file did.steps.effect.0) le)
        (remarked_apart (λ o. Contains hand.items o) Taken Untaken marks) (still_apart same) hands (cleared_long later file is) (cleared_right later file is)

module _ {P N T : Type 0} (b of_book : Book P N T) (l : LedgerView P N T) (shelves : List (List (FunNo × T))) (k : IsKept b of_book l shelves) (law : (es : List (Event P N)) (s : CoreState P N) → Replays of_book es s → IsOrderly of_book s) where
  pub order_here : IsOrderly b l.state
  order_here = order_of of_book b l k.same_book law l.journal l.state k.ledger.replays

  pub known_there : (o : Obl P) → (m : Mark P N) × Contains l.state.marks (o, m) → o.fun.0 < of_book.functions
  known_there o h = subst (λ (z : Book P N T). o.fun.0 < z.functions) (sym k.same_book) (order_here.functions_there o h)

  pub held_place : (file : FileNo) → IsHeld l.state file → file.0 < length l.state.hands
  held_place file h = slice_get_within l.state.hands file.0 (Some h.0) h.1

  pub room_one : (file : FileNo) → IsHeld l.state file → 0 < l.spare
  room_one file h =
      let r = k.ledger.room [] (file ∷ []) tt (λ o c. absurd (has [] o c)) ((λ c. has [] file c), tt) (λ f c. elim (has (file ∷ []) f c) [ inl q ↦ subst (λ (z : FileNo). IsHeld l.state z) q h | inr x ↦ absurd x ]) in
      omega arith

  module _ (m : LedgerView P N T) where
    pub remarked_here : (file : FileNo) → AreRemarked (λ o. file_of_obl of_book o ≡ file) Untaken Taken l.state.marks m.state.marks → AreRemarked (λ o. file_of_obl b o ≡ file) Untaken Taken l.state.marks m.state.marks
    remarked_here file h = subst (λ (z : Book P N T). AreRemarked (λ o. file_of_obl z o ≡ file) Untaken Taken l.state.marks m.state.marks) k.same_book h

    module _ (file : FileNo) (hand : Hand P) (held : HasHand l.state file hand) (marks : AreRemarked (λ o. Contains hand.items o) Taken Untaken l.state.marks m.state.marks) (hands : m.state.hands ≡ set l.state.hands file.0 None) (same : m.state.assumed ≡ l.state.assumed) (grows : m.journal ≡ l.journal ++ PutBack file ∷ []) where
      pub put_back_did : Does b (PutBack file) l m
      put_back_did = put_back_does b of_book l m shelves k file hand held (frees b of_book l m shelves k file hands same (held_place file (hand, held))) marks grows

      pub put_back_keeps : (later : List (List (FunNo × T))) → later ≡ set shelves file.0 [] → l.spare ≤ m.spare + 1 → IsKept b of_book m later
      put_back_keeps later is le = put_back_kept b of_book l m shelves k file hand held later put_back_did marks same (ap length hands ∙ length-set l.state.hands file.0 None) is le

    -- a hand's obligations are of its file
    pub hand_of_file : (file : FileNo) (hand : Hand P) → HasHand l.state file hand → (o : Obl P) → Contains hand.items o → file_of_obl of_book o ≡ file
    hand_of_file file hand held o h = subst (λ (z : Book P N T). file_of_obl z o ≡ file) (sym k.same_book) (order_here.hands_of_file file o (hand, held, h))
