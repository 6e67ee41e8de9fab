-- Settling an item of a ticket that fits.
use Rattle.std.proofs.Common.{◌≡◌, ◌≢◌, ◌⊎◌, ℕ, zero, suc, ◌+◌, ◌<◌, ◌≤◌, List, [], ◌∷◌, ◌++◌, length, set, refl, sym, ◌∙◌, ap, subst, inl, inr, arith, length-set}
use Rattle.std.specs.Prelude.{Bool, true, false, Option, Some, None, slice_get}
use Rattle.std.specs.List.{Contains}
use Rattle.std.proofs.lemmas.Bool.{false≢true}
use Rattle.std.proofs.lemmas.Option.{same_Some}
use Rattle.po_base.specs.declared.numbers.FileNo.{FileNo}
use Rattle.po_base.specs.declared.numbers.FunNo.{FunNo}
use Rattle.po_core.specs.Book.{Book}
use Rattle.po_core.specs.Core.{AreApart, CoreState, HasMark, IsHeld, IsInHand, IsUnsettled, IsSettled, IsUntaken, Settles, Replays, IsLegal}
use Rattle.po_core.specs.Theorem.{IsOrderly}
use Rattle.po_core.specs.declared.event.Event.{Event}
use Rattle.po_core.specs.declared.event.Event.TheVariants.{Settle, Give}
use Rattle.po_core.specs.declared.event.Hand.{Hand}
use Rattle.po_core.specs.declared.event.Mark.{Mark}
use Rattle.po_core.specs.declared.event.Mark.TheVariants.{Untaken, Taken, Settled}
use Rattle.po_core.specs.declared.obl.Obl.{Obl}
use Rattle.po_core.specs.declared.obl.Verdict.{Verdict}
use Rattle.po_lists.proofs.Members.{Has, has, contains, contains_map, has_from_map, has_item}
use Rattle.po_core.specs.Marks.{same_hand}
use Rattle.po_ledger.specs.Calls.{Does, CanSettle, SettlesItem, CanGive, IsOpenAt, IsItemAt}
use Rattle.po_ledger.specs.Parts.{AreRemarked}
use Rattle.po_ledger.specs.View.{LedgerView, TicketView, IsKept, AreTables, Fits, items_of}
use Rattle.po_ledger.proofs.Kept.{does_seen, order_here, room_one, held_place, settle_does, settle_kept, give_does, give_kept, frees}

-- a write to one place of a hand keeps its obligations
items_kept : {P : Type 0} (hand : List (Obl P × Bool)) (k : ℕ) (o : Obl P) (old new : Bool) → slice_get hand k ≡ Some (o, old) → items_of (set hand k (o, new)) ≡ items_of hand
items_kept [] k o old new q = refl
items_kept {P} (e ∷ es) zero o old new q = let is : e ≡ (o, old) = cc in ap (λ (z : Obl P × Bool). z.0 ∷ items_of es) (sym is)
items_kept {P} (e ∷ es) (suc k) o old new q = ap (λ (z : List (Obl P)). e.0 ∷ z) (items_kept es k o old new q)

-- after it, an item is the one that was written, or another that was there
written_or_there : {P : Type 0} (hand : List (Obl P × Bool)) (k : ℕ) (o : Obl P) (old new : Bool) → slice_get hand k ≡ Some (o, old) → AreApart (items_of hand) → (p : Obl P) (x : Bool) → Has (set hand k (o, new)) (p, x) → ((p ≡ o) × (x ≡ new)) ⊎ (Has hand (p, x) × (p ≢ o))
written_or_there [] k o old new q a p x h = absurd h
written_or_there {P} (e ∷ es) zero o old new q a p x (inl h) = inl (ap (λ (z : Obl P × Bool). z.0) (sym h), ap (λ (z : Obl P × Bool). z.1) (sym h))
written_or_there {P} (e ∷ es) zero o old new q a p x (inr h) =
    let is : e ≡ (o, old) = cc in
    inr (inr h, λ same. a.0 (subst (λ (z : Obl P). Contains (items_of es) z) (same ∙ ap (λ (z : Obl P × Bool). z.0) (sym is)) (contains_map (λ (z : Obl P × Bool). z.0) es (p, x) (contains es (p, x) h))))
written_or_there {P} (e ∷ es) (suc k) o old new q a p x (inl h) =
    inr (inl h, λ same. a.0 (subst (λ (z : Obl P). Contains (items_of es) z) (sym same ∙ ap (λ (z : Obl P × Bool). z.0) (sym h)) (contains_map (λ (z : Obl P × Bool). z.0) es (o, old) (contains es (o, old) (has_item es k (o, old) q)))))
written_or_there (e ∷ es) (suc k) o old new q a p x (inr h) = elim (written_or_there es k o old new q a.1 p x h) [ inl c ↦ inl c | inr c ↦ inr (inr c.0, c.1) ]

module _ {P N T : Type 0} (b : Book P N T) (s : CoreState P N) (order : IsOrderly b s) (t : TicketView P T) where
  -- the ticket's items are those of the hand
  pub item_in_hand : Fits s t → (o : Obl P) (x : Bool) → Has t.hand (o, x) → IsInHand s t.file o
  item_in_hand f o x h = (f.hand, f.holds, subst (λ (z : List (Obl P)). Contains z o) (sym f.same_items) (contains_map (λ (e : Obl P × Bool). e.0) t.hand (o, x) (contains t.hand (o, x) h)))

  pub hand_item : Fits s t → (o : Obl P) → IsInHand s t.file o → (x : Bool) × Contains t.hand (o, x)
  hand_item f o h =
      let same : h.0 ≡ f.hand = same_hand h.0 f.hand (sym h.1 ∙ f.holds) in
      let here : Contains (items_of t.hand) o = subst (λ (z : List (Obl P)). Contains z o) f.same_items (subst (λ (z : Hand P). Contains z.items o) same h.2) in
      let e = has_from_map (λ (e : Obl P × Bool). e.0) t.hand o (has _ o here) in
      (e.0.1, contains t.hand (o, e.0.1) (subst (λ (z : Obl P). Has t.hand (z, e.0.1)) e.2 e.1))

  mark_taken : (o : Obl P) (m : Mark P N) → HasMark s o m → ¬ IsUntaken s o → ((v : Verdict P N) → ¬ IsSettled s o v) → HasMark s o Taken
  mark_taken o Untaken h u d = absurd (u h)
  mark_taken o Taken h u d = h
  mark_taken o (Settled v) h u d = absurd (d v h)

  -- an item that isn't settled in the ticket is unsettled in the hand
  pub open_unsettled : Fits s t → (o : Obl P) → Has t.hand (o, false) → IsUnsettled s t.file o
  open_unsettled f o h =
      let held : IsInHand s t.file o = item_in_hand f o false h in
      let known = order.hands_known t.file o held in
      (held, mark_taken o known.0 known.1 (order.hands_taken t.file o held) (λ v d. false≢true ((f.same_settled o false (contains t.hand (o, false) h)).1 (v, d))))

  pub same_item : (k : ℕ) (o p : Obl P) → IsOpenAt t k o → IsItemAt t k p → p ≡ o
  same_item k o p q i = let both : ◌≡◌ {A = Option (Obl P × Bool)} (Some (p, i.0)) (Some (o, false)) = sym i.1 ∙ q in ap (λ (z : Obl P × Bool). z.0) (same_Some (p, i.0) (o, false) both)

  pub settle_legal : (k : ℕ) (v : Verdict P N) (p : Obl P) → CanSettle b s t k v → IsItemAt t k p → IsLegal b s (Settle t.file p v)
  settle_legal k v p c i = subst (λ (z : Obl P). IsLegal b s (Settle t.file z v)) (sym (same_item k c.item p c.open_item i)) (open_unsettled c.fits c.item (has_item t.hand k (c.item, false) c.open_item), c.verdict, c.assumed)

  -- after it, the ticket with that item settled fits
  pub fits_after : (n : CoreState P N) (k : ℕ) (v : Verdict P N) (p : Obl P) (u : TicketView P T) → CanSettle b s t k v → IsItemAt t k p → Settles p v s n → HasMark s p Taken → u ≡ record t { hand = set t.hand k (p, true) } → Fits n u
  fits_after n k v p u c i e was is =
      let one : p ≡ c.item = same_item k c.item p c.open_item i in
      let at : slice_get t.hand k ≡ Some (p, false) = c.open_item ∙ ap (λ (z : Obl P). let y : Option (Obl P × Bool) = Some (z, false) in y) (sym one) in
      let apart : AreApart (items_of t.hand) = subst (λ (z : List (Obl P)). AreApart z) c.fits.same_items (order.hands_once t.file c.fits.hand c.fits.holds) in
      let now : TicketView P T = record t { hand = set t.hand k (p, true) } in
      let good : Fits n now = record {
        hand = c.fits.hand;
        holds = (e.hands t.file c.fits.hand).1 c.fits.holds;
        by_worker = c.fits.by_worker;
        same_items = c.fits.same_items ∙ sym (items_kept t.hand k p false true at);
        same_settled = λ o x h. elim (written_or_there t.hand k p false true at apart o x (has _ (o, x) h)) [
          | inl y ↦ (λ w. (v, (e.marks o (Settled v)).1 (inl (refl, subst (λ (z : Obl P). HasMark s z Taken) (sym y.0) was, y.0))), λ w. y.1)
          | inr y ↦ (
              let before = c.fits.same_settled o x (contains t.hand (o, x) y.0) in (
                λ w. let d = before.0 w in (d.0, (e.marks o (Settled d.0)).1 (inr (d.1, λ z. y.1 z.1))),
                λ w. elim ((e.marks o (Settled w.0)).0 w.1) [ inl z ↦ absurd (y.1 z.2) | inr z ↦ before.1 (w.0, z.0) ],
              )
              )
        ];
      } in
      subst (λ (z : TicketView P T). Fits n z) (sym is) good

  pub give_legal : CanGive s t → IsLegal b s (Give t.worker t.file)
  give_legal c = ((c.fits.hand, c.fits.holds, c.fits.by_worker), λ o h. let x = hand_item c.fits o h in (c.fits.same_settled o x.0 x.1).0 (c.all_settled o x.0 x.1))

pub can_settle_seen : {P N T : Type 0} (b : Book P N T) (l old : LedgerView P N T) (t : TicketView P T) (k : ℕ) (v : Verdict P N) → l ≡ old → CanSettle b old.state t k v → CanSettle b l.state t k v
can_settle_seen {P} {N} {T} b l old t k v q c = subst (λ (z : LedgerView P N T). CanSettle b z.state t k v) (sym q) c

pub can_give_seen : {P N T : Type 0} (l old : LedgerView P N T) (t : TicketView P T) → l ≡ old → CanGive old.state t → CanGive l.state t
can_give_seen {P} {N} {T} l old t q c = subst (λ (z : LedgerView P N T). CanGive z.state t) (sym q) c

module _ {P N T : Type 0} (b of_book : Book P N T) (l : LedgerView P N T) (shelves : List (List (FunNo × T))) (kept : IsKept b of_book l shelves) (law : (es : List (Event P N)) (s : CoreState P N) → Replays of_book es s → IsOrderly of_book s) (t : TicketView P T) where
  pub fits_held : Fits l.state t → IsHeld l.state t.file
  fits_held f = (f.hand, f.holds)

  module _ (old : LedgerView P N T) (q : l ≡ old) (k : ℕ) (v : Verdict P N) (can : CanSettle b old.state t k v) (p : Obl P) (item : IsItemAt t k p) where
    can_here : CanSettle b l.state t k v
    can_here = can_settle_seen b l old t k v q can

    pub settle_taken : HasMark l.state p Taken
    settle_taken = (settle_legal b l.state (order_here b of_book l shelves kept law) t k v p can_here item).0.1

    pub settle_room : 0 < l.spare
    settle_room = room_one b of_book l shelves kept law t.file (fits_held can_here.fits)

    module _ (m : LedgerView P N T) (file : FileNo) (of_ticket : file ≡ t.file) (marks : AreRemarked (λ z. z ≡ p) Taken (Settled v) l.state.marks m.state.marks) (hands : m.state.hands ≡ l.state.hands) (same : m.state.assumed ≡ l.state.assumed) (grows : m.journal ≡ l.journal ++ Settle file p v ∷ []) where
      settle_did : Does b (Settle t.file p v) l m
      settle_did = settle_does b of_book l m shelves kept t.file p v (settle_legal b l.state (order_here b of_book l shelves kept law) t k v p can_here item) marks hands same (subst (λ (z : FileNo). m.journal ≡ l.journal ++ Settle z p v ∷ []) of_ticket grows)

      pub settle_keeps : l.spare ≤ m.spare + 1 → IsKept b of_book m shelves
      settle_keeps le = settle_kept b of_book l m shelves kept t.file p v settle_did marks hands same le

      pub settles_item : (u : TicketView P T) → (o : Obl P) × IsItemAt t k o × (u ≡ record t { hand = set t.hand k (o, true) }) → SettlesItem b k v t u old m
      settles_item u w =
          let one : p ≡ can_here.item = same_item b l.state (order_here b of_book l shelves kept law) t k can_here.item p can_here.open_item item in
          let other : w.0 ≡ can_here.item = same_item b l.state (order_here b of_book l shelves kept law) t k can_here.item w.0 can_here.open_item w.1 in
          let is : u ≡ record t { hand = set t.hand k (p, true) } = subst (λ (z : Obl P). u ≡ record t { hand = set t.hand k (z, true) }) (other ∙ sym one) w.2 in
          record {
            item = p;
            open_item = subst (λ (z : Obl P). IsOpenAt t k z) (sym one) can_here.open_item;
            did = does_seen b (Settle t.file p v) l old m q settle_did;
            ticket = is;
            fits = fits_after b l.state (order_here b of_book l shelves kept law) t m.state k v p u can_here item settle_did.steps.effect settle_did.steps.legal.0.1 is;
          }

  module _ (old : LedgerView P N T) (q : l ≡ old) (can : CanGive old.state t) where
    give_here : CanGive l.state t
    give_here = can_give_seen l old t q can

    pub give_held : IsHeld l.state t.file
    give_held = fits_held give_here.fits

    pub give_place : (file : FileNo) → file ≡ t.file → file.0 < length l.state.hands
    give_place file is = subst (λ (z : FileNo). z.0 < length l.state.hands) (sym is) (held_place b of_book l shelves kept law t.file give_held)

    pub give_hand : (file : FileNo) → file ≡ t.file → IsHeld l.state file
    give_hand file is = subst (λ (z : FileNo). IsHeld l.state z) (sym is) give_held

    pub give_shelf : (file : FileNo) → file ≡ t.file → file.0 < length shelves
    give_shelf file is = let w = give_place file is in omega (arith, kept.hands_there, kept.shelves_there)

    pub give_room : 0 < l.spare
    give_room = room_one b of_book l shelves kept law t.file give_held

    module _ (m : LedgerView P N T) (worker : ℕ) (of_worker : worker ≡ t.worker) (file : FileNo) (of_file : file ≡ t.file) (marks : m.state.marks ≡ l.state.marks) (hands : m.state.hands ≡ set l.state.hands file.0 None) (same : m.state.assumed ≡ l.state.assumed) (grows : m.journal ≡ l.journal ++ Give worker file ∷ []) where
      hands_here : m.state.hands ≡ set l.state.hands t.file.0 None
      hands_here = subst (λ (z : FileNo). m.state.hands ≡ set l.state.hands z.0 None) of_file hands

      give_done : Does b (Give t.worker t.file) l m
      give_done = give_does b of_book l m shelves kept t.worker t.file (give_legal b l.state (order_here b of_book l shelves kept law) t give_here) (frees b of_book l m shelves kept t.file hands_here same (held_place b of_book l shelves kept law t.file give_held)) marks (subst (λ (z : ℕ). m.journal ≡ l.journal ++ Give z t.file ∷ []) of_worker (subst (λ (z : FileNo). m.journal ≡ l.journal ++ Give worker z ∷ []) of_file grows))

      pub give_did : Does b (Give t.worker t.file) old m
      give_did = does_seen b (Give t.worker t.file) l old m q give_done

      pub give_keeps : (later : List (List (FunNo × T))) (tables : List (FunNo × T)) → AreTables b tables → later ≡ set shelves file.0 tables → l.spare ≤ m.spare + 1 → IsKept b of_book m later
      give_keeps later tables right is le = give_kept b of_book l m shelves kept later t.worker t.file tables give_done marks same (ap length hands ∙ length-set l.state.hands file.0 None) le right (subst (λ (z : FileNo). later ≡ set shelves z.0 tables) of_file is)
