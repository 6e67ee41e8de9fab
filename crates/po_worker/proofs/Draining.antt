-- The steps of one worker that drains a ledger.
use Rattle.std.proofs.Common.{◌≡◌, ℕ, ◌+◌, ◌<◌, ◌≤◌, List, [], ◌∷◌, ◌++◌, length, map, refl, sym, ◌∙◌, ap, subst, inl, inr, arith, append_assoc}
use Rattle.std.specs.Prelude.{Bool, false}
use Rattle.std.specs.List.{Contains, flat_map}
use Rattle.std.proofs.lemmas.Bool.{cases_eq}
use Rattle.std.proofs.lemmas.List.{append-nil, length-map}
use Rattle.po_base.specs.declared.numbers.FileNo.{FileNo}
use Rattle.po_core.specs.Book.{Book}
use Rattle.po_core.specs.Core.{CoreState, KeepsHands, HasHand, IsHeld, Frees, Replays}
use Rattle.po_core.specs.Marks.{same_hand}
use Rattle.po_core.specs.Theorem.{settle_count, most_obligations}
use Rattle.po_core.specs.declared.event.Event.{Event}
use Rattle.po_core.specs.declared.event.Event.TheVariants.{Take, Post, Settle, Give, PutBack, Ask}
use Rattle.po_core.specs.declared.event.Hand.{Hand}
use Rattle.po_core.specs.declared.obl.Obl.{Obl}
use Rattle.po_core.specs.declared.obl.Verdict.{Verdict}
use Rattle.po_core.specs.declared.obl.Verdict.TheVariants.{Closed, Delegated, Open}
use Rattle.po_ledger.specs.Calls.{Does, HandsOut, KeepsTicket}
use Rattle.po_ledger.specs.Hands.{Extends, KeepsItems, SettlesHand, posting, settling}
use Rattle.po_ledger.specs.View.{LedgerView, TicketView, Fits, IsLedger, items_of}
use Rattle.po_worker.specs.Alone.{NoneHeld, HoldsOnly, Advances}
use Rattle.po_marks.proofs.InLine.{same_file}

-- Journals that grow.
module _ {P N : Type 0} where
  pub extends_none : (old : List (Event P N)) → Extends old old
  extends_none old = ([], sym (append-nil old))

  pub extends_twice : (old mid new : List (Event P N)) → Extends old mid → Extends mid new → Extends old new
  extends_twice old mid new first second = (first.0 ++ second.0, second.1 ∙ (ap (λ (z : List (Event P N)). z ++ second.0) first.1 ∙ append_assoc old first.0 second.0))

  -- how many events of a longer list settle something
  count_both : (es fs : List (Event P N)) → settle_count (es ++ fs) ≡ settle_count es + settle_count fs
  count_both [] fs = omega arith
  count_both (Take w F ∷ es) fs = count_both es fs
  count_both (Post F o q ∷ es) fs = count_both es fs
  count_both (Settle F o v ∷ es) fs = let rest : settle_count (es ++ fs) ≡ settle_count es + settle_count fs = count_both es fs in omega arith
  count_both (Give w F ∷ es) fs = count_both es fs
  count_both (PutBack F ∷ es) fs = count_both es fs
  count_both (Ask w d ∷ es) fs = count_both es fs

  count_posting : (F : FileNo) (o : Obl P) (v : Verdict P N) → settle_count (posting F o v) ≡ 0
  count_posting F o (Delegated q) = refl
  count_posting F o (Closed rule) = refl
  count_posting F o Open = refl

module _ {P N T : Type 0} (b : Book P N T) where
  pub does_extends : (e : Event P N) (old new : LedgerView P N T) → Does b e old new → Extends old.journal new.journal
  does_extends e old new d = (e ∷ [], d.appends)

  count_settling : (F : FileNo) (o : Obl P) → settle_count (settling b F o) ≡ 1
  count_settling F o =
      let both = count_both (posting F o (b.verdict_of o)) (Settle F o (b.verdict_of o) ∷ []) in
      let none = count_posting F o (b.verdict_of o) in
      omega arith

  count_hand : (F : FileNo) (os : List (Obl P)) → settle_count (flat_map (settling b F) os) ≡ length os
  count_hand F [] = refl
  count_hand F (o ∷ os) =
      let both = count_both (settling b F o) (flat_map (settling b F) os) in
      let one = count_settling F o in
      let rest = count_hand F os in
      omega arith

  -- a ticket that is handed out where nobody holds a file
  pub handed_out : (w : ℕ) (old new : LedgerView P N T) (t : TicketView P T) → NoneHeld old.state → HandsOut b w old new t → HoldsOnly new.state t
  handed_out w old new t none h = record {
    fits = h.fits;
    only = λ f held. elim (cases_eq f.0 t.file.0) [
      | inl q ↦ same_file f t.file q
      | inr ne ↦ absurd (none f (held.0, (h.did.steps.effect.other_hands f held.0 (λ q. ne (ap (λ (z : FileNo). z.0) q))).0 held.1))
    ];
  }

  pub handed_some : (w : ℕ) (old new : LedgerView P N T) (t : TicketView P T) → HandsOut b w old new t → 0 < length t.hand
  handed_some w old new t h =
      let can = h.did.steps.legal.1 in
      let took = h.did.steps.effect in
      let item : Contains took.hand.items can.0 = (took.takes_all can.0).1 (can.1, can.2) in
      let one : took.hand ≡ h.fits.hand = same_hand took.hand h.fits.hand (sym took.has_hand ∙ h.fits.holds) in
      let items : took.hand.items ≡ map (λ e. e.0) t.hand = ap (λ (z : Hand P). z.items) one ∙ h.fits.same_items in
      let many : length took.hand.items ≡ length t.hand = ap length items ∙ length-map t.hand (λ e. e.0) in
      let within : item.0 < length took.hand.items = item.1 in
      omega arith

  -- after a file is free that alone was held
  pub freed : (old new : CoreState P N) (t : TicketView P T) (file : FileNo) → HoldsOnly old t → file ≡ t.file → Frees file old new → NoneHeld new
  freed old new t file h q free f held = elim (cases_eq f.0 file.0) [
    | inl same ↦ free.free (subst (λ (z : FileNo). IsHeld new z) (same_file f file same) held)
    | inr ne ↦ ne (ap (λ (z : FileNo). z.0) (h.only f (held.0, (free.other_hands f held.0 (λ e. ne (ap (λ (z : FileNo). z.0) e))).0 held.1) ∙ sym q))
  ]

  -- hands that are kept
  pub still_only : (old new : CoreState P N) (t u : TicketView P T) → HoldsOnly old t → KeepsHands old new → Fits new u → KeepsItems t u → HoldsOnly new u
  still_only old new t u h keeps fits items = record { fits = fits; only = λ f held. h.only f (held.0, (keeps f held.0).0 held.1) ∙ sym items.file }

  -- tables are no part of what fits
  pub fits_kept : (s : CoreState P N) (t u : TicketView P T) → KeepsTicket t u → Fits s t → Fits s u
  fits_kept s t u k f = record {
    hand = f.hand;
    holds = subst (λ (z : FileNo). HasHand s z f.hand) (sym k.file) f.holds;
    by_worker = f.by_worker ∙ sym k.worker;
    same_items = f.same_items ∙ ap (λ (z : List (Obl P × Bool)). map (λ e. e.0) z) (sym k.hand);
    same_settled = λ o x c. f.same_settled o x (subst (λ (z : List (Obl P × Bool)). Contains z (o, x)) k.hand c);
  }

  pub only_kept : (s : CoreState P N) (t u : TicketView P T) → KeepsTicket t u → HoldsOnly s t → HoldsOnly s u
  only_kept s t u k h = record { fits = fits_kept s t u k h.fits; only = λ f held. h.only f held ∙ sym k.file }

  -- a hand that is settled with tables at hand
  pub hand_kept : (t u w : TicketView P T) (old new : LedgerView P N T) → KeepsTicket t u → SettlesHand b u w old new → SettlesHand b t w old new
  hand_kept t u w old new k s = record {
    settled = s.settled;
    appends = s.appends ∙ (ap (λ (z : FileNo). old.journal ++ flat_map (settling b z) (items_of u.hand)) k.file ∙ ap (λ (z : List (Obl P × Bool)). old.journal ++ flat_map (settling b t.file) (items_of z)) k.hand);
  }

  pub bounded_in : (of_book : Book P N T) (l : LedgerView P N T) → of_book ≡ b → ((es : List (Event P N)) (s : CoreState P N) → Replays of_book es s → settle_count es ≤ most_obligations of_book) → IsLedger b l → settle_count l.journal ≤ most_obligations b
  bounded_in of_book l same law is = (subst (λ (z : Book P N T). (es : List (Event P N)) (s : CoreState P N) → Replays z es s → settle_count es ≤ most_obligations z) same law) l.journal l.state is.replays

  pub ticket_advances : (t u : TicketView P T) (l0 l1 l2 : LedgerView P N T) → SettlesHand b t u l0 l1 → 0 < length t.hand → Does b (Give u.worker u.file) l1 l2 → settle_count l2.journal ≤ most_obligations b → Advances b l0 l2
  ticket_advances t u l0 l1 l2 s some given most =
      let hand : settle_count l1.journal ≡ settle_count l0.journal + settle_count (flat_map (settling b t.file) (items_of t.hand)) = ap settle_count s.appends ∙ count_both l0.journal (flat_map (settling b t.file) (items_of t.hand)) in
      let many : settle_count (flat_map (settling b t.file) (items_of t.hand)) ≡ length (items_of t.hand) = count_hand t.file (items_of t.hand) in
      let all : length (items_of t.hand) ≡ length t.hand = length-map t.hand (λ (z : Obl P × Bool). z.0) in
      let give : settle_count l2.journal ≡ settle_count l1.journal + 0 = ap settle_count given.appends ∙ count_both l1.journal (Give u.worker u.file ∷ []) in
      record { settles = omega arith; bounded = most }

  pub file_advances : (w : ℕ) (t : TicketView P T) (l0 l1 l2 : LedgerView P N T) → HandsOut b w l0 l1 t → Advances b l1 l2 → Advances b l0 l2
  file_advances w t l0 l1 l2 h a =
      let count : settle_count l1.journal ≡ settle_count l0.journal + 0 = ap settle_count h.did.appends ∙ count_both l0.journal (Take w t.file ∷ []) in
      let more : settle_count l1.journal < settle_count l2.journal = a.settles in
      record { settles = omega arith; bounded = a.bounded }

  pub asked_wait : (w : ℕ) (old new : LedgerView P N T) → NoneHeld old.state → Does b (Ask w false) old new → ⊥
  asked_wait w old new none d = let held = d.steps.legal.0 in none held.0 held.1
