-- Hands and marks agree after every legal list of events.
use Rattle.std.proofs.Common.{◌≡◌, ◌≢◌, ◌⊎◌, List, [], ◌∷◌, refl, sym, ◌∙◌, subst, inl, inr}
use Rattle.std.specs.List.{Contains}
use Rattle.std.specs.Prelude.{Bool}
use Rattle.po_base.specs.declared.numbers.FileNo.{FileNo}
use Rattle.po_core.specs.Book.{Book, IsBook, file_of_obl}
use Rattle.po_core.specs.Core.{AreApart, CoreState, HasMark, IsKnown, IsUntaken, HasHand, IsHeld, IsInHand, KeepsHands, KeepsOtherHands, Steps, Runs, Replays, IsStart}
use Rattle.po_core.specs.declared.event.Event.{Event}
use Rattle.po_core.specs.declared.event.Event.TheVariants.{Take, Post, Settle, Give, PutBack, Ask}
use Rattle.po_core.specs.declared.event.Hand.{Hand}
use Rattle.po_core.specs.declared.event.Mark.{Mark}
use Rattle.po_core.specs.declared.event.Mark.TheVariants.{Untaken, Taken, Settled}
use Rattle.po_core.specs.declared.obl.Obl.{Obl}
use Rattle.po_core.specs.Decided.{IsDecided, both_decided, files_decided, obligations_decided, decided_by}
use Rattle.po_core.specs.Marks.{same_hand, untaken_decided, taken_decided, settled_taken, settled_untaken, taken_untaken}
use Rattle.po_core.proofs.Remarks.{known_remarked, one_mark_after}

-- hands that stay
module _ {P N : Type 0} (s t : CoreState P N) where
  in_other_hand : (F G : FileNo) (o : Obl P) → KeepsOtherHands s t F → G ≢ F → IsInHand t G o → IsInHand s G o
  in_other_hand F G o k ne h = (h.0, (k G h.0 ne).0 h.1, h.2)

  in_other_hand_still : (F G : FileNo) (o : Obl P) → KeepsOtherHands s t F → G ≢ F → IsInHand s G o → IsInHand t G o
  in_other_hand_still F G o k ne h = (h.0, (k G h.0 ne).1 h.1, h.2)

  in_hand : (G : FileNo) (o : Obl P) → KeepsHands s t → IsInHand t G o → IsInHand s G o
  in_hand G o k h = (h.0, (k G h.0).0 h.1, h.2)

  in_hand_still : (G : FileNo) (o : Obl P) → KeepsHands s t → IsInHand s G o → IsInHand t G o
  in_hand_still G o k h = (h.0, (k G h.0).1 h.1, h.2)

  not_freed : (F G : FileNo) (o : Obl P) → ¬ IsHeld t F → IsInHand t G o → G ≢ F
  not_freed F G o free h q = free (subst (λ (x : FileNo). IsHeld t x) q (h.0, h.1))

module _ {P N T : Type 0} (b : Book P N T) (eq : P → P → Bool) (law : IsBook eq b) where
  one : (o p : Obl P) → IsDecided (o ≡ p)
  one = obligations_decided (decided_by eq law.equal_are_same)

  pub record Agrees (s : CoreState P N) : Type 0 where
    pub one_mark : (o : Obl P) (m n : Mark P N) → HasMark s o m → HasMark s o n → m ≡ n
    pub hands_known : (file : FileNo) (o : Obl P) → IsInHand s file o → IsKnown s o
    pub hands_of_file : (file : FileNo) (o : Obl P) → IsInHand s file o → file_of_obl b o ≡ file
    pub hands_once : (file : FileNo) (hand : Hand P) → HasHand s file hand → AreApart hand.items
    pub hands_taken : (file : FileNo) (o : Obl P) → IsInHand s file o → ¬ IsUntaken s o
    pub taken_in_hand : (o : Obl P) → HasMark s o Taken → IsInHand s (file_of_obl b o) o

  -- no step forgets what is known
  pub still_known : (s t : CoreState P N) (e : Event P N) → Steps b e s t → Agrees s → (o : Obl P) → IsKnown s o → IsKnown t o
  still_known s t (Take w F) st i o k = known_remarked s t _ _ _ st.effect.marks o k.0 k.1 (both_decided (untaken_decided k.0) (files_decided (file_of_obl b o) F))
  still_known s t (Post F p q) st i o k = (k.0, (st.effect.marks o k.0).1 (inl k.1))
  still_known s t (Settle F p v) st i o k = known_remarked s t _ _ _ st.effect.marks o k.0 k.1 (both_decided (taken_decided k.0) (one o p))
  still_known s t (Give w F) st i o k = (k.0, (st.effect.1 o k.0).1 k.1)
  still_known s t (PutBack F) st i o k =
      let taken : IsDecided (k.0 ≡ Taken) = taken_decided k.0 in
      let d : IsDecided ((k.0 ≡ Taken) × IsInHand s F o) = elim taken [
        | inl q ↦ elim (files_decided (file_of_obl b o) F) [
          | inl f ↦ inl (q, subst (λ (x : FileNo). IsInHand s x o) f (i.taken_in_hand o (subst (λ (m : Mark P N). HasMark s o m) q k.1)))
          | inr f ↦ inr (λ h. f (i.hands_of_file F o h.1))
        ]
        | inr q ↦ inr (λ h. q h.0)
      ] in
      known_remarked s t _ _ _ st.effect.1 o k.0 k.1 d
  still_known s t (Ask w d) st i o k = (k.0, (st.effect.marks o k.0).1 k.1)

  agrees_start : (s : CoreState P N) → IsStart b s → Agrees s
  agrees_start s st = record {
    one_mark = λ o m n h k. ((st.primaries o m).0 h).0 ∙ sym ((st.primaries o n).0 k).0;
    hands_known = λ F o h. absurd (st.none_held F (h.0, h.1));
    hands_of_file = λ F o h. absurd (st.none_held F (h.0, h.1));
    hands_once = λ F hand h. absurd (st.none_held F (hand, h));
    hands_taken = λ F o h. absurd (st.none_held F (h.0, h.1));
    taken_in_hand = λ o h. absurd (taken_untaken ((st.primaries o Taken).0 h).0);
  }

  module _ (s t : CoreState P N) (w : _) (F : FileNo) (st : Steps b (Take w F) s t) (i : Agrees s) where
    -- an obligation of a hand after a take was taken now, or was in another hand before
    after_take : (G : FileNo) (o : Obl P) → IsInHand t G o → ((G ≡ F) × (IsUntaken s o × (file_of_obl b o ≡ F))) ⊎ ((G ≢ F) × IsInHand s G o)
    after_take G o h = elim (files_decided G F) [
      | inl q ↦ inl (q, (st.effect.takes_all o).0 (let at : HasHand t F h.0 = subst (λ (x : FileNo). HasHand t x h.0) q h.1 in let is : h.0 ≡ st.effect.hand = same_hand h.0 st.effect.hand (sym at ∙ st.effect.has_hand) in subst (λ (x : Hand P). Contains x.items o) is h.2))
      | inr q ↦ inr (q, in_other_hand s t F G o st.effect.other_hands q h)
    ]

    agrees_take : Agrees t
    agrees_take = record {
      one_mark = one_mark_after s t _ _ _ st.effect.marks i.one_mark;
      hands_known = λ G o h. elim (after_take G o h) [ inl x ↦ (Taken, (st.effect.marks o Taken).1 (inl (refl, x.1.0, x.1.1))) | inr x ↦ still_known s t (Take w F) st i o (i.hands_known G o x.1) ];
      hands_of_file = λ G o h. elim (after_take G o h) [ inl x ↦ x.1.1 ∙ sym x.0 | inr x ↦ i.hands_of_file G o x.1 ];
      hands_once = λ G hand h. elim (files_decided G F) [
        | inl q ↦ (let at : HasHand t F hand = subst (λ (x : FileNo). HasHand t x hand) q h in let is : hand ≡ st.effect.hand = same_hand hand st.effect.hand (sym at ∙ st.effect.has_hand) in subst (λ (x : Hand P). AreApart x.items) (sym is) st.effect.takes_once)
        | inr q ↦ i.hands_once G hand ((st.effect.other_hands G hand q).0 h)
      ];
      hands_taken = λ G o h u. elim ((st.effect.marks o Untaken).0 u) [
        | inl y ↦ taken_untaken (sym y.0)
        | inr y ↦ elim (after_take G o h) [ inl x ↦ y.1 (refl, x.1.1) | inr x ↦ i.hands_taken G o x.1 y.0 ]
      ];
      taken_in_hand = λ o h. elim ((st.effect.marks o Taken).0 h) [
        | inl x ↦ subst (λ (f : FileNo). IsInHand t f o) (sym x.2) (st.effect.hand, st.effect.has_hand, (st.effect.takes_all o).1 (x.1, x.2))
        | inr x ↦ let before : IsInHand s (file_of_obl b o) o = i.taken_in_hand o x.0 in
            in_other_hand_still s t F (file_of_obl b o) o st.effect.other_hands (λ q. st.legal.0 (subst (λ (f : FileNo). IsHeld s f) q (before.0, before.1))) before
      ];
    }

  -- after a step that frees a file: other hands alone are left
  module _ (s t : CoreState P N) (F : FileNo) (free : ¬ IsHeld t F) (others : KeepsOtherHands s t F) (i : Agrees s) where
    freed_hand : (G : FileNo) (o : Obl P) → IsInHand t G o → (G ≢ F) × IsInHand s G o
    freed_hand G o h = let ne : G ≢ F = not_freed s t F G o free h in (ne, in_other_hand s t F G o others ne h)

  pub agrees_step : (s t : CoreState P N) (e : Event P N) → Steps b e s t → Agrees s → Agrees t
  agrees_step s t (Take w F) st i = agrees_take s t w F st i
  agrees_step s t (Post F p q) st i = record {
    one_mark = λ o m n h k. elim ((st.effect.marks o m).0 h) [
      | inl x ↦ elim ((st.effect.marks o n).0 k) [ inl y ↦ i.one_mark o m n x y | inr y ↦ absurd (y.2 (m, x)) ]
      | inr x ↦ elim ((st.effect.marks o n).0 k) [ inl y ↦ absurd (x.2 (n, y)) | inr y ↦ x.0 ∙ sym y.0 ]
    ];
    hands_known = λ G o h. still_known s t (Post F p q) st i o (i.hands_known G o (in_hand s t G o st.effect.hands h));
    hands_of_file = λ G o h. i.hands_of_file G o (in_hand s t G o st.effect.hands h);
    hands_once = λ G hand h. i.hands_once G hand ((st.effect.hands G hand).0 h);
    hands_taken = λ G o h u. let before : IsInHand s G o = in_hand s t G o st.effect.hands h in elim ((st.effect.marks o Untaken).0 u) [ inl x ↦ i.hands_taken G o before x | inr x ↦ x.2 (i.hands_known G o before) ];
    taken_in_hand = λ o h. elim ((st.effect.marks o Taken).0 h) [ inl x ↦ in_hand_still s t _ o st.effect.hands (i.taken_in_hand o x) | inr x ↦ absurd (taken_untaken x.0) ];
  }
  agrees_step s t (Settle F p v) st i = record {
    one_mark = one_mark_after s t _ _ _ st.effect.marks i.one_mark;
    hands_known = λ G o h. still_known s t (Settle F p v) st i o (i.hands_known G o (in_hand s t G o st.effect.hands h));
    hands_of_file = λ G o h. i.hands_of_file G o (in_hand s t G o st.effect.hands h);
    hands_once = λ G hand h. i.hands_once G hand ((st.effect.hands G hand).0 h);
    hands_taken = λ G o h u. elim ((st.effect.marks o Untaken).0 u) [ inl x ↦ settled_untaken v (sym x.0) | inr x ↦ i.hands_taken G o (in_hand s t G o st.effect.hands h) x.0 ];
    taken_in_hand = λ o h. elim ((st.effect.marks o Taken).0 h) [ inl x ↦ absurd (settled_taken v (sym x.0)) | inr x ↦ in_hand_still s t _ o st.effect.hands (i.taken_in_hand o x.0) ];
  }
  agrees_step s t (Give w F) st i = record {
    one_mark = λ o m n h k. i.one_mark o m n ((st.effect.1 o m).0 h) ((st.effect.1 o n).0 k);
    hands_known = λ G o h. still_known s t (Give w F) st i o (i.hands_known G o (freed_hand s t F st.effect.0.free st.effect.0.other_hands i G o h).1);
    hands_of_file = λ G o h. i.hands_of_file G o (freed_hand s t F st.effect.0.free st.effect.0.other_hands i G o h).1;
    hands_once = λ G hand h. i.hands_once G hand ((st.effect.0.other_hands G hand (λ q. st.effect.0.free (subst (λ (x : FileNo). IsHeld t x) q (hand, h)))).0 h);
    hands_taken = λ G o h u. i.hands_taken G o (freed_hand s t F st.effect.0.free st.effect.0.other_hands i G o h).1 ((st.effect.1 o Untaken).0 u);
    taken_in_hand = λ o h.
        let was : HasMark s o Taken = (st.effect.1 o Taken).0 h in
        let before : IsInHand s (file_of_obl b o) o = i.taken_in_hand o was in
        in_other_hand_still s t F (file_of_obl b o) o st.effect.0.other_hands (λ q.
        let done = st.legal.1 o (subst (λ (f : FileNo). IsInHand s f o) q before) in
        settled_taken done.0 (i.one_mark o (Settled done.0) Taken done.1 was)) before;
  }
  agrees_step s t (PutBack F) st i = record {
    one_mark = one_mark_after s t _ _ _ st.effect.1 i.one_mark;
    hands_known = λ G o h. still_known s t (PutBack F) st i o (i.hands_known G o (freed_hand s t F st.effect.0.free st.effect.0.other_hands i G o h).1);
    hands_of_file = λ G o h. i.hands_of_file G o (freed_hand s t F st.effect.0.free st.effect.0.other_hands i G o h).1;
    hands_once = λ G hand h. i.hands_once G hand ((st.effect.0.other_hands G hand (λ q. st.effect.0.free (subst (λ (x : FileNo). IsHeld t x) q (hand, h)))).0 h);
    hands_taken = λ G o h u.
        let before = freed_hand s t F st.effect.0.free st.effect.0.other_hands i G o h in
        elim ((st.effect.1 o Untaken).0 u) [ inl x ↦ before.0 (sym (i.hands_of_file G o before.1) ∙ i.hands_of_file F o x.2) | inr x ↦ i.hands_taken G o before.1 x.0 ];
    taken_in_hand = λ o h. elim ((st.effect.1 o Taken).0 h) [
      | inl x ↦ absurd (taken_untaken x.0)
      | inr x ↦ let before : IsInHand s (file_of_obl b o) o = i.taken_in_hand o x.0 in
          in_other_hand_still s t F (file_of_obl b o) o st.effect.0.other_hands (λ q. x.1 (refl, subst (λ (f : FileNo). IsInHand s f o) q before)) before
    ];
  }
  agrees_step s t (Ask w d) st i = record {
    one_mark = λ o m n h k. i.one_mark o m n ((st.effect.marks o m).0 h) ((st.effect.marks o n).0 k);
    hands_known = λ G o h. still_known s t (Ask w d) st i o (i.hands_known G o (in_hand s t G o st.effect.hands h));
    hands_of_file = λ G o h. i.hands_of_file G o (in_hand s t G o st.effect.hands h);
    hands_once = λ G hand h. i.hands_once G hand ((st.effect.hands G hand).0 h);
    hands_taken = λ G o h u. i.hands_taken G o (in_hand s t G o st.effect.hands h) ((st.effect.marks o Untaken).0 u);
    taken_in_hand = λ o h. in_hand_still s t _ o st.effect.hands (i.taken_in_hand o ((st.effect.marks o Taken).0 h));
  }

  pub agrees_runs : (s : CoreState P N) (es : List (Event P N)) (t : CoreState P N) → Runs b s es t → Agrees s → Agrees t
  agrees_runs s [] t r i = subst Agrees r i
  agrees_runs s (e ∷ es) t r i = agrees_runs r.0 es t r.2 (agrees_step s r.0 e r.1 i)

  pub agrees : (es : List (Event P N)) (t : CoreState P N) → Replays b es t → Agrees t
  agrees es t r = agrees_runs r.0 es t r.2 (agrees_start r.0 r.1)

  pub agrees_at_start : (s : CoreState P N) → IsStart b s → Agrees s
  agrees_at_start = agrees_start
