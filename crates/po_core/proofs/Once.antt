-- Each obligation is settled by one event at most.
use Rattle.std.proofs.Common.{◌≡◌, ◌⊎◌, List, [], ◌∷◌, refl, sym, ◌∙◌, ap, subst, inl, inr}
use Rattle.std.specs.Prelude.{Bool}
use Rattle.po_base.specs.declared.numbers.FileNo.{FileNo}
use Rattle.po_core.specs.Book.{Book, IsBook}
use Rattle.po_core.specs.Core.{CoreState, HasMark, IsSettled, Steps, Runs}
use Rattle.po_core.specs.Theorem.{NoneSettles, IsSettledOnce}
use Rattle.po_core.specs.declared.event.Event.{Event}
use Rattle.po_core.specs.declared.event.Event.TheVariants.{Take, Post, Settle, Give, PutBack, Ask}
use Rattle.po_core.specs.declared.event.Mark.TheVariants.{Taken, Settled}
use Rattle.po_core.specs.declared.obl.Obl.{Obl}
use Rattle.po_core.specs.declared.obl.Verdict.{Verdict}
use Rattle.po_core.specs.Decided.{obligations_decided, decided_by}
use Rattle.po_core.specs.Marks.{settled_taken, settled_untaken, same_verdict}
use Rattle.po_core.proofs.Remarks.{settled_before}
use Rattle.po_core.proofs.Orderly.{Agrees, agrees_step, agrees_runs}
use Rattle.po_lists.proofs.Members.{has, contains}

-- the event settles the obligation
abbrev pub SettlesNow : {P N : Type 0} → Event P N → Obl P → Type 0
SettlesNow {N = N} e o = (file : FileNo) × ((v : Verdict _ N) × (e ≡ Settle file o v))

settled_one : {P N : Type 0} (F G : FileNo) (p o : Obl P) (v w : Verdict P N) → Settle F p v ≡ Settle G o w → p ≡ o
settled_one F G p o v w q = cc

module _ {P N T : Type 0} (b : Book P N T) (eq : P → P → Bool) (law : IsBook eq b) where
  -- what is settled stays settled
  pub stays_settled : (s t : CoreState P N) (e : Event P N) → Steps b e s t → (o : Obl P) (v : Verdict P N) → IsSettled s o v → IsSettled t o v
  stays_settled s t (Take w F) st o v h = (st.effect.marks o (Settled v)).1 (inr (h, λ x. settled_untaken v x.0))
  stays_settled s t (Post F p q) st o v h = (st.effect.marks o (Settled v)).1 (inl h)
  stays_settled s t (Settle F p w) st o v h = (st.effect.marks o (Settled v)).1 (inr (h, λ x. settled_taken v x.0))
  stays_settled s t (Give w F) st o v h = (st.effect.1 o (Settled v)).1 h
  stays_settled s t (PutBack F) st o v h = (st.effect.1 o (Settled v)).1 (inr (h, λ x. settled_taken v x.0))
  stays_settled s t (Ask w d) st o v h = (st.effect.marks o (Settled v)).1 h

  -- and is not settled again
  pub not_again : (s t : CoreState P N) (e : Event P N) → Steps b e s t → Agrees b eq law s → (o : Obl P) (v : Verdict P N) → IsSettled s o v → ¬ SettlesNow e o
  not_again s t (Take w F) st a o v h x = cc x.1.1
  not_again s t (Post F p q) st a o v h x = cc x.1.1
  not_again s t (Settle F p w) st a o v h x =
      let is : p ≡ o = settled_one F x.0 p o w x.1.0 x.1.1 in
      settled_taken v (a.one_mark o (Settled v) Taken h (subst (λ (z : Obl P). HasMark s z Taken) is st.legal.0.1))
  not_again s t (Give w F) st a o v h x = cc x.1.1
  not_again s t (PutBack F) st a o v h x = cc x.1.1
  not_again s t (Ask w d) st a o v h x = cc x.1.1

  pub runs_settled : (s : CoreState P N) (es : List (Event P N)) (t : CoreState P N) → Runs b s es t → (o : Obl P) (v : Verdict P N) → IsSettled s o v → IsSettled t o v
  runs_settled s [] t r o v h = subst (λ (x : CoreState P N). IsSettled x o v) r h
  runs_settled s (e ∷ es) t r o v h = runs_settled r.0 es t r.2 o v (stays_settled s r.0 e r.1 o v h)

  pub none_after : (s : CoreState P N) (es : List (Event P N)) (t : CoreState P N) → Runs b s es t → Agrees b eq law s → (o : Obl P) (v : Verdict P N) → IsSettled s o v → NoneSettles es o
  none_after s [] t r a o v h F w k = has [] (Settle F o w) k
  none_after s (e ∷ es) t r a o v h F w k = elim (has (e ∷ es) (Settle F o w) k) [
    | inl q ↦ not_again s r.0 e r.1 a o v h (F, (w, q))
    | inr x ↦ none_after r.0 es t r.2 (agrees_step b eq law s r.0 e r.1 a) o v (stays_settled s r.0 e r.1 o v h) F w (contains es (Settle F o w) x)
  ]

  -- a step settles an obligation, or leaves it without a verdict
  settles_or_not : (s t : CoreState P N) (e : Event P N) → Steps b e s t → Agrees b eq law s → (o : Obl P) → ((v : Verdict P N) → ¬ IsSettled s o v) → ((x : SettlesNow e o) × IsSettled t o x.1.0) ⊎ ((¬ SettlesNow e o) × ((v : Verdict P N) → ¬ IsSettled t o v))
  settles_or_not s t (Take w F) st a o none = inr (λ x. cc x.1.1, λ v h. none v (settled_before s t _ _ _ st.effect.marks settled_taken o v h))
  settles_or_not s t (Post F p q) st a o none = inr (λ x. cc x.1.1, λ v h. elim ((st.effect.marks o (Settled v)).0 h) [ inl x ↦ none v x | inr x ↦ settled_untaken v x.0 ])
  settles_or_not s t (Settle F p w) st a o none = elim (obligations_decided (decided_by eq law.equal_are_same) p o) [
    | inl q ↦ inl ((F, (w, ap (λ (z : Obl P). Settle F z w) q)), (st.effect.marks o (Settled w)).1 (inl (refl, subst (λ (z : Obl P). HasMark s z Taken) q st.legal.0.1, sym q)))
    | inr q ↦ inr (λ x. q (settled_one F x.0 p o w x.1.0 x.1.1), λ v h. elim ((st.effect.marks o (Settled v)).0 h) [ inl x ↦ q (sym x.2) | inr x ↦ none v x.0 ])
  ]
  settles_or_not s t (Give w F) st a o none = inr (λ x. cc x.1.1, λ v h. none v ((st.effect.1 o (Settled v)).0 h))
  settles_or_not s t (PutBack F) st a o none = inr (λ x. cc x.1.1, λ v h. none v (settled_before s t _ _ _ st.effect.1 settled_untaken o v h))
  settles_or_not s t (Ask w d) st a o none = inr (λ x. cc x.1.1, λ v h. none v ((st.effect.marks o (Settled v)).0 h))

  pub settled_once : (s : CoreState P N) (es : List (Event P N)) (t : CoreState P N) → Runs b s es t → Agrees b eq law s → (o : Obl P) (v : Verdict P N) → ((w : Verdict P N) → ¬ IsSettled s o w) → IsSettled t o v → IsSettledOnce es o v
  settled_once s [] t r a o v none h = absurd (none v (subst (λ (x : CoreState P N). IsSettled x o v) (sym r) h))
  settled_once s (e ∷ es) t r a o v none h =
      let after : Agrees b eq law r.0 = agrees_step b eq law s r.0 e r.1 a in
      elim (settles_or_not s r.0 e r.1 a o none) [
        | inl x ↦ (
            let end : IsSettled t o x.0.1.0 = runs_settled r.0 es t r.2 o x.0.1.0 x.1 in
            let same : x.0.1.0 ≡ v = same_verdict x.0.1.0 v ((agrees_runs b eq law r.0 es t r.2 after).one_mark o (Settled x.0.1.0) (Settled v) end h) in
            record {
              file = x.0.0;
              before = [];
              after = es;
              at = ap (λ (z : Event P N). z ∷ es) (x.0.1.1 ∙ ap (λ (z : Verdict P N). Settle x.0.0 o z) same);
              not_before = λ F w k. has [] (Settle F o w) k;
              not_after = none_after r.0 es t r.2 after o x.0.1.0 x.1;
            }
            )
        | inr x ↦ (
            let rest : IsSettledOnce es o v = settled_once r.0 es t r.2 after o v x.1 h in
            record {
              file = rest.file;
              before = e ∷ rest.before;
              after = rest.after;
              at = ap (λ (z : List (Event P N)). e ∷ z) rest.at;
              not_before = λ F w k. elim (has (e ∷ rest.before) (Settle F o w) k) [ inl q ↦ x.0 (F, (w, q)) | inr y ↦ rest.not_before F w (contains rest.before (Settle F o w) y) ];
              not_after = rest.not_after;
            }
            )
      ]
