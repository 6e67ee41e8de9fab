-- Each verdict is the book's, and where it delegates, the predicate is assumed.
use Rattle.std.proofs.Common.{◌≡◌, List, [], ◌∷◌, refl, sym, ◌∙◌, subst, inl, inr}
use Rattle.po_base.specs.declared.numbers.FunNo.{FunNo}
use Rattle.std.specs.Prelude.{Bool}
use Rattle.po_core.specs.Book.{Book, IsBook, IsPrimary, IsSupport}
use Rattle.po_core.proofs.Orderly.{Agrees, still_known, agrees_step, agrees_at_start}
use Rattle.po_core.specs.Core.{CoreState, IsKnown, IsSettled, IsAssumed, Steps, Runs, Replays, IsStart}
use Rattle.po_core.specs.Marks.{settled_untaken, settled_taken, same_verdict}
use Rattle.po_core.proofs.Remarks.{settled_before}
use Rattle.po_core.specs.declared.event.Event.{Event}
use Rattle.po_core.specs.declared.event.Event.TheVariants.{Take, Post, Settle, Give, PutBack, Ask}
use Rattle.po_core.specs.declared.event.Mark.TheVariants.{Untaken, Settled}
use Rattle.po_core.specs.declared.obl.Obl.{Obl}
use Rattle.po_core.specs.declared.obl.Verdict.{Verdict}
use Rattle.po_core.specs.declared.obl.Verdict.TheVariants.{Delegated}

module _ {P N T : Type 0} (b : Book P N T) (eq : P → P → Bool) (law : IsBook eq b) where
  -- what the least report needs of a verdict, its predicate's calls included
  pub record IsJudged (s : CoreState P N) : Type 0 where
    pub verdict : (o : Obl P) (v : Verdict P N) → IsSettled s o v → v ≡ b.verdict_of o
    pub backed : (o : Obl P) (v : Verdict P N) (q : P) → IsSettled s o v → v ≡ Delegated q → IsAssumed s o.fun q
    pub supported : (f : FunNo) (q : P) (o : Obl P) → IsAssumed s f q → IsSupport b f q o → IsKnown s o
    pub primaries : (o : Obl P) → IsPrimary b o → IsKnown s o

  judged_start : (s : CoreState P N) → IsStart b s → IsJudged s
  judged_start s st = record {
    verdict = λ o v h. absurd (settled_untaken v ((st.primaries o (Settled v)).0 h).0);
    backed = λ o v q h d. absurd (settled_untaken v ((st.primaries o (Settled v)).0 h).0);
    supported = λ f q o h p. absurd (st.none_assumed f q h);
    primaries = λ o p. (Untaken, (st.primaries o Untaken).1 (refl, p));
  }

  -- a step that settles nothing, assumes nothing and loses nothing
  judged_kept : (s t : CoreState P N) → ((o : Obl P) (v : Verdict P N) → IsSettled t o v → IsSettled s o v) → ((f : FunNo) (q : P) → IsAssumed t f q → IsAssumed s f q) → ((f : FunNo) (q : P) → IsAssumed s f q → IsAssumed t f q) → ((o : Obl P) → IsKnown s o → IsKnown t o) → IsJudged s → IsJudged t
  judged_kept s t settled back forth known i = record {
    verdict = λ o v h. i.verdict o v (settled o v h);
    backed = λ o v q h d. forth o.fun q (i.backed o v q (settled o v h) d);
    supported = λ f q o h p. known o (i.supported f q o (back f q h) p);
    primaries = λ o p. known o (i.primaries o p);
  }

  judged_step : (s t : CoreState P N) (e : Event P N) → Steps b e s t → Agrees b eq law s → IsJudged s → IsJudged t
  judged_step s t (Take w F) st a i = judged_kept s t (settled_before s t _ _ _ st.effect.marks settled_taken) (λ f q. (st.effect.assumed f q).0) (λ f q. (st.effect.assumed f q).1) (still_known b eq law s t (Take w F) st a) i
  judged_step s t (Post F p r) st a i =
      let known : (o : Obl P) → IsKnown s o → IsKnown t o = still_known b eq law s t (Post F p r) st a in
      let before : (o : Obl P) (v : Verdict P N) → IsSettled t o v → IsSettled s o v = λ o v h. elim ((st.effect.marks o (Settled v)).0 h) [ inl x ↦ x | inr x ↦ absurd (settled_untaken v x.0) ] in
      record {
        verdict = λ o v h. i.verdict o v (before o v h);
        backed = λ o v q h d. (st.effect.assumes o.fun q).1 (inl (i.backed o v q (before o v h) d));
        supported = λ f q o h c. elim ((st.effect.assumes f q).0 h) [
          | inl x ↦ known o (i.supported f q o x c)
          | inr x ↦ st.effect.knows o (subst (λ (z : P). IsSupport b p.fun z o) x.1 (subst (λ (g : FunNo). IsSupport b g q o) x.0 c))
        ];
        primaries = λ o c. known o (i.primaries o c);
      }
  judged_step s t (Settle F p w) st a i =
      let known : (o : Obl P) → IsKnown s o → IsKnown t o = still_known b eq law s t (Settle F p w) st a in
      record {
        verdict = λ o v h. elim ((st.effect.marks o (Settled v)).0 h) [
          | inl x ↦ same_verdict v w x.0 ∙ (st.legal.1 ∙ subst (λ (z : Obl P). b.verdict_of p ≡ b.verdict_of z) (sym x.2) refl)
          | inr x ↦ i.verdict o v x.0
        ];
        backed = λ o v q h d. (st.effect.assumed o.fun q).1 (elim ((st.effect.marks o (Settled v)).0 h) [
          | inl x ↦ subst (λ (z : Obl P). IsAssumed s z.fun q) (sym x.2) (st.legal.2 q (sym (same_verdict v w x.0) ∙ d))
          | inr x ↦ i.backed o v q x.0 d
        ]);
        supported = λ f q o h c. known o (i.supported f q o ((st.effect.assumed f q).0 h) c);
        primaries = λ o c. known o (i.primaries o c);
      }
  judged_step s t (Give w F) st a i = judged_kept s t (λ o v. (st.effect.1 o (Settled v)).0) (λ f q. (st.effect.0.assumed f q).0) (λ f q. (st.effect.0.assumed f q).1) (still_known b eq law s t (Give w F) st a) i
  judged_step s t (PutBack F) st a i = judged_kept s t (settled_before s t _ _ _ st.effect.1 settled_untaken) (λ f q. (st.effect.0.assumed f q).0) (λ f q. (st.effect.0.assumed f q).1) (still_known b eq law s t (PutBack F) st a) i
  judged_step s t (Ask w d) st a i = judged_kept s t (λ o v. (st.effect.marks o (Settled v)).0) (λ f q. (st.effect.assumed f q).0) (λ f q. (st.effect.assumed f q).1) (still_known b eq law s t (Ask w d) st a) i

  judged_runs : (s : CoreState P N) (es : List (Event P N)) (t : CoreState P N) → Runs b s es t → Agrees b eq law s → IsJudged s → IsJudged t
  judged_runs s [] t r a i = subst IsJudged r i
  judged_runs s (e ∷ es) t r a i = judged_runs r.0 es t r.2 (agrees_step b eq law s r.0 e r.1 a) (judged_step s r.0 e r.1 a i)

  pub judged : (es : List (Event P N)) (t : CoreState P N) → Replays b es t → IsJudged t
  judged es t r = judged_runs r.0 es t r.2 (agrees_at_start b eq law r.0 r.1) (judged_start r.0 r.1)
